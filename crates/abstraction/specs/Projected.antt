-- The abstract task: a task cut down to a pattern, whose variables become those of the pattern, numbered by their places.
use Rattle.std.specs.Prelude.{ℕ, suc, cond, List, [], ◌∷◌, map, Some, None, Option, ◌==◌, slice_index}
use Rattle.tables.specs.declared.records.Entry.{Entry}
use Rattle.task.specs.Model.{Model, Action}
use Rattle.abstraction.specs.Patterns.{abstraction}

-- how many values each variable of the pattern has
abbrev pub sizes : Model → List ℕ → List ℕ
sizes T pattern = map (λ v. slice_index T.domains v) pattern

abbrev pub next : Option ℕ → Option ℕ
next None = None
next (Some i) = Some (suc i)

-- the place of a variable in the pattern, if it stands there
abbrev pub place_of : List ℕ → ℕ → Option ℕ
place_of [] v = None
place_of (u ∷ pattern) v = cond (u == v) (Some 0) (next (place_of pattern v))

abbrev pub kept_at : Option ℕ → Entry → List Entry → List Entry
kept_at None e es = es
kept_at (Some i) e es = record { variable = i; required = e.required; value = e.value } ∷ es

-- the facts or effects on variables of the pattern
abbrev pub cut_down : List ℕ → List Entry → List Entry
cut_down pattern [] = []
cut_down pattern (e ∷ es) = kept_at (place_of pattern e.variable) e (cut_down pattern es)

abbrev pub cut_action : List ℕ → Action → Action
cut_action pattern o = record { price = o.price; conditions = cut_down pattern o.conditions; effects = cut_down pattern o.effects }

abbrev pub projected : Model → List ℕ → Model
projected T pattern = record {
  domains = sizes T pattern;
  initial = abstraction pattern T.initial;
  goal = cut_down pattern T.goal;
  operators = map (cut_action pattern) T.operators;
}
