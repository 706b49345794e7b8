-- What facts and effects say of one variable, and an operator or a goal cut down to it.
use Rattle.std.specs.Prelude.{◌≡◌, ℕ, ◌<◌, cond, List, [], ◌∷◌, Some, None, Option, ◌==◌, option_map}
use Rattle.std.specs.List.{find}
use Rattle.tables.specs.declared.records.Entry.{Entry}
use Rattle.task.specs.Model.{Action, Admits}
use Rattle.abstraction.specs.declared.part.OperatorPart.{OperatorPart}

-- the facts on the variable v hold where it has the value x
abbrev pub HoldsAt : ℕ → ℕ → List Entry → Type 0
HoldsAt v x [] = Unit {0}
HoldsAt v x (e ∷ es) = (e.variable ≡ v → x ≡ e.value) × HoldsAt v x es

-- the effects on the variable v admit the value x
abbrev pub AdmitsAt : ℕ → ℕ → List Entry → Type 0
AdmitsAt v x [] = Unit {0}
AdmitsAt v x (e ∷ es) = (e.variable ≡ v → Admits x e.required) × AdmitsAt v x es

-- the value of the variable v after the effects, where it was x
abbrev pub value_after : ℕ → ℕ → List Entry → ℕ
value_after v x [] = x
value_after v x (e ∷ es) = value_after v (cond (e.variable == v) e.value x) es

-- the first fact or effect on the variable v
abbrev pub first_on : ℕ → List Entry → Option Entry
first_on v es = find (λ e. e.variable == v) es

-- the value that the first fact on the variable v gives it
abbrev pub value_on : ℕ → List Entry → Option ℕ
value_on v es = option_map (λ e. e.value) (first_on v es)

-- nothing is required of the variable, and it keeps its value
abbrev pub untouched : OperatorPart
untouched = record { required = None; value = None }

-- the part that an effect makes
abbrev pub effect_part : Entry → OperatorPart
effect_part e = record { required = e.required; value = Some e.value }

-- the part that the first effect on the variable v makes
abbrev pub effect_on : ℕ → List Entry → Option OperatorPart
effect_on v es = option_map effect_part (first_on v es)

-- the value that is set, or else the one before
abbrev pub or_else : Option ℕ → ℕ → ℕ
or_else None x = x
or_else (Some y) x = y

-- a value that the variable may have after the operator: the one that it sets, or, if it sets none, one that it admits
abbrev pub MayFollow : Option ℕ → Option ℕ → ℕ → Type 0
MayFollow required (Some y) x = x ≡ y
MayFollow required None x = Admits x required

-- the part is the operator cut down to the variable v, which has d values
pub record PartOf (o : Action) (v d : ℕ) (p : OperatorPart) : Type 0 where
  pub needed : (x : ℕ) → HoldsAt v x o.conditions → AdmitsAt v x o.effects → Admits x p.required
  pub enough : (x : ℕ) → Admits x p.required → HoldsAt v x o.conditions × AdmitsAt v x o.effects
  pub after : (x : ℕ) → or_else p.value x ≡ value_after v x o.effects
  pub required_fits : (x : ℕ) → p.required ≡ Some x → x < d
  pub value_fits : (x : ℕ) → p.value ≡ Some x → x < d

-- the value is the goal cut down to the variable v
pub record GoalPart (goal : List Entry) (v : ℕ) (p : Option ℕ) : Type 0 where
  pub needed : (x : ℕ) → HoldsAt v x goal → Admits x p
  pub enough : (x : ℕ) → Admits x p → HoldsAt v x goal
