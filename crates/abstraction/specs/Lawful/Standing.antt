-- That places and parts stand for a task is one fact: it has one proof at most.
use Rattle.std.specs.Prelude.{◌≡◌, ℕ, ◌+◌, ◌<◌, ◌≤◌, List, [], ◌∷◌, length, drop, Some, None, Option, slice_index, slice_index_or}
use Rattle.std.specs.Coded.{×_prop, Unit-prop}
use denote.Struct.Props.{props}
use Rattle.tables.specs.declared.records.Entry.{Entry}
use Rattle.task.specs.Model.{Model, Action, Admits, operator}
use Rattle.abstraction.specs.declared.part.OperatorPart.{OperatorPart}
use Rattle.abstraction.specs.declared.part.AbstractOperator.{AbstractOperator}
use Rattle.abstraction.specs.declared.place.Place.{Place}
use Rattle.abstraction.specs.Patterns.{Listed, Rising, IsPattern}
use Rattle.abstraction.specs.Projected.{sizes, projected}
use Rattle.abstraction.specs.Ranks.{product}
use Rattle.abstraction.specs.Parts.{HoldsAt, AdmitsAt, value_after, or_else, PartOf, GoalPart}
use Rattle.abstraction.specs.Standing.{unused, no_operator, part_at, PlaceOf, Stands}

admits-prop : (x : ℕ) (required : Option ℕ) → IsProp (Admits x required)
admits-prop x None = Unit-prop
admits-prop x (Some y) = hlevel props

holds-prop : (v x : ℕ) (es : List Entry) → IsProp (HoldsAt v x es)
holds-prop v x [] = Unit-prop
holds-prop v x (e ∷ es) = let first : IsProp (e.variable ≡ v → x ≡ e.value) = hlevel props in ×_prop first (holds-prop v x es)

admits-at-prop : (v x : ℕ) (es : List Entry) → IsProp (AdmitsAt v x es)
admits-at-prop v x [] = Unit-prop
admits-at-prop v x (e ∷ es) = let first : IsProp (e.variable ≡ v → Admits x e.required) = hlevel (props, admits-prop) in ×_prop first (admits-at-prop v x es)

pattern-prop : (T : Model) (pattern : List ℕ) → IsProp (IsPattern T pattern)
pattern-prop T pattern a b =
    let few : IsProp (length pattern ≤ 8) = hlevel props in
    let within : IsProp (Listed T pattern) = hlevel props in
    let rising : IsProp (Rising pattern) = hlevel props in
    λ i. record { few = few a.few b.few i; within = within a.within b.within i; rising = rising a.rising b.rising i }

goal-prop : (goal : List Entry) (v : ℕ) (p : Option ℕ) → IsProp (GoalPart goal v p)
goal-prop goal v p a b =
    let needed : IsProp ((x : ℕ) → HoldsAt v x goal → Admits x p) = hlevel (props, admits-prop) in
    let enough : IsProp ((x : ℕ) → Admits x p → HoldsAt v x goal) = hlevel (props, holds-prop) in
    λ i. record { needed = needed a.needed b.needed i; enough = enough a.enough b.enough i }

part-prop : (o : Action) (v d : ℕ) (p : OperatorPart) → IsProp (PartOf o v d p)
part-prop o v d p a b =
    let needed : IsProp ((x : ℕ) → HoldsAt v x o.conditions → AdmitsAt v x o.effects → Admits x p.required) = hlevel (props, admits-prop) in
    let enough : IsProp ((x : ℕ) → Admits x p.required → HoldsAt v x o.conditions × AdmitsAt v x o.effects) = hlevel (props, holds-prop, admits-at-prop) in
    let after : IsProp ((x : ℕ) → or_else p.value x ≡ value_after v x o.effects) = hlevel props in
    let required_fits : IsProp ((x : ℕ) → p.required ≡ Some x → x < d) = hlevel props in
    let value_fits : IsProp ((x : ℕ) → p.value ≡ Some x → x < d) = hlevel props in
    λ i. record {
      needed = needed a.needed b.needed i;
      enough = enough a.enough b.enough i;
      after = after a.after b.after i;
      required_fits = required_fits a.required_fits b.required_fits i;
      value_fits = value_fits a.value_fits b.value_fits i;
    }

place-prop : (P : Model) (k : ℕ) (p : Place) → IsProp (PlaceOf P k p)
place-prop P k p a b =
    let domain : IsProp (p.domain ≡ slice_index P.domains k) = hlevel props in
    let weight : IsProp (p.weight ≡ product (drop (k + 1) P.domains)) = hlevel props in
    let goal : IsProp (GoalPart P.goal k p.goal) = goal-prop P.goal k p.goal in
    λ i. record { domain = domain a.domain b.domain i; weight = weight a.weight b.weight i; goal = goal a.goal b.goal i }

pub stands-prop : (T : Model) (vs : List ℕ) (ps : List Place) (os : List AbstractOperator) → IsProp (Stands T vs ps os)
stands-prop T vs ps os a b =
    let is_pattern : IsProp (IsPattern T vs) = pattern-prop T vs in
    let few : IsProp (product (sizes T vs) ≤ 65536) = hlevel props in
    let long_places : IsProp (length ps ≡ 8) = hlevel props in
    let long_operators : IsProp (length os ≡ 256) = hlevel props in
    let long_parts : IsProp ((o : ℕ) → o < 256 → length (slice_index_or os o no_operator).parts ≡ 8) = hlevel props in
    let each_place : IsProp ((k : ℕ) → k < length vs → PlaceOf (projected T vs) k (slice_index_or ps k unused)) = hlevel (props, place-prop) in
    let each_part : IsProp ((o k : ℕ) → o < length (projected T vs).operators → k < length vs
    → PartOf (operator (projected T vs) o) k (slice_index (projected T vs).domains k) (part_at os o k)) = hlevel (props, part-prop) in
    λ i. record {
      pattern = is_pattern a.pattern b.pattern i;
      few = few a.few b.few i;
      long_places = long_places a.long_places b.long_places i;
      long_operators = long_operators a.long_operators b.long_operators i;
      long_parts = long_parts a.long_parts b.long_parts i;
      places = each_place a.places b.places i;
      parts = each_part a.parts b.parts i;
    }
