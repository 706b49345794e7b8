-- How places and parts in memory stand for a task cut down to a pattern.
use Rattle.std.specs.Prelude.{◌≡◌, ℕ, ◌+◌, ◌<◌, ◌≤◌, List, [], length, drop, None, slice_index, slice_index_or}
use Rattle.task.specs.Model.{Model, operator}
use Rattle.abstraction.specs.declared.part.OperatorPart.{OperatorPart}
use Rattle.abstraction.specs.declared.part.AbstractOperator.{AbstractOperator}
use Rattle.abstraction.specs.declared.place.Place.{Place}
use Rattle.abstraction.specs.Patterns.{IsPattern}
use Rattle.abstraction.specs.Projected.{sizes, projected}
use Rattle.abstraction.specs.Ranks.{product}
use Rattle.abstraction.specs.Parts.{untouched, PartOf, GoalPart}

-- a place past the pattern
abbrev pub unused : Place
unused = record { domain = 0; weight = 0; goal = None }

-- past the operators
abbrev pub no_operator : AbstractOperator
no_operator = record { parts = [] }

-- the part of operator o at the place i
abbrev pub part_at : List AbstractOperator → ℕ → ℕ → OperatorPart
part_at os o i = slice_index_or (slice_index_or os o no_operator).parts i untouched

-- what the place i of the task P has
pub record PlaceOf (P : Model) (i : ℕ) (p : Place) : Type 0 where
  pub domain : p.domain ≡ slice_index P.domains i
  pub weight : p.weight ≡ product (drop (i + 1) P.domains)
  pub goal : GoalPart P.goal i p.goal

-- vs is a pattern of T of at most 65,536 ranks, and the places ps and operators os have what T cut down to it has
pub record Stands (T : Model) (vs : List ℕ) (ps : List Place) (os : List AbstractOperator) : Type 0 where
  pub pattern : IsPattern T vs
  pub few : product (sizes T vs) ≤ 65536
  pub long_places : length ps ≡ 8
  pub long_operators : length os ≡ 256
  pub long_parts : (o : ℕ) → o < 256 → length (slice_index_or os o no_operator).parts ≡ 8
  pub places : (i : ℕ) → i < length vs → PlaceOf (projected T vs) i (slice_index_or ps i unused)
  pub parts : (o i : ℕ) → o < length (projected T vs).operators → i < length vs
      → PartOf (operator (projected T vs) o) i (slice_index (projected T vs).domains i) (part_at os o i)
