-- What is written of a place and of an operator while a task is cut down to a pattern.
use Rattle.std.specs.Prelude.{◌≡◌, ℕ, ◌+◌, ◌<◌, min, List, length, drop, slice_index, slice_index_or}
use Rattle.task.specs.declared.task.Task.{Task}
use Rattle.task.specs.Model.{model, operator}
use Rattle.abstraction.specs.declared.part.OperatorPart.{OperatorPart}
use Rattle.abstraction.specs.declared.part.AbstractOperator.{AbstractOperator}
use Rattle.abstraction.specs.declared.place.Place.{Place}
use Rattle.abstraction.specs.Projected.{sizes}
use Rattle.abstraction.specs.Ranks.{product}
use Rattle.abstraction.specs.Parts.{untouched, PartOf, GoalPart}

-- the place i, if the pattern has it
pub record PlaceAt (t : Task) (pattern : List ℕ) (i : ℕ) (p : Place) : Type 0 where
  pub domain : i < length pattern → p.domain ≡ slice_index (model t).domains (slice_index pattern i)
  pub weight : i < length pattern → p.weight ≡ min (product (sizes (model t) (drop (i + 1) pattern))) 4294967295
  pub goal : i < length pattern → GoalPart (model t).goal (slice_index pattern i) p.goal

-- the part of operator o at the place i, if there are both
pub record PartAt (t : Task) (pattern : List ℕ) (o i : ℕ) (p : OperatorPart) : Type 0 where
  pub is : o < length t.operators.now → i < length pattern → PartOf (operator (model t) o) (slice_index pattern i) (slice_index (model t).domains (slice_index pattern i)) p

-- operator o, if there is one
pub record OperatorAt (t : Task) (pattern : List ℕ) (o : ℕ) (a : AbstractOperator) : Type 0 where
  pub long : length a.parts ≡ 8
  pub parts : (i : ℕ) → i < 8 → PartAt t pattern o i (slice_index_or a.parts i untouched)
