-- Distances in a small task, a table of them, and the least prices that keep them: the saturated prices that a projection holds.
use Rattle.std.specs.Prelude.{◌≡◌, ℕ, ◌+◌, ◌<◌, ◌≤◌, cond, ◌⊎◌, List, length, Some, None, Option, ◌==◌, slice_index}
use Rattle.task.specs.Model.{Model, IsState, Applies, applied, Plan, Cost}
use Rattle.abstraction.specs.Ranks.{rank}

-- the distance of s: the least cost of a plan from it at the prices of the row; None: there is no plan from it
abbrev pub IsDistance : Model → List ℕ → List ℕ → Option ℕ → Type 0
IsDistance P row s (Some n) = ((p : List ℕ) × Plan P s p × (Cost row p ≡ n)) × ((p : List ℕ) → Plan P s p → n ≤ Cost row p)
IsDistance P row s None = (p : List ℕ) → Plan P s p → ⊥

-- what an entry of a table stands for: 4,294,967,295 for none
abbrev pub distance : ℕ → Option ℕ
distance n = cond (n == 4294967295) None (Some n)

-- what a table has for a state: the entry of its rank
abbrev pub at : Model → List ℕ → List ℕ → Option ℕ
at P table s = distance (slice_index table (rank P.domains s))

-- the table has the distance of each state, reachable or not
abbrev pub IsTable : Model → List ℕ → List ℕ → Type 0
IsTable P row table = (s : List ℕ) → IsState P s → IsDistance P row s (at P table s)

-- operator o leads from a state at distance m to one at distance n
pub record StepBetween (P : Model) (table : List ℕ) (o m n : ℕ) : Type 0 where
  pub from : List ℕ
  pub state : IsState P from
  pub applies : Applies P from o
  pub here : at P table from ≡ Some m
  pub there : at P table (applied P from o) ≡ Some n

-- the held price of operator o: the largest of the differences m - n, or 0 if that is below zero or there is none
pub record IsHeld (P : Model) (table : List ℕ) (o h : ℕ) : Type 0 where
  pub largest : (m n : ℕ) → StepBetween P table o m n → m ≤ n + h
  pub reached : (h ≡ 0) ⊎ ((m : ℕ) × (n : ℕ) × StepBetween P table o m n × (m ≡ n + h))

-- the held price of each operator
pub record HeldRow (P : Model) (table held : List ℕ) : Type 0 where
  pub long : length held ≡ length P.operators
  pub each : (o : ℕ) → o < length P.operators → IsHeld P table o (slice_index held o)

-- the definitions leave nothing open: a state has one distance, an operator one held price
pub record OneMeaning : Type 0 where
  pub one_distance : (P : Model) (row s : List ℕ) (x y : Option ℕ) → IsDistance P row s x → IsDistance P row s y → x ≡ y
  pub one_held : (P : Model) (table : List ℕ) (o x y : ℕ) → IsHeld P table o x → IsHeld P table o y → x ≡ y
