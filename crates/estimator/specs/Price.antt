-- Price rows, how an estimator takes its part of one, and what its answer owes at the prices it holds.
use Rattle.std.specs.Prelude.{◌≡◌, ℕ, ◌+◌, ◌<◌, ◌≤◌, List, [], ◌∷◌, length, Some, None, Option, slice_index}
use Rattle.task.specs.Model.{Model, Plan, Cost}

-- a price row of the task, which may be offered: one number of 0 to 65,535 an operator
pub record Offer (T : Model) (row : List ℕ) : Type 0 where
  pub long : length row ≡ length T.operators
  pub low : (k : ℕ) → k < length row → slice_index row k ≤ 65535

-- the price held and the price left add up to the price offered, for each operator
pub record Shares (row held left : List ℕ) : Type 0 where
  pub long_held : length held ≡ length row
  pub long_left : length left ≡ length row
  pub each : (k : ℕ) → slice_index held k + slice_index left k ≡ slice_index row k

-- a number: no plan from the state costs less at these prices; absent: there is no plan from the state
abbrev pub Admissible : Model → List ℕ → List ℕ → Option ℕ → Type 0
Admissible T held s (Some n) = (p : List ℕ) → Plan T s p → n ≤ Cost held p
Admissible T held s None = (p : List ℕ) → Plan T s p → ⊥

-- two price rows taken together, operator by operator
abbrev pub joined : (ℕ → ℕ → ℕ) → List ℕ → List ℕ → List ℕ
joined f [] ys = []
joined f (x ∷ xs) [] = []
joined f (x ∷ xs) (y ∷ ys) = f x y ∷ joined f xs ys
