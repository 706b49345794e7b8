-- What the calls on a task answer, and what then stands in the rows that they were handed.
use Rattle.std.specs.Prelude.{◌≡◌, ℕ, Bool, true, false, List, length, MatchBool, ◌≢◌}
use Rattle.tables.specs.Tells.{Tells}
use Rattle.task.specs.Model.{Model, IsState, IsGoal, Applies, applied}

-- a row of the length of xs now holds xs; any other row is refused and stays
abbrev pub Filled : Bool → List ℕ → List ℕ → List ℕ → Type 0
Filled true row xs after = (length row ≡ length xs) × (after ≡ xs)
Filled false row xs after = (length row ≢ length xs) × (after ≡ row)

-- a state that has every goal fact
abbrev pub IsGoalState : Model → List ℕ → Type 0
IsGoalState T s = IsState T s × IsGoal T s

-- the row has one byte a variable, and every goal fact holds in it
abbrev pub HasGoal : Bool → Model → List ℕ → Type 0
HasGoal r T s = Tells r ((length s ≡ length T.domains) × IsGoal T s)

-- a row of one byte a variable became what operator i leads to; or the operator does not apply, and the row stays
abbrev pub MovedRow : Bool → Model → List ℕ → ℕ → List ℕ → Type 0
MovedRow r T s i after = MatchBool r ((length s ≡ length T.domains) × Applies T s i × (after ≡ applied T s i)) (((length s ≡ length T.domains) × Applies T s i → ⊥) × (after ≡ s))

-- the same, where only a state is moved
abbrev pub MovedState : Bool → Model → List ℕ → ℕ → List ℕ → Type 0
MovedState r T s i after = MatchBool r (IsState T s × Applies T s i × (after ≡ applied T s i)) ((IsState T s × Applies T s i → ⊥) × (after ≡ s))
