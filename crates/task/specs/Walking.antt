-- What a walk along a list of operators answers, and two laws of lists of operators that are joined.
use Rattle.std.specs.Prelude.{◌≡◌, ℕ, ◌+◌, ◌-◌, ◌^◌, ◌<◌, ◌≤◌, min, List, ◌++◌, length, take, slice_index}
use Rattle.tables.specs.Tells.{Tells}
use Rattle.task.specs.declared.walk.Walked.{Walked}
use Rattle.task.specs.Model.{Model, IsState, Applies, Leads, Cost, cost}
use Rattle.task.specs.Answers.{IsGoalState}

-- from s, the first operators of p, so many at that cost, lead to u; then the list ends, or the next one does not apply.
-- From a row that is no state none is taken.
pub record Took (T : Model) (s p : List ℕ) (steps total : ℕ) (u : List ℕ) : Type 0 where
  pub within : steps ≤ length p
  pub leads : Leads T s (take steps p) u
  pub costs : total ≡ min (cost T (take steps p)) (2 ^ 32 - 1)
  pub stops : steps < length p → IsState T u × Applies T u (slice_index p steps) → ⊥
  pub states : IsState T s → IsState T u
  pub none : (IsState T s → ⊥) → steps ≡ 0

-- what a walk from s along p answers where it ended in u
pub record Walk (T : Model) (s p : List ℕ) (w : Walked) (u : List ℕ) : Type 0 where
  pub took : Took T s p w.steps w.cost u
  pub goal : Tells w.goal (IsGoalState T u)

-- a joined list costs what its parts cost together, at any price row
abbrev pub CostsJoin : Type 0
CostsJoin = (row p q : List ℕ) → Cost row (p ++ q) ≡ Cost row p + Cost row q

-- a list that leads from s to u and one that leads from u to w, joined, lead from s to w
abbrev pub LeadsJoin : Model → Type 0
LeadsJoin T = (p q s u w : List ℕ) → Leads T s p u → Leads T u q w → Leads T s (p ++ q) w
