-- What a caller has of an estimator that it sets on a task at layer 1 and then asks about a row.
use Rattle.std.specs.Prelude.{◌≡◌, ℕ, List, Some, Ok, Err, Option}
use Rattle.task.specs.Model.{Model, IsState}
use Rattle.estimator.specs.Price.{Shares, Admissible}
use Rattle.estimator.specs.Laws.{Meaning}
use Rattle.estimator.specs.declared.fault.SetFault.{SetFault}

-- it was set and then asked, and is set on the task, holding what was taken out of the row; the answer about a state is
-- admissible at the prices held and at those offered, and about any other row it is 0
pub record Bound {E : Type 0} (m : Meaning E) (entry : E) (T : Model) (offered left row : List ℕ) (a : Option ℕ) (exit : E) : Type 0 where
  pub between : E
  pub was_set : m.sets entry T offered 1 (Ok tt) left between
  pub was_asked : m.answers between T row a exit
  pub held : List ℕ
  pub is_set : m.holds exit T held
  pub shares : Shares offered held left
  pub at_held : IsState T row → Admissible T held row a
  pub at_offered : IsState T row → Admissible T offered row a
  pub no_state : (IsState T row → ⊥) → a ≡ Some 0

-- the set was refused with this fault: it is unset, and the row stands
pub record Refused {E : Type 0} (m : Meaning E) (entry : E) (T : Model) (offered left : List ℕ) (fault : SetFault) (exit : E) : Type 0 where
  pub was_refused : m.sets entry T offered 1 (Err fault) left exit
  pub is_unset : m.unset exit
  pub stands : left ≡ offered
