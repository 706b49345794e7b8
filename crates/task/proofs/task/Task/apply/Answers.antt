-- A state is a row of one byte a variable; operators lead from states to states.
use Rattle.std.proofs.Common.{ℕ, Bool, true, false, List}
use Rattle.task.specs.Model.{Model, IsState, WellFormed}
use Rattle.task.specs.Answers.{MovedRow}
use Rattle.task.proofs.Actions.{task-well-formed}
use Rattle.task.proofs.task.Task.apply.Goals as goal

kept : (T : Model) (s : List ℕ) (i : ℕ) (after : List ℕ) (r : Bool) → WellFormed T → MovedRow r T s i after → IsState T s → IsState T after
kept T s i after true w m h = rw m.2 (w.stays s i h m.1)
kept T s i after false w m h = rw m.1 h

pub returns-then-is_state-clause-state : goal.returns-then-is_state-clause-state
returns-then-is_state-clause-state c = kept _ _ _ _ c.apply_to_row.result (task-well-formed c.args.self.now) c.apply_to_row.ensures
