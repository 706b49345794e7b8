-- The places before the index hold their records' numbers.
use Rattle.std.proofs.Common.{ℕ, ◌<◌, get_or}
use Rattle.std.specs.Fn.{FnReturnsAt}
use Rattle.task.proofs.state.write_each.Given as goal

abbrev pub invariant-loop-i : goal.invariant-loop-i
invariant-loop-i g l = (k : ℕ) → k < l.i → (d : _) (e : _) → FnReturnsAt g.F.Fn l.number (get_or l.records k d) (get_or l.row k e)
