-- At most all operations so far agree.
use Rattle.std.proofs.Common.{◌≤◌}
use Rattle.queue_tests.proofs.agreeing.Given as goal

abbrev pub invariant-loop : goal.invariant-loop
invariant-loop l = l.agreed ≤ l.counter
