use Rattle.std.proofs.Common.{ℕ, ◌+◌, ◌<◌, ◌≤◌, length, get_or}
use Rattle.abstraction.specs.AbstractTasks.{abstract_of}
use Rattle.projection.specs.Saturating.{HeldBelow}
use Rattle.projection.proofs.saturate.raise.Given as goal

abbrev pub invariant-loop-operator : goal.invariant-loop-operator
invariant-loop-operator l =
    ((o : ℕ) → o < l.operator → HeldBelow (abstract_of l.abstract_task) l.table o (l.rank + 1) (get_or l.held o 0))
    × ((o : ℕ) → l.operator ≤ o → o < length (abstract_of l.abstract_task).operators → HeldBelow (abstract_of l.abstract_task) l.table o l.rank (get_or l.held o 0))
