use Rattle.std.proofs.Common.{ℕ, ◌<◌, length, get_or}
use Rattle.abstraction.specs.AbstractTasks.{abstract_of}
use Rattle.projection.specs.Saturating.{HeldBelow}
use Rattle.projection.proofs.saturate.fill_held.Given as goal

abbrev pub invariant-loop-rank : goal.invariant-loop-rank
invariant-loop-rank l = (o : ℕ) → o < length (abstract_of l.abstract_task).operators → HeldBelow (abstract_of l.abstract_task) l.table o l.rank (get_or l.held o 0)
