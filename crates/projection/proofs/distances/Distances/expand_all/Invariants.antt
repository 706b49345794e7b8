use Rattle.std.proofs.Common.{◌≡◌}
use Rattle.abstraction.specs.AbstractTasks.{abstract_of}
use Rattle.projection.specs.Dijkstra.{Running, NoneLeft, work}
use Rattle.projection.proofs.distances.Distances.expand_all.Given as goal

abbrev pub invariant-loop-entry : goal.invariant-loop-entry
invariant-loop-entry l = Running (abstract_of l.abstract_task) l.row NoneLeft l.self × (l.self.table.ghost_name ≡ l.fn.self.table.ghost_name)

abbrev pub decreases-loop-entry : goal.decreases-loop-entry
decreases-loop-entry l = work l.self
