use Rattle.std.proofs.Common.{◌≡◌}
use Rattle.abstraction.specs.AbstractTasks.{abstract_of}
use Rattle.projection.proofs.Running.{Seeded}
use Rattle.projection.proofs.distances.Distances.seed.Given as goal

abbrev pub invariant-loop-rank : goal.invariant-loop-rank
invariant-loop-rank l = Seeded (abstract_of l.abstract_task) l.rank l.self × (l.self.table.ghost_name ≡ l.fn.self.table.ghost_name)
