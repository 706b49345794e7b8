use Rattle.abstraction.specs.AbstractTasks.{abstract_of}
use Rattle.projection.specs.Dijkstra.{Running, LeftFrom, Later}
use Rattle.projection.proofs.distances.Distances.expand.Given as goal

abbrev pub invariant-loop-operator : goal.invariant-loop-operator
invariant-loop-operator l = Running (abstract_of l.abstract_task) l.row (LeftFrom l.rank l.operator) l.self × Later l.fn.self l.self
