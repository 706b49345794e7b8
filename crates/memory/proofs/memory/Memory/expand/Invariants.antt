-- What stands when the operators below i were tried.
use Rattle.std.proofs.Common.{◌≡◌, ◌<◌}
use Rattle.task.specs.Model.{model}
use Rattle.plain.specs.Plain.{GeneratesAll}
use Rattle.memory.specs.Rows.{Consistent, Untouched, nodes_of, state_at}
use Rattle.memory.specs.Steps.{CostsBounded}
use Rattle.memory.proofs.memory.Memory.expand.Given as goal

abbrev pub invariant-loop-operator : goal.invariant-loop-operator
invariant-loop-operator g l = record {
  consistent : Consistent l.self;
  untouched : Untouched l.initial.self l.self;
  inside : l.node < l.self.held;
  row : l.row ≡ state_at l.self l.node;
  low : CostsBounded (model l.task) (nodes_of l.self);
  generated : GeneratesAll g.E.Estimator.meaning (model l.task) l.initial.self.capacity l.node 0 l.operator (nodes_of l.initial.self) l.initial.estimator (nodes_of l.self) l.estimator;
}
