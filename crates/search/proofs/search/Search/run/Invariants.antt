-- The expansions made so far are the plain search's.
use Rattle.std.proofs.Common.{◌≡◌}
use Rattle.task.specs.Model.{model}
use Rattle.plain.specs.Plain.{Expansions}
use Rattle.search.specs.declared.inner.Status.TheVariants.{Running}
use Rattle.memory.specs.Rows.{Untouched}
use Rattle.search.specs.Search.{plain_of}
use Rattle.search.proofs.search.Search.run.Given as goal

abbrev pub invariant-loop : goal.invariant-loop
invariant-loop g l = record {
  same : l.self.task ≡ l.initial.self.task;
  untouched : Untouched l.initial.self.core.memory l.self.core.memory;
  runs : l.self.core.status ≡ Running;
  made : Expansions g.E.Estimator.meaning (model l.initial.self.task) l.initial.self.core.memory.capacity l.counter (plain_of l.initial.self.core) l.initial.estimator (plain_of l.self.core) l.estimator;
}
