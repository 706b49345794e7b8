-- The search stays on its task, runs on, and counts up to its limit.
use Rattle.std.proofs.Common.{◌≡◌, ◌+◌, ◌-◌, ◌*◌}
use Rattle.task.specs.Model.{model, prices, dearest}
use Rattle.plain.specs.Plain.{running}
use Rattle.plain.specs.Runs.{Run, Reached}
use Rattle.memory.specs.Plans.{plan_text}
use Rattle.search.specs.Search.{plain_of}
use Rattle.planner.proofs.solve.run_to_end.Given as goal

abbrev pub invariant-loop-next : goal.invariant-loop-next
invariant-loop-next g l =
    (l.search.task ≡ l.initial.search.task) × (l.search.core.memory.capacity ≡ l.initial.search.core.memory.capacity)
    × (l.buffer ≡ l.initial.buffer)
    × ((start : g.row.E.Denot) (run : Run) →
    Reached g.E.Estimator.meaning (model l.initial.search.task) l.initial.search.core.memory.capacity (plan_text l.initial.search.task) start run (plain_of l.initial.search.core) l.initial.estimator →
    (plain_of l.initial.search.core).status ≡ running →
    ((more : Run) × Reached g.E.Estimator.meaning (model l.initial.search.task) l.initial.search.core.memory.capacity (plan_text l.initial.search.task) start more (plain_of l.search.core) l.estimator)
    × ((plain_of l.search.core).status ≡ running))

abbrev pub decreases-loop-next : goal.decreases-loop-next
decreases-loop-next g l = (l.initial.search.core.memory.capacity * ((l.initial.search.core.memory.capacity - 1) * dearest (prices (model l.initial.search.task)) + 1) + 1000) - l.search.core.total
