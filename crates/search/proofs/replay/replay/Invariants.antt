-- The run so far.
use Rattle.std.proofs.Common.{◌≡◌}
use Rattle.task.specs.Model.{model}
use Rattle.plain.specs.Plain.{opened}
use Rattle.plain.specs.Runs.{Run, Reached}
use Rattle.search.specs.Search.{plain_of}
use Rattle.search.specs.Replay.{RunOf}
use Rattle.memory.specs.Plans.{plan_text}
use Rattle.search.proofs.replay.replay.Given as goal

abbrev pub invariant-loop-place : goal.invariant-loop-place
invariant-loop-place g l =
    (l.search.task ≡ l.initial.search.task) × (l.search.core.memory.capacity ≡ l.initial.search.core.memory.capacity) ×
    (plain_of l.initial.search.core ≡ opened →
    (run : Run) × RunOf l.calls l.replies (record { row = l.initial.row; buffer = l.initial.buffer }) run l.place (record { row = l.row; buffer = l.buffer }) ×
    Reached g.E.Estimator.meaning (model l.initial.search.task) l.initial.search.core.memory.capacity (plan_text l.initial.search.task) l.initial.estimator run (plain_of l.search.core) l.estimator)
