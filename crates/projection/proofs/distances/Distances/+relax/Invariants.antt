use Rattle.std.proofs.Common.{ℕ, ◌+◌, ◌-◌, ◌*◌, ◌<◌, ◌≤◌, length, get_or}
use Rattle.projection.specs.Dijkstra.{Relaxed, Preceding}
use Rattle.projection.proofs.distances.Distances.+relax.Given as goal

abbrev pub decreases-relax : goal.decreases-relax
decreases-relax l = length l.steps.now.abstract_task.now.pattern.now - l.place

abbrev pub invariant-loop-value : goal.invariant-loop-value
invariant-loop-value l =
    Relaxed (Preceding l.steps.abstract_task.now l.steps.operator l.steps.state.now l.place l.from) l.steps.distance l.fn.self l.self
    × ((y k : ℕ) → l.initial.value ≤ y → y < l.value → Preceding l.steps.abstract_task.now l.steps.operator l.steps.state.now (l.place + 1) (l.from + y * l.weight) k → get_or l.self.table.now k 0 ≤ l.steps.distance)
