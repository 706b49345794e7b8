use Rattle.std.proofs.Common.{◌≡◌, ℕ, ◌*◌, ◌<◌, ◌≤◌, length, get_or}
use Rattle.projection.specs.Projection.{weighed}
use Rattle.projection.proofs.rank.rank_in.Given as goal

abbrev pub invariant-loop-variable : goal.invariant-loop-variable
invariant-loop-variable l =
    (goal.iterator-loop-variable).can_next l.variable-iterator
    × (goal.iterator-loop-variable).is_finite l.variable-iterator
    × (l.rank ≡ weighed l.pattern l.weights l.state (length l.yielded))
    × (l.rank ≤ length l.yielded * 1095216660225)
    × ((i : ℕ) → i < length l.yielded → get_or l.pattern i 0 < length l.state)
