use Rattle.std.proofs.Common.{◌≡◌, ℕ, ◌-◌, ◌<◌, ◌≤◌, get_or}
use Rattle.abstraction.specs.AbstractTasks.{abstract_of}
use Rattle.projection.specs.Distances.{IsHeld}
use Rattle.projection.proofs.saturate.saturate.Given as goal

abbrev pub invariant-loop-operator : goal.invariant-loop-operator
invariant-loop-operator l =
    ((o : ℕ) → l.operator ≤ o → get_or l.row o 0 ≡ get_or l.initial.row o 0)
    × ((o : ℕ) → o < l.operator → (get_or l.row o 0 ≤ get_or l.initial.row o 0) × IsHeld (abstract_of l.abstract_task) l.table o (get_or l.initial.row o 0 - get_or l.row o 0))
