use Rattle.std.proofs.Common.{◌≡◌, ℕ, ◌+◌, ◌<◌, length, get_or, drop}
use Rattle.abstraction.specs.Ranks.{product}
use Rattle.abstraction.specs.AbstractTasks.{abstract_of}
use Rattle.abstraction.proofs.Ranks.{lead}
use Rattle.abstraction.proofs.abstract_task.AbstractTask.state_of.Given as goal

abbrev pub invariant-loop-index : goal.invariant-loop-index
invariant-loop-index l =
    (length l.state ≡ 8)
    × (lead (abstract_of l.self).domains l.state l.index + l.rest ≡ l.rank)
    × (l.rest < product (drop l.index (abstract_of l.self).domains))
    × ((i : ℕ) → i < l.index → get_or l.state i 0 < get_or (abstract_of l.self).domains i 0)
