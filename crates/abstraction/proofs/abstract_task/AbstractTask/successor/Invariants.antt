use Rattle.std.proofs.Common.{◌≡◌, ℕ, ◌<◌, ◌≤◌, length, get_or}
use Rattle.task.specs.Model.{Admits, applied}
use Rattle.abstraction.specs.Standing.{no_operator, part_at}
use Rattle.abstraction.specs.AbstractTasks.{abstract_of}
use Rattle.abstraction.proofs.Ranks.{lead}
use Rattle.abstraction.proofs.Walks.{Left}
use Rattle.abstraction.proofs.abstract_task.AbstractTask.successor.Given as goal

abbrev pub invariant-loop-part : goal.invariant-loop-part
invariant-loop-part l =
    (goal.iterator-loop-part).can_next l.part-iterator
    × (goal.iterator-loop-part).is_finite l.part-iterator
    × Left (get_or l.self.operators l.operator no_operator).parts l.self.places l.state (length l.yielded) l.part-iterator
    × (length l.yielded ≤ length l.state)
    × (l.rank ≡ lead (abstract_of l.self).domains (applied (abstract_of l.self) l.state l.operator) (length l.yielded))
    × ((i : ℕ) → i < length l.yielded → Admits (get_or l.state i 0) (part_at l.self.operators l.operator i).required)
