-- With the sifted entry written into the hole, only it may be out of order, and only with its parent.
use Rattle.std.proofs.Common.{set}
use Rattle.queue.specs.Heap.{OrderedButAbove}
use Rattle.queue.proofs.Carrying.{Carrying}
use Rattle.queue.proofs.indexed.Heap.sift_up.Given as goal

abbrev pub invariant-loop-hole : goal.invariant-loop-hole
invariant-loop-hole g l =
    Carrying g.T.QueueEntry.item_of l.initial.self.entries.now l.initial.self.places.now l.initial.self.len l.place
    l.self.entries.now l.self.places.now l.self.len l.hole l.sifted
    × OrderedButAbove g.T.QueueEntry.no_later (set l.self.entries.now l.hole l.sifted) l.self.len l.hole

abbrev pub decreases-loop-hole : goal.decreases-loop-hole
decreases-loop-hole g l = l.hole
