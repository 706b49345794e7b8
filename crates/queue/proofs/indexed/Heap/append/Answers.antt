-- The end of the heap is a hole for an entry of a new item, and the entry goes up from there.
use Rattle.std.proofs.Common.{◌∙◌, arith}
use Rattle.queue.proofs.Changes.{indexed-end, held-end}
use Rattle.queue.proofs.indexed.Heap.append.Goals as goal

pub sift_up-requires-clause-hole : goal.sift_up-requires-clause-hole
sift_up-requires-clause-hole g c =
    record { within = omega arith; indexed = indexed-end _ _ _ c.args.self.now.len c.args.entry c.requires.sound.indexed c.requires.takes c.requires.number c.requires.missing }

pub returns-clause-changed : goal.returns-clause-changed
returns-clause-changed g c =
    λ k.
    c.sift_up.ensures.holds k ∙ held-end _ _ _ c.args.self.now.len c.args.entry c.requires.sound.indexed c.requires.takes c.requires.number c.requires.missing k
