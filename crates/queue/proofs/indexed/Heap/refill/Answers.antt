-- An entry that comes no later than the one it replaces goes up, any other goes down.
use Rattle.std.proofs.Common.{◌<◌, length, sym, refl, arith}
use Rattle.std.proofs.lemmas.List.{length-set, get_or_default}
use Rattle.queue.specs.Lawful.Orders.{TotalOrder, entry_order}
use Rattle.queue.proofs.Order.{compared}
use Rattle.queue.proofs.Changes.{up_at, down-at}
use Rattle.queue.proofs.indexed.Heap.refill.Given as given
use Rattle.queue.proofs.indexed.Heap.refill.Goals as goal

order : (g : given.Over) → TotalOrder g.T.QueueEntry.no_later
order g = entry_order g.met.T.Ord.total g.met.T.QueueEntry.matches_cmp g.met.T.QueueEntry.no_ties

pub sift_up-requires-clause-ordered : goal.sift_up-requires-clause-ordered
sift_up-requires-clause-ordered g c =
    let no_later = g.T.QueueEntry.no_later in
    let xs = c.args.self.now.entries.now in
    let i = c.args.place in
    let l : i < length xs = omega (arith, c.requires.hole.within, c.requires.hole.indexed.fits, length-set xs i c.args.sifted) in
    up_at no_later (order g) xs c.args.self.now.len i c.args.sifted c.requires.ordered c.requires.hole.within l
    (λ d. compared no_later _ _ _ _ refl (get_or_default xs i d c.index-self-place.result l) (sym c.if-no_later_than.ensures))

pub sift_down-requires-clause-ordered : goal.sift_down-requires-clause-ordered
sift_down-requires-clause-ordered g c =
    let no_later = g.T.QueueEntry.no_later in
    let xs = c.args.self.now.entries.now in
    let i = c.args.place in
    let l : i < length xs = omega (arith, c.requires.hole.within, c.requires.hole.indexed.fits, length-set xs i c.args.sifted) in
    down-at no_later (order g) xs c.args.self.now.len i c.args.sifted c.requires.ordered c.requires.hole.within l
    (λ d. compared no_later _ _ _ _ refl (get_or_default xs i d c.index-self-place.result l) (sym c.if-no_later_than.ensures))
