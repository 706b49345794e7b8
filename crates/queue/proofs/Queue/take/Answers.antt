-- What is taken is the top of the heap.
use Rattle.std.proofs.Common.{◌<◌, refl, arith}
use Rattle.queue.specs.Lawful.Orders.{entry_order}
use Rattle.queue.proofs.Held.{held_none}
use Rattle.queue.proofs.First.{first-held}
use Rattle.queue.proofs.Queue.take.Goals as goal

pub returns-then-self-eq0-clause-taken : goal.returns-then-self-eq0-clause-taken
returns-then-self-eq0-clause-taken g c =
    rw (← c.self.view_is) (record { empty = λ k. held_none c.self.invariant.indexed k (λ i d l e. omega arith); same = refl })

pub returns-clause-taken : goal.returns-clause-taken
returns-clause-taken g c =
    let q = c.self.inside.heap in
    let pos : 0 < q.len = omega arith in
    let order = entry_order g.met.T.Ord.total g.met.T.QueueEntry.matches_cmp g.met.T.QueueEntry.no_ties in
    rw (← c.self.view_is) (record {
      first = first-held g.T.QueueEntry.item_of g.T.QueueEntry.no_later order q c.index-self-0.result pos c.self.invariant;
      changed = c.remove_at.ensures.changed c.index-self-0.result;
      len = c.remove_at.ensures.len;
    })
