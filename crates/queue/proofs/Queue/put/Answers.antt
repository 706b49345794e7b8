-- An entry of a new item goes to the end, any other into the place of its item's entry.
use Rattle.std.proofs.Common.{◌+◌, ap, ◌∙◌, refl, arith}
use Rattle.queue.specs.Content.{Takes, counted}
use Rattle.queue.specs.Sifting.{Missing, At}
use Rattle.queue.proofs.Held.{held_none, held-some}
use Rattle.queue.proofs.Changes.{indexed-put, held-put}
use Rattle.queue.proofs.Queue.put.Goals as goal

pub refill-requires-clause-hole : goal.refill-requires-clause-hole
refill-requires-clause-hole g c =
    let q = c.self.inside.heap in
    let at : At g.T.QueueEntry.item_of q.entries.now q.len (g.T.QueueEntry.item_of c.args.entry) c.in-Some.place = rw (← c.item-item.ensures) c.in-Some.ensures in
    record { within = at.within; indexed = indexed-put _ q.entries.now q.places.now q.len c.in-Some.place c.args.entry c.self.invariant.indexed at }

pub returns-in-Some-clause-put : goal.returns-in-Some-clause-put
returns-in-Some-clause-put g c =
    let item_of = g.T.QueueEntry.item_of in
    let q = c.self.inside.heap in
    let e = c.args.entry in
    let ix = c.self.invariant.indexed in
    let takes : Takes q (item_of e) = rw (← c.item-item.ensures) (c.if-not-takes.ensures.inside refl) in
    let at : At item_of q.entries.now q.len (item_of e) c.in-Some.place = rw (← c.item-item.ensures) c.in-Some.ensures in
    let some = held-some ix (item_of e) c.in-Some.place e at.within (at.is_for e) in
    rw (← c.self.view_is) (record {
      takes = takes;
      changed = λ k. c.refill.ensures.holds k ∙ held-put item_of q.entries.now q.places.now q.len c.in-Some.place e ix at k;
      resized = ap (λ z. c.refill.new.self.len + counted z) some ∙ omega (arith, c.refill.ensures.len);
    })

pub returns-clause-put : goal.returns-clause-put
returns-clause-put g c =
    let item_of = g.T.QueueEntry.item_of in
    let q = c.self.inside.heap in
    let takes : Takes q (item_of c.args.entry) = rw (← c.item-item.ensures) (c.if-not-takes.ensures.inside refl) in
    let fresh : Missing item_of q.entries.now q.len (item_of c.args.entry) = rw (← c.item-item.ensures) c.in_default.ensures in
    let none = held_none c.self.invariant.indexed (item_of c.args.entry) fresh in
    rw (← c.self.view_is) (record {
      takes = takes;
      changed = c.append.ensures.changed;
      resized = ap (λ z. c.append.new.self.len + counted z) none ∙ omega (arith, c.append.ensures.len);
    })
