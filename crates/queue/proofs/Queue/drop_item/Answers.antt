-- An item without an entry loses none, and any other the one at its place.
use Rattle.std.proofs.Common.{◌+◌, eqb, None, refl, ap, ◌∙◌, arith}
use Rattle.std.specs.Map.{update}
use Rattle.queue.specs.Content.{content, counted}
use Rattle.queue.proofs.Held.{held_none, held-some, element, updated}
use Rattle.queue.proofs.Queue.drop_item.Goals as goal

pub returns-in_default-clause-dropped : goal.returns-in_default-clause-dropped
returns-in_default-clause-dropped g c =
    let holds = content g.T.QueueEntry.item_of c.self.inside.heap in
    rw (← c.self.view_is) (updated holds holds c.args.item None (held_none c.self.invariant.indexed c.args.item c.in_default.ensures) (λ k ne. refl))

pub returns-in_default-clause-resized : goal.returns-in_default-clause-resized
returns-in_default-clause-resized g c =
    rw (← c.self.view_is) (ap (λ z. c.self.inside.heap.len + counted z) (held_none c.self.invariant.indexed c.args.item c.in_default.ensures))

pub returns-in-Some-clause-dropped : goal.returns-in-Some-clause-dropped
returns-in-Some-clause-dropped g c =
    let q = c.self.inside.heap in
    let at = c.in-Some.ensures in
    let d = element q.entries.now c.in-Some.place (omega (arith, at.within, c.self.invariant.indexed.fits)) in
    rw (← c.self.view_is) (λ k. c.remove_at.ensures.changed d k ∙ ap (λ z. update eqb (content g.T.QueueEntry.item_of q) z None k) (at.is_for d))

pub returns-in-Some-clause-resized : goal.returns-in-Some-clause-resized
returns-in-Some-clause-resized g c =
    let q = c.self.inside.heap in
    let at = c.in-Some.ensures in
    let d = element q.entries.now c.in-Some.place (omega (arith, at.within, c.self.invariant.indexed.fits)) in
    let some = held-some c.self.invariant.indexed c.args.item c.in-Some.place d at.within (at.is_for d) in
    rw (← c.self.view_is) (ap (λ z. c.remove_at.new.self.len + counted z) some ∙ omega (arith, c.remove_at.ensures.len))
