-- Without its last entry, or with that in the place of another, the queue holds all but one item's entry.
use Rattle.std.proofs.Common.{◌≡◌, ℕ, ◌+◌, ◌-◌, ◌<◌, eqb, List, length, get_or, take, None, ap, ◌∙◌, subst, arith}
use Rattle.std.specs.Map.{update}
use Rattle.std.proofs.lemmas.List.{get_or_default}
use Rattle.queue.specs.Heap.{Indexed}
use Rattle.queue.specs.Content.{held}
use Rattle.queue.proofs.Changes.{held-less, indexed-moved, held_moved}
use Rattle.queue.proofs.indexed.Heap.remove_at.Goals as goal

-- a count that is not 0, as one more than another
one_more : {X : Type 0} {item_of : X → ℕ} {xs : List X} {ps : List ℕ} {m : ℕ} → Indexed item_of xs ps m → 0 < m → Indexed item_of xs ps (m - 1 + 1)
one_more {item_of = item_of} {xs = xs} {ps = ps} {m = m} ix pos = let is : m ≡ m - 1 + 1 = omega arith in subst (Indexed item_of xs ps) is ix

back_to : {X : Type 0} (item_of : X → ℕ) (xs : List X) (m item k : ℕ) → 0 < m
    → update eqb (held item_of (take (m - 1 + 1) xs)) item None k ≡ update eqb (held item_of (take m xs)) item None k
back_to item_of xs m item k pos = let is : m - 1 + 1 ≡ m = omega arith in ap (λ z. update eqb (held item_of (take z xs)) item None k) is

pub returns-then-place-last-clause-changed : goal.returns-then-place-last-clause-changed
returns-then-place-last-clause-changed g c =
    let item_of = g.T.QueueEntry.item_of in
    let q = c.args.self.now in
    let xs = q.entries.now in
    let pos : 0 < q.len = omega (arith, c.requires.within) in
    let is_last : q.len - 1 ≡ c.args.place = omega (arith, c.requires.within, c.if-place-last.true) in
    λ d k.
    held-less item_of xs q.places.now (q.len - 1) (one_more c.requires.sound.indexed pos) d k
    ∙ back_to item_of xs q.len (item_of (get_or xs (q.len - 1) d)) k pos
    ∙ ap (λ z. update eqb (held item_of (take q.len xs)) (item_of (get_or xs z d)) None k) is_last

pub refill-requires-clause-hole : goal.refill-requires-clause-hole
refill-requires-clause-hole g c =
    let q = c.args.self.now in
    let pos : 0 < q.len = omega (arith, c.requires.within) in
    let i-in : c.args.place < q.len - 1 = omega (arith, c.requires.within, c.if-place-last.false) in
    let l : q.len - 1 < length q.entries.now = omega (arith, c.requires.sound.indexed.fits) in
    record {
      within = i-in;
      indexed = indexed-moved _ q.entries.now q.places.now (q.len - 1) c.args.place _ (one_more c.requires.sound.indexed pos) i-in
          (λ d. get_or_default q.entries.now (q.len - 1) d c.index-self-last.result l);
    }

pub returns-clause-changed : goal.returns-clause-changed
returns-clause-changed g c =
    let item_of = g.T.QueueEntry.item_of in
    let q = c.args.self.now in
    let xs = q.entries.now in
    let pos : 0 < q.len = omega (arith, c.requires.within) in
    let i-in : c.args.place < q.len - 1 = omega (arith, c.requires.within, c.if-place-last.false) in
    let l : q.len - 1 < length xs = omega (arith, c.requires.sound.indexed.fits) in
    λ d k.
    c.refill.ensures.holds k
    ∙ held_moved item_of xs q.places.now (q.len - 1) c.args.place _ (one_more c.requires.sound.indexed pos) i-in
    (λ d'. get_or_default xs (q.len - 1) d' c.index-self-last.result l) d k
    ∙ back_to item_of xs q.len (item_of (get_or xs c.args.place d)) k pos
