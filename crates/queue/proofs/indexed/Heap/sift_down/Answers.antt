-- Each turn exchanges the sifted entry with its first child, so that it alone stays out of order.
use Rattle.std.proofs.Common.{◌≡◌, ℕ, ◌<◌, true, false, length, get_or, set, sym, refl, ◌∙◌, arith}
use Rattle.std.proofs.lemmas.List.{length-set, get_or-set_same, get_or-set_other, get_or_default}
use Rattle.queue.specs.Heap.{parent, HeapOrdered}
use Rattle.queue.specs.Lawful.Orders.{TotalOrder, entry_order}
use Rattle.queue.proofs.Order.{down_step, down-leaf, down-end, compared}
use Rattle.queue.proofs.Carrying.{hole-in, item_in, moved_in, exchanged, carrying-more}
use Rattle.queue.proofs.indexed.Heap.sift_down.Given as given
use Rattle.queue.proofs.indexed.Heap.sift_down.Goals as goal
use Rattle.queue.proofs.indexed.Heap.sift_down.Goals.{else-loop-hole-test, then-loop-hole-test+then-no_later_than}

order : (g : given.Over) → TotalOrder g.T.QueueEntry.no_later
order g = entry_order g.met.T.Ord.total g.met.T.QueueEntry.matches_cmp g.met.T.QueueEntry.no_ties

pub write-requires-clause-item : goal.write-requires-clause-item
write-requires-clause-item g c =
    let xs = c.loop-hole.self.entries.now in
    let i = c.loop-hole.hole in
    let k = c.least_child-child.result in
    let carried = c.loop-hole.invariant.0 in
    let least = c.least_child-child.ensures in
    let lk : k < length xs = omega (arith, least.within, carried.indexed.fits, length-set xs i c.args.sifted) in
    moved_in _ _ _ _ _ _ _ _ _ _ carried k _ least.within (λ z. omega (arith, least.child, least.below)) (λ d. get_or_default xs k d c.index-self-child.result lk)

pub write-requires-2-clause-item : goal.write-requires-2-clause-item
write-requires-2-clause-item g c = item_in _ _ _ _ _ _ _ _ _ _ c.loop-hole.invariant.0

pub loop-hole-preserved : goal.loop-hole-preserved
loop-hole-preserved g c =
    let no_later = g.T.QueueEntry.no_later in
    let xs = c.loop-hole.self.entries.now in
    let n = c.loop-hole.self.len in
    let i = c.loop-hole.hole in
    let k = c.least_child-child.result in
    let e = c.args.sifted in
    let carried = c.loop-hole.invariant.0 in
    let least = c.least_child-child.ensures in
    let apart : k ≡ i → ⊥ = λ z. omega (arith, least.child, least.below) in
    let lk : k < length xs = omega (arith, least.within, carried.indexed.fits, length-set xs i e) in
    let is_f : (d : g.row.T.Denot) → get_or xs k d ≡ get_or xs k c.index-self-child.result = λ d. get_or_default xs k d c.index-self-child.result lk in
    let late : (d : g.row.T.Denot) → no_later (get_or (set xs i e) i d) (get_or (set xs i e) k d) ≡ false =
    λ d. compared no_later _ _ _ _ (get_or-set_same xs i e d (hole-in _ _ _ _ _ _ _ _ _ _ carried))
    (get_or-set_other xs i k e d apart ∙ is_f d) (sym c.if-no_later_than.ensures) in
    let among : (j : ℕ) (d : g.row.T.Denot) → 0 < j → j < n → parent j ≡ i → no_later (get_or (set xs i e) k d) (get_or (set xs i e) j d) ≡ true =
    λ j d pos j-in p. compared no_later _ _ _ _ (get_or-set_other xs i k e d apart) (get_or-set_other xs i j e d (λ z. omega arith)) (least.least j d pos j-in p) in
    rw (c.write.ensures.entries, c.write.ensures.places, c.write.ensures.len) (
      carrying-more _ _ _ _ _ _ _ _ _ _ carried k _ least.within apart is_f,
      down_step no_later (order g) (set xs i e) _ n i carried.within k least.child least.below least.within c.loop-hole.invariant.1
          (exchanged _ _ _ _ _ _ _ _ _ _ carried k _ least.within apart is_f) late among,
    )

pub returns : goal.returns
returns g c =
    let item_of = g.T.QueueEntry.item_of in
    let no_later = g.T.QueueEntry.no_later in
    let xs = c.loop-hole.self.entries.now in
    let n = c.loop-hole.self.len in
    let i = c.loop-hole.hole in
    let e = c.args.sifted in
    let carried = c.loop-hole.invariant.0 in
    let settled : HeapOrdered no_later (set xs i e) n =
    elim c.loop-hole-test.branch [
      | else-loop-hole-test w ↦ down-leaf no_later (order g) (set xs i e) (set xs i e) n i carried.within (omega (arith, w.loop-hole-test.false)) c.loop-hole.invariant.1
      | then-loop-hole-test+then-no_later_than w ↦
          let k = w.least_child-child.result in
          let least = w.least_child-child.ensures in
          let apart : k ≡ i → ⊥ = λ z. omega (arith, least.child, least.below) in
          let lk : k < length xs = omega (arith, least.within, carried.indexed.fits, length-set xs i e) in
          down-end no_later (order g) (set xs i e) (set xs i e) n i carried.within c.loop-hole.invariant.1
          (λ j d pos j-in p.
          compared no_later _ _ _ _ (get_or-set_same xs i e d (hole-in _ _ _ _ _ _ _ _ _ _ carried)) (get_or-set_other xs i j e d (λ z. omega arith))
          ((order g).transitive _ _ _
          (compared no_later _ _ _ _ refl (get_or_default xs k d w.index-self-child.result lk) (sym w.if-no_later_than.ensures))
          (least.least j d pos j-in p)))
    ] in
    rw (c.write-2.ensures.entries, c.write-2.ensures.places, c.write-2.ensures.len) (record {
      sound = record { indexed = carried.indexed; ordered = settled };
      rows = record { entries = length-set xs i e ∙ carried.long_entries; places = length-set c.loop-hole.self.places.now (item_of e) i ∙ carried.long_places };
      len = carried.len;
      holds = carried.holds;
    })
