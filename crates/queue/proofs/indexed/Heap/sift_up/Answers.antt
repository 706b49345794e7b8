-- Each turn exchanges the sifted entry with its parent, so that it alone stays out of order.
use Rattle.std.proofs.Common.{◌≡◌, ◌<◌, false, length, get_or, set, sym, refl, ◌∙◌, arith}
use Rattle.std.proofs.lemmas.List.{length-set, get_or-set_same, get_or-set_other, get_or_default}
use Rattle.queue.specs.Heap.{parent, HeapOrdered}
use Rattle.queue.specs.Lawful.Orders.{TotalOrder, entry_order}
use Rattle.queue.proofs.Order.{up_step, up_top, up-end, compared}
use Rattle.queue.proofs.Carrying.{hole-in, item_in, moved_in, exchanged, carrying-more}
use Rattle.queue.proofs.indexed.Heap.sift_up.Given as given
use Rattle.queue.proofs.indexed.Heap.sift_up.Goals as goal
use Rattle.queue.proofs.indexed.Heap.sift_up.Goals.{else-loop-hole-test, then-loop-hole-test+then-no_later_than}

order : (g : given.Over) → TotalOrder g.T.QueueEntry.no_later
order g = entry_order g.met.T.Ord.total g.met.T.QueueEntry.matches_cmp g.met.T.QueueEntry.no_ties

pub write-requires-clause-item : goal.write-requires-clause-item
write-requires-clause-item g c =
    let xs = c.loop-hole.self.entries.now in
    let i = c.loop-hole.hole in
    let carried = c.loop-hole.invariant.0 in
    let lp : parent i < length xs = omega (arith, carried.within, carried.indexed.fits, length-set xs i c.args.sifted) in
    moved_in _ _ _ _ _ _ _ _ _ _ carried (parent i) _ (omega (arith, carried.within)) (omega arith) (λ d. get_or_default xs (parent i) d c.index-self-parent.result lp)

pub write-requires-2-clause-item : goal.write-requires-2-clause-item
write-requires-2-clause-item g c = item_in _ _ _ _ _ _ _ _ _ _ c.loop-hole.invariant.0

pub loop-hole-preserved : goal.loop-hole-preserved
loop-hole-preserved g c =
    let no_later = g.T.QueueEntry.no_later in
    let xs = c.loop-hole.self.entries.now in
    let i = c.loop-hole.hole in
    let e = c.args.sifted in
    let carried = c.loop-hole.invariant.0 in
    let pos : 0 < i = omega (arith, c.loop-hole-test.true) in
    let p-in : parent i < c.loop-hole.self.len = omega (arith, carried.within) in
    let apart : parent i ≡ i → ⊥ = λ z. omega arith in
    let lp : parent i < length xs = omega (arith, carried.indexed.fits, length-set xs i e) in
    let is_f : (d : g.row.T.Denot) → get_or xs (parent i) d ≡ get_or xs (parent i) c.index-self-parent.result = λ d. get_or_default xs (parent i) d c.index-self-parent.result lp in
    let late : (d : g.row.T.Denot) → no_later (get_or (set xs i e) (parent i) d) (get_or (set xs i e) i d) ≡ false =
    λ d. compared no_later _ _ _ _ (get_or-set_other xs i (parent i) e d apart ∙ is_f d)
    (get_or-set_same xs i e d (hole-in _ _ _ _ _ _ _ _ _ _ carried)) (sym c.if-no_later_than.ensures) in
    rw (c.write.ensures.entries, c.write.ensures.places, c.write.ensures.len) (
      carrying-more _ _ _ _ _ _ _ _ _ _ carried (parent i) _ p-in apart is_f,
      up_step no_later (order g) (set xs i e) _ _ i carried.within (parent i) refl pos c.loop-hole.invariant.1
          (exchanged _ _ _ _ _ _ _ _ _ _ carried (parent i) _ p-in apart is_f) late,
    )

pub returns : goal.returns
returns g c =
    let item_of = g.T.QueueEntry.item_of in
    let no_later = g.T.QueueEntry.no_later in
    let xs = c.loop-hole.self.entries.now in
    let n = c.loop-hole.self.len in
    let i = c.loop-hole.hole in
    let e = c.args.sifted in
    let carried = c.loop-hole.invariant.0 in
    let settled : HeapOrdered no_later (set xs i e) n =
    elim c.loop-hole-test.branch [
      | else-loop-hole-test w ↦ up_top no_later (order g) (set xs i e) (set xs i e) n i carried.within (omega (arith, w.loop-hole-test.false)) c.loop-hole.invariant.1
      | then-loop-hole-test+then-no_later_than w ↦
          let apart : parent i ≡ i → ⊥ = λ z. omega (arith, w.loop-hole-test.true) in
          let lp : parent i < length xs = omega (arith, carried.within, carried.indexed.fits, length-set xs i e) in
          up-end no_later (order g) (set xs i e) (set xs i e) n i carried.within c.loop-hole.invariant.1
          (λ d.
          compared no_later _ _ _ _
          (get_or-set_other xs i (parent i) e d apart ∙ get_or_default xs (parent i) d w.index-self-parent.result lp)
          (get_or-set_same xs i e d (hole-in _ _ _ _ _ _ _ _ _ _ carried)) (sym w.if-no_later_than.ensures))
    ] in
    rw (c.write-2.ensures.entries, c.write-2.ensures.places, c.write-2.ensures.len) (record {
      sound = record { indexed = carried.indexed; ordered = settled };
      rows = record { entries = length-set xs i e ∙ carried.long_entries; places = length-set c.loop-hole.self.places.now (item_of e) i ∙ carried.long_places };
      len = carried.len;
      holds = carried.holds;
    })
