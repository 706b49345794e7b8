-- One entry more, one replaced, or one removed: the places are right with it, and the content changes for its item alone.
use Rattle.std.proofs.Common.{◌≡◌, ℕ, ◌+◌, ◌^◌, ◌<◌, ◌≤◌, Bool, true, false, eqb, List, length, get_or, take, set, Some, None, sym, refl, ap, ◌∙◌, subst, ⊎_elim, arith}
use Rattle.std.proofs.lemmas.List.{length-set, get_or-set_same, get_or-set_other}
use Rattle.std.proofs.lemmas.Bool.{cases_eq}
use Rattle.std.specs.Map.{update}
use Rattle.queue.specs.Heap.{parent, Room, Indexed, HeapOrdered, OrderedButAbove, OrderedButBelow}
use Rattle.queue.specs.Content.{held}
use Rattle.queue.specs.Sifting.{Missing, At}
use Rattle.queue.specs.Lawful.Orders.{TotalOrder}
use Rattle.queue.proofs.Order.{compared, there}
use Rattle.queue.proofs.Held.{held_none, held-some, held_same, one_place, updated}
use Rattle.queue.proofs.Pigeon.{room-left}

-- e at the end, for an item that has no entry
module _ {X : Type 0} (item_of : X → ℕ) (xs : List X) (ps : List ℕ) (n : ℕ) (e : X)
    (ix : Indexed item_of xs ps n) (room : Room xs ps (item_of e)) (number : item_of e < 2 ^ 32) (fresh : Missing item_of xs n (item_of e)) where
  pub end-in : n < length xs
  end-in =
      let h : n + 1 ≤ length xs = room-left item_of xs ps n (item_of e) e ix fresh (length xs) (λ i l. (ix.room i e l).in_entries) room.in_entries in
      omega arith

  pub end-small : n + 1 ≤ 2 ^ 32
  end-small = room-left item_of xs ps n (item_of e) e ix fresh (2 ^ 32) (λ i l. ix.number i e l) number

  at-end : (d : X) → get_or (set xs n e) n d ≡ e
  at-end d = get_or-set_same xs n e d end-in

  before : (i : ℕ) (d : X) → i < n → get_or (set xs n e) i d ≡ get_or xs i d
  before i d l = get_or-set_other xs n i e d (omega arith)

  roomy : (k : ℕ) → Room xs ps k → Room (set xs n e) (set ps (item_of e) n) k
  roomy k r = record { in_entries = simp length-set r.in_entries; in_places = simp length-set r.in_places }

  -- what holds of e and of every entry before it
  each : (P : ℕ → X → Type 0) → P n e → ((i : ℕ) (d : X) → i < n → P i (get_or xs i d)) → (i : ℕ) (d : X) → i < n + 1 → P i (get_or (set xs n e) i d)
  each P at_n below i d l =
      ⊎_elim
      (λ is. subst (λ z. P z (get_or (set xs n e) z d)) (sym is) (subst (P n) (sym (at-end d)) at_n))
      (λ ne. let b : i < n = omega arith in subst (P i) (sym (before i d b)) (below i d b))
      (cases_eq i n)

  pub indexed-end : Indexed item_of (set xs n e) (set ps (item_of e) n) (n + 1)
  indexed-end = record {
    fits = simp length-set (omega (arith, end-in));
    small = end-small;
    room = each (λ i x. Room (set xs n e) (set ps (item_of e) n) (item_of x)) (roomy (item_of e) room) (λ i d l. roomy (item_of (get_or xs i d)) (ix.room i d l));
    number = each (λ i x. item_of x < 2 ^ 32) number ix.number;
    place = each (λ i x. get_or (set ps (item_of e) n) (item_of x) 0 ≡ i)
        (get_or-set_same ps (item_of e) n 0 room.in_places)
        (λ i d l. get_or-set_other ps (item_of e) (item_of (get_or xs i d)) n 0 (fresh i d l) ∙ ix.place i d l);
  }

  pub ordered_end : (no_later : X → X → Bool) → HeapOrdered no_later xs n → OrderedButAbove no_later (set xs n e) (n + 1) n
  ordered_end no_later h = record {
    others = λ j d pos j-in ne. compared no_later _ _ _ _ (before (parent j) d (omega arith)) (before j d (omega arith)) (h j d pos (omega arith));
    across = λ j d pos j-in p n_pos. let b : ⊥ = omega arith in absurd b;
  }

  pub held-end : (k : ℕ) → held item_of (take (n + 1) (set xs n e)) k ≡ update eqb (held item_of (take n xs)) (item_of e) (Some e) k
  held-end =
      updated (held item_of (take n xs)) (held item_of (take (n + 1) (set xs n e))) (item_of e) (Some e)
      (held-some indexed-end (item_of e) n e (omega arith) (ap item_of (at-end e)) ∙ ap Some (at-end e))
      (λ k ne.
      held_same item_of xs (set xs n e) ps (set ps (item_of e) n) n (n + 1) k ix indexed-end
      (λ i at. (i, omega (arith, at.within), λ d. before i d at.within))
      (λ j at.
      let nj : j ≡ n → ⊥ = λ is. ne (sym (at.is_for e) ∙ ap item_of (there (set xs n e) e is ∙ at-end e)) in
      let l : j < n = omega (arith, at.within, nj) in
      (j, l, λ d. sym (before j d l))))

-- e in the place of its item's entry
module _ {X : Type 0} (item_of : X → ℕ) (xs : List X) (ps : List ℕ) (n i : ℕ) (e : X)
    (ix : Indexed item_of xs ps n) (at_i : At item_of xs n (item_of e) i) where
  place_in : i < length xs
  place_in = omega (arith, ix.fits, at_i.within)

  here : (d : X) → get_or (set xs i e) i d ≡ e
  here d = get_or-set_same xs i e d place_in

  -- the items stay
  item-at : (j : ℕ) (d : X) → item_of (get_or (set xs i e) j d) ≡ item_of (get_or xs j d)
  item-at j d =
      ⊎_elim
      (λ is. ap item_of (there (set xs i e) d is ∙ here d) ∙ sym (at_i.is_for d) ∙ ap item_of (there xs d (sym is)))
      (λ ne. ap item_of (get_or-set_other xs i j e d ne))
      (cases_eq j i)

  -- and so do the places
  place_at : (j : ℕ) (d : X) → j < n → get_or (set ps (item_of e) i) (item_of (get_or xs j d)) 0 ≡ j
  place_at j d l =
      ⊎_elim
      (λ is.
      let same : item_of (get_or xs j d) ≡ item_of e = ap item_of (there xs d is) ∙ at_i.is_for d in
      let m : item_of e < length ps = subst (λ z. z < length ps) same (ix.room j d l).in_places in
      ap (λ z. get_or (set ps (item_of e) i) z 0) same ∙ get_or-set_same ps (item_of e) i 0 m ∙ sym is)
      (λ ne.
      get_or-set_other ps (item_of e) (item_of (get_or xs j d)) i 0 (λ q. ne (one_place ix j i d d l at_i.within (q ∙ sym (at_i.is_for d))))
      ∙ ix.place j d l)
      (cases_eq j i)

  pub indexed-put : Indexed item_of (set xs i e) (set ps (item_of e) i) n
  indexed-put = record {
    fits = simp length-set ix.fits;
    small = ix.small;
    room = λ j d l.
        let r = ix.room j d l in
        rw (item-at j d) (record { in_entries = simp length-set r.in_entries; in_places = simp length-set r.in_places });
    number = λ j d l. rw (item-at j d) (ix.number j d l);
    place = λ j d l. ap (λ z. get_or (set ps (item_of e) i) z 0) (item-at j d) ∙ place_at j d l;
  }

  pub held-put : (k : ℕ) → held item_of (take n (set xs i e)) k ≡ update eqb (held item_of (take n xs)) (item_of e) (Some e) k
  held-put =
      updated (held item_of (take n xs)) (held item_of (take n (set xs i e))) (item_of e) (Some e)
      (held-some indexed-put (item_of e) i e at_i.within (ap item_of (here e)) ∙ ap Some (here e))
      (λ k ne.
      let apart : (j : ℕ) → (item_of (get_or xs j e) ≡ k) → j ≡ i → ⊥ = λ j q is. ne (sym q ∙ ap item_of (there xs e is) ∙ at_i.is_for e) in
      held_same item_of xs (set xs i e) ps (set ps (item_of e) i) n n k ix indexed-put
      (λ j at. (j, at.within, λ d. get_or-set_other xs i j e d (apart j (at.is_for e))))
      (λ j at. (j, at.within, λ d. sym (get_or-set_other xs i j e d (apart j (sym (item-at j e) ∙ at.is_for e))))))

-- a heap with e in the place of the entry at i
module _ {X : Type 0} (no_later : X → X → Bool) (o : TotalOrder no_later) (xs : List X) (n i : ℕ) (e : X) (h : HeapOrdered no_later xs n) (i-in : i < n) (fits : i < length xs) where
  new : (d : X) → get_or (set xs i e) i d ≡ e
  new d = get_or-set_same xs i e d fits

  old : (j : ℕ) (d : X) → (j ≡ i → ⊥) → get_or (set xs i e) j d ≡ get_or xs j d
  old j d ne = get_or-set_other xs i j e d ne

  across-at : (j : ℕ) (d : X) → 0 < j → j < n → parent j ≡ i → 0 < i → no_later (get_or (set xs i e) (parent i) d) (get_or (set xs i e) j d) ≡ true
  across-at j d pos j-in p i-pos =
      compared no_later _ _ _ _ (old (parent i) d (omega arith)) (old j d (omega arith))
      (o.transitive _ _ _ (h i d i-pos i-in) (compared no_later _ _ _ _ (there xs d (sym p)) refl (h j d pos j-in)))

  pub up_at : ((d : X) → no_later e (get_or xs i d) ≡ true) → OrderedButAbove no_later (set xs i e) n i
  up_at first = record {
    others = λ j d pos j-in ne.
        ⊎_elim
        (λ p.
        compared no_later _ _ _ _ (there (set xs i e) d p ∙ new d) (old j d ne)
        (o.transitive _ _ _ (first d) (compared no_later _ _ _ _ (there xs d (sym p)) refl (h j d pos j-in))))
        (λ np. compared no_later _ _ _ _ (old (parent j) d np) (old j d ne) (h j d pos j-in))
        (cases_eq (parent j) i);
    across = across-at;
  }

  pub down-at : ((d : X) → no_later e (get_or xs i d) ≡ false) → OrderedButBelow no_later (set xs i e) n i
  down-at late = record {
    others = λ j d pos j-in np.
        ⊎_elim
        (λ is.
        compared no_later _ _ _ _ (old (parent j) d np) (there (set xs i e) d is ∙ new d)
        (o.transitive _ _ _ (compared no_later _ _ _ _ refl (there xs d (sym is)) (h j d pos j-in)) (o.total _ _ (late d))))
        (λ ne. compared no_later _ _ _ _ (old (parent j) d np) (old j d ne) (h j d pos j-in))
        (cases_eq j i);
    across = across-at;
  }

-- the last entry gone
module _ {X : Type 0} (item_of : X → ℕ) (xs : List X) (ps : List ℕ) (n : ℕ) (ix : Indexed item_of xs ps (n + 1)) where
  pub indexed-less : Indexed item_of xs ps n
  indexed-less = record {
    fits = omega (arith, ix.fits);
    small = omega (arith, ix.small);
    room = λ i d l. ix.room i d (omega arith);
    number = λ i d l. ix.number i d (omega arith);
    place = λ i d l. ix.place i d (omega arith);
  }

  pub held-less : (d : X) (k : ℕ) → held item_of (take n xs) k ≡ update eqb (held item_of (take (n + 1) xs)) (item_of (get_or xs n d)) None k
  held-less d =
      updated (held item_of (take (n + 1) xs)) (held item_of (take n xs)) (item_of (get_or xs n d)) None
      (held_none indexed-less (item_of (get_or xs n d)) (λ j d' l q. let z : j ≡ n = one_place ix j n d' d (omega arith) (omega arith) q in omega arith))
      (λ k ne.
      held_same item_of xs xs ps ps (n + 1) n k ix indexed-less
      (λ i at.
      let ni : i ≡ n → ⊥ = λ is. ne (sym (at.is_for d) ∙ ap item_of (there xs d is)) in
      (i, omega (arith, at.within, ni), λ d'. refl))
      (λ j at. (j, omega (arith, at.within), λ d'. refl)))

-- the last entry, e, in the place of the one at i
module _ {X : Type 0} (item_of : X → ℕ) (xs : List X) (ps : List ℕ) (n i : ℕ) (e : X)
    (ix : Indexed item_of xs ps (n + 1)) (i-in : i < n) (is-e : (d : X) → get_or xs n d ≡ e) where
  hole-in : i < length xs
  hole-in = omega (arith, ix.fits)

  filled : (d : X) → get_or (set xs i e) i d ≡ e
  filled d = get_or-set_same xs i e d hole-in

  other : (j : ℕ) (d : X) → (j ≡ i → ⊥) → get_or (set xs i e) j d ≡ get_or xs j d
  other j d ne = get_or-set_other xs i j e d ne

  roomy-in : (k : ℕ) → Room xs ps k → Room (set xs i e) (set ps (item_of e) i) k
  roomy-in k r = record { in_entries = simp length-set r.in_entries; in_places = simp length-set r.in_places }

  -- what holds of e at i and of the entries elsewhere
  all : (P : ℕ → X → Type 0) → P i e → ((j : ℕ) (d : X) → j < n → (j ≡ i → ⊥) → P j (get_or xs j d)) → (j : ℕ) (d : X) → j < n → P j (get_or (set xs i e) j d)
  all P at_i apart j d l =
      ⊎_elim
      (λ is. subst (λ z. P z (get_or (set xs i e) z d)) (sym is) (subst (P i) (sym (filled d)) at_i))
      (λ ne. subst (P j) (sym (other j d ne)) (apart j d l ne))
      (cases_eq j i)

  room-e : Room xs ps (item_of e)
  room-e = subst (λ z. Room xs ps (item_of z)) (is-e e) (ix.room n e (omega arith))

  pub indexed-moved : Indexed item_of (set xs i e) (set ps (item_of e) i) n
  indexed-moved = record {
    fits = simp length-set (omega (arith, ix.fits));
    small = omega (arith, ix.small);
    room = all (λ j x. Room (set xs i e) (set ps (item_of e) i) (item_of x)) (roomy-in (item_of e) room-e)
        (λ j d l ne. roomy-in (item_of (get_or xs j d)) (ix.room j d (omega arith)));
    number = all (λ j x. item_of x < 2 ^ 32) (subst (λ z. item_of z < 2 ^ 32) (is-e e) (ix.number n e (omega arith))) (λ j d l ne. ix.number j d (omega arith));
    place = all (λ j x. get_or (set ps (item_of e) i) (item_of x) 0 ≡ j)
        (get_or-set_same ps (item_of e) i 0 room-e.in_places)
        (λ j d l ne.
        get_or-set_other ps (item_of e) (item_of (get_or xs j d)) i 0
        (λ q. let z : j ≡ n = one_place ix j n d d (omega arith) (omega arith) (q ∙ ap item_of (sym (is-e d))) in omega arith)
        ∙ ix.place j d (omega arith));
  }

  pub held_moved : (d : X) (k : ℕ) → held item_of (take n (set xs i e)) k ≡ update eqb (held item_of (take (n + 1) xs)) (item_of (get_or xs i d)) None k
  held_moved d =
      updated (held item_of (take (n + 1) xs)) (held item_of (take n (set xs i e))) (item_of (get_or xs i d)) None
      (held_none indexed-moved (item_of (get_or xs i d))
      (all (λ j x. item_of x ≡ item_of (get_or xs i d) → ⊥)
      (λ q. let z : n ≡ i = one_place ix n i d d (omega arith) (omega arith) (ap item_of (is-e d) ∙ q) in omega arith)
      (λ j d' l ne q. ne (one_place ix j i d' d (omega arith) (omega arith) q))))
      (λ k ne.
      held_same item_of xs (set xs i e) ps (set ps (item_of e) i) (n + 1) n k ix indexed-moved
      (λ j at.
      let ni : j ≡ i → ⊥ = λ is. ne (sym (at.is_for d) ∙ ap item_of (there xs d is)) in
      ⊎_elim
      (λ is. (i, i-in, λ d'. filled d' ∙ sym (is-e d') ∙ there xs d' (sym is)))
      (λ nn. (j, omega (arith, at.within), λ d'. other j d' ni))
      (cases_eq j n))
      (λ j at.
      ⊎_elim
      (λ is. (n, omega arith, λ d'. is-e d' ∙ sym (filled d') ∙ there (set xs i e) d' (sym is)))
      (λ ni. (j, omega (arith, at.within), λ d'. sym (other j d' ni)))
      (cases_eq j i)))
