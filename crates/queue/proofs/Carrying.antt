-- The turn of a loop that sifts: the entry f moves from p into the hole at i, and p becomes the hole that is for e.
use Rattle.std.proofs.Common.{◌≡◌, ℕ, ◌<◌, List, length, get_or, take, set, sym, refl, ap, ◌∙◌, subst, arith}
use Rattle.std.proofs.lemmas.List.{length-set, get_or-set_same, get_or-set_other}
use Rattle.queue.specs.Heap.{Room, Indexed}
use Rattle.queue.specs.Content.{held}
use Rattle.queue.proofs.Order.{Exchanged}
use Rattle.queue.proofs.Exchange.{indexed-on, held_on}

-- The rows zs and rs had e for the hole `from`; now they are xs and ps, with e for the hole i.
pub record Carrying {X : Type 0} (item_of : X → ℕ) (zs : List X) (rs : List ℕ) (m from : ℕ) (xs : List X) (ps : List ℕ) (n i : ℕ) (e : X) : Type 0 where
  pub len : n ≡ m
  pub within : i < n
  pub indexed : Indexed item_of (set xs i e) (set ps (item_of e) i) n
  pub long_entries : length xs ≡ length zs
  pub long_places : length ps ≡ length rs
  pub holds : (k : ℕ) → held item_of (take n (set xs i e)) k ≡ held item_of (take m (set zs from e)) k

pub carrying-none : {X : Type 0} (item_of : X → ℕ) (xs : List X) (ps : List ℕ) (n i : ℕ) (e : X) → i < n → Indexed item_of (set xs i e) (set ps (item_of e) i) n
    → Carrying item_of xs ps n i xs ps n i e
carrying-none item_of xs ps n i e l ix = record { len = refl; within = l; indexed = ix; long_entries = refl; long_places = refl; holds = λ k. refl }

module _ {X : Type 0} (item_of : X → ℕ) (zs xs : List X) (rs ps : List ℕ) (m from n i : ℕ) (e : X) (carried : Carrying item_of zs rs m from xs ps n i e) where
  pub hole-in : i < length xs
  hole-in = omega (arith, carried.indexed.fits, carried.within, length-set xs i e)

  was-e : (d : X) → get_or (set xs i e) i d ≡ e
  was-e d = get_or-set_same xs i e d hole-in

  pub item_in : item_of e < length ps
  item_in =
      let r : Room (set xs i e) (set ps (item_of e) i) (item_of e) =
      subst (λ z. Room (set xs i e) (set ps (item_of e) i) (item_of z)) (was-e e) (carried.indexed.room i e carried.within) in
      omega (arith, r.in_places, length-set ps (item_of e) i)

  module _ (p : ℕ) (f : X) (p-in : p < n) (apart : p ≡ i → ⊥) (is_f : (d : X) → get_or xs p d ≡ f) where
    was-f : (d : X) → get_or (set xs i e) p d ≡ f
    was-f d = get_or-set_other xs i p e d apart ∙ is_f d

    pub moved_in : item_of f < length ps
    moved_in =
        let r : Room (set xs i e) (set ps (item_of e) i) (item_of f) =
        subst (λ z. Room (set xs i e) (set ps (item_of e) i) (item_of z)) (was-f e) (carried.indexed.room p e p-in) in
        omega (arith, r.in_places, length-set ps (item_of e) i)

    pub exchanged : Exchanged (set xs i e) (set (set xs i f) p e) i p
    exchanged =
        let l : p < length (set xs i f) = omega (arith, carried.indexed.fits, length-set xs i e, length-set xs i f) in
        record {
          long = simp length-set;
          first = λ d. get_or-set_other (set xs i f) p i e d (λ q. apart (sym q)) ∙ get_or-set_same xs i f d hole-in ∙ sym (was-f d);
          second = λ d. get_or-set_same (set xs i f) p e d l ∙ sym (was-e d);
          rest = λ j d ni np. get_or-set_other (set xs i f) p j e d np ∙ get_or-set_other xs i j f d ni ∙ sym (get_or-set_other xs i j e d ni);
        }

    place-f : get_or (set ps (item_of e) i) (item_of f) 0 ≡ p
    place-f = ap (λ z. get_or (set ps (item_of e) i) (item_of z) 0) (sym (was-f e)) ∙ carried.indexed.place p e p-in

    differ : item_of f ≡ item_of e → ⊥
    differ q = apart (sym place-f ∙ ap (λ z. get_or (set ps (item_of e) i) z 0) q ∙ get_or-set_same ps (item_of e) i 0 item_in)

    at-e : get_or (set (set ps (item_of f) i) (item_of e) p) (item_of e) 0 ≡ p
    at-e =
        let l : item_of e < length (set ps (item_of f) i) = simp length-set item_in in
        get_or-set_same (set ps (item_of f) i) (item_of e) p 0 l

    at_f : get_or (set (set ps (item_of f) i) (item_of e) p) (item_of f) 0 ≡ i
    at_f = get_or-set_other (set ps (item_of f) i) (item_of e) (item_of f) p 0 differ ∙ get_or-set_same ps (item_of f) i 0 moved_in

    at-k : (k : ℕ) → (k ≡ item_of e → ⊥) → (k ≡ item_of f → ⊥) → get_or (set (set ps (item_of f) i) (item_of e) p) k 0 ≡ get_or (set ps (item_of e) i) k 0
    at-k k ne nf =
        get_or-set_other (set ps (item_of f) i) (item_of e) k p 0 ne ∙ get_or-set_other ps (item_of f) k i 0 nf
        ∙ sym (get_or-set_other ps (item_of e) k i 0 ne)

    long : length (set (set ps (item_of f) i) (item_of e) p) ≡ length (set ps (item_of e) i)
    long = simp length-set

    pub carrying-more : Carrying item_of zs rs m from (set xs i f) (set ps (item_of f) i) n p e
    carrying-more = record {
      len = carried.len;
      within = p-in;
      indexed = indexed-on item_of _ _ _ _ n i p e f carried.indexed carried.within p-in was-e was-f exchanged long at-e at_f at-k;
      long_entries = length-set xs i f ∙ carried.long_entries;
      long_places = length-set ps (item_of f) i ∙ carried.long_places;
      holds = λ k.
          held_on item_of _ _ _ _ n i p e f carried.indexed carried.within p-in was-e was-f exchanged long at-e at_f at-k k
          ∙ carried.holds k;
    }
