-- Two entries that change places, with their places written so, are the same content.
use Rattle.std.proofs.Common.{◌≡◌, ℕ, ◌^◌, ◌<◌, List, length, get_or, take, sym, ap, ◌∙◌, subst, ⊎_elim, arith}
use Rattle.std.proofs.lemmas.Bool.{cases_eq}
use Rattle.queue.specs.Heap.{Room, Indexed}
use Rattle.queue.specs.Content.{held}
use Rattle.queue.proofs.Order.{Exchanged, there}
use Rattle.queue.proofs.Held.{held_same, one_place}

-- ys is xs with x at a and y at b exchanged, and qs is ps with their places so
module _ {X : Type 0} (item_of : X → ℕ) (xs ys : List X) (ps qs : List ℕ) (n a b : ℕ) (x y : X)
    (ix : Indexed item_of xs ps n) (a_in : a < n) (b-in : b < n)
    (is_x : (d : X) → get_or xs a d ≡ x) (is_y : (d : X) → get_or xs b d ≡ y)
    (ex : Exchanged xs ys a b) (long : length qs ≡ length ps)
    (at_x : get_or qs (item_of x) 0 ≡ b) (at_y : get_or qs (item_of y) 0 ≡ a)
    (at-k : (k : ℕ) → (k ≡ item_of x → ⊥) → (k ≡ item_of y → ⊥) → get_or qs k 0 ≡ get_or ps k 0) where
  -- the entry that is now at i, and where it was
  was : (i : ℕ) → i < n → (j : ℕ) × (j < n) × ((d : X) → get_or ys i d ≡ get_or xs j d)
  was i l =
      ⊎_elim
      (λ ia. (b, b-in, λ d. there ys d ia ∙ ex.first d))
      (λ na. ⊎_elim (λ ib. (a, a_in, λ d. there ys d ib ∙ ex.second d)) (λ nb. (i, l, λ d. ex.rest i d na nb)) (cases_eq i b))
      (cases_eq i a)

  -- the entry that was at i, and where it is now
  is-now : (i : ℕ) → i < n → (j : ℕ) × (j < n) × ((d : X) → get_or ys j d ≡ get_or xs i d)
  is-now i l =
      ⊎_elim
      (λ ia. (b, b-in, λ d. ex.second d ∙ there xs d (sym ia)))
      (λ na. ⊎_elim (λ ib. (a, a_in, λ d. ex.first d ∙ there xs d (sym ib))) (λ nb. (i, l, λ d. ex.rest i d na nb)) (cases_eq i b))
      (cases_eq i a)

  roomy : (k : ℕ) → Room xs ps k → Room ys qs k
  roomy k r = record { in_entries = omega (arith, r.in_entries, ex.long); in_places = omega (arith, r.in_places, long) }

  place-on : (i : ℕ) (d : X) → i < n → get_or qs (item_of (get_or ys i d)) 0 ≡ i
  place-on i d l =
      ⊎_elim
      (λ ia. ap (λ z. get_or qs (item_of z) 0) (there ys d ia ∙ ex.first d ∙ is_y d) ∙ at_y ∙ sym ia)
      (λ na.
      ⊎_elim
      (λ ib. ap (λ z. get_or qs (item_of z) 0) (there ys d ib ∙ ex.second d ∙ is_x d) ∙ at_x ∙ sym ib)
      (λ nb.
      ap (λ z. get_or qs (item_of z) 0) (ex.rest i d na nb)
      ∙ at-k (item_of (get_or xs i d))
      (λ q. na (one_place ix i a d d l a_in (q ∙ sym (ap item_of (is_x d)))))
      (λ q. nb (one_place ix i b d d l b-in (q ∙ sym (ap item_of (is_y d)))))
      ∙ ix.place i d l)
      (cases_eq i b))
      (cases_eq i a)

  pub indexed-on : Indexed item_of ys qs n
  indexed-on = record {
    fits = omega (arith, ix.fits, ex.long);
    small = ix.small;
    room = λ i d l. let w = was i l in subst (λ z. Room ys qs (item_of z)) (sym (w.2 d)) (roomy (item_of (get_or xs w.0 d)) (ix.room w.0 d w.1));
    number = λ i d l. let w = was i l in subst (λ z. item_of z < 2 ^ 32) (sym (w.2 d)) (ix.number w.0 d w.1);
    place = place-on;
  }

  pub held_on : (k : ℕ) → held item_of (take n ys) k ≡ held item_of (take n xs) k
  held_on k =
      held_same item_of xs ys ps qs n n k ix indexed-on
      (λ i at. is-now i at.within)
      (λ i at. let w = was i at.within in (w.0, w.1, λ d. sym (w.2 d)))
