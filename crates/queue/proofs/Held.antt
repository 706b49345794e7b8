-- What is held for an item, by the place of its entry.
use Rattle.std.proofs.Common.{◌≡◌, ℕ, zero, suc, ◌<◌, eqb, ◌⊎◌, List, [], ◌∷◌, length, get_or, take, Some, None, Option, sym, refl, ap, ◌∙◌, inl, inr, ⊎_elim, arith}
use Rattle.std.proofs.lemmas.List.{length-take-le, get_or-take}
use Rattle.std.proofs.lemmas.Bool.{cases_eq, eq-eqb, ne_eqb, cond-true, cond-false}
use Rattle.std.proofs.lemmas.Map.{update_here, update_apart}
use Rattle.std.specs.Map.{update}
use Rattle.queue.specs.Heap.{Indexed}
use Rattle.queue.specs.Content.{held}
use Rattle.queue.specs.Sifting.{Missing, At}

none_in : {X : Type 0} (item_of : X → ℕ) (ys : List X) (k : ℕ) → Missing item_of ys (length ys) k → held item_of ys k ≡ None
unfolding held
none_in item_of [] k none = refl
none_in item_of (x ∷ ys) k none =
    cond-false _ _ _ (ne_eqb (item_of x) k (none 0 x (omega arith)))
    ∙ none_in item_of ys k (λ i d l e. none (suc i) d (omega arith) e)

one_in : {X : Type 0} (item_of : X → ℕ) (ys : List X) (k i : ℕ) (d : X) → i < length ys → item_of (get_or ys i d) ≡ k
    → ((j : ℕ) → j < length ys → item_of (get_or ys j d) ≡ k → j ≡ i) → held item_of ys k ≡ Some (get_or ys i d)
unfolding held
one_in item_of [] k i d l is one = let b : ⊥ = omega arith in absurd b
one_in item_of (x ∷ ys) k zero d l is one = cond-true _ _ _ (eq-eqb (item_of x) k is)
one_in item_of (x ∷ ys) k (suc i) d l is one =
    cond-false _ _ _ (ne_eqb (item_of x) k (λ e. let z : 0 ≡ suc i = one 0 (omega arith) e in omega arith))
    ∙ one_in item_of ys k i d (omega arith) is (λ j m e. let z : suc j ≡ suc i = one (suc j) (omega arith) e in omega arith)

located : {X : Type 0} (item_of : X → ℕ) (ys : List X) (k : ℕ) → ((i : ℕ) × At item_of ys (length ys) k i) ⊎ Missing item_of ys (length ys) k
located item_of [] k = inr (λ i d l e. omega arith)
located item_of (x ∷ ys) k =
    ⊎_elim
    (λ is. inl (0, record { within = omega arith; is_for = λ d. is }))
    (λ ne.
    ⊎_elim
    (λ w. inl (suc w.0, record { within = omega (arith, w.1.within); is_for = w.1.is_for }))
    (λ none. inr (later none ne))
    (located item_of ys k))
    (cases_eq (item_of x) k)
  where
    later : Missing item_of ys (length ys) k → (item_of x ≡ k → ⊥) → Missing item_of (x ∷ ys) (length (x ∷ ys)) k
    later none ne zero d l e = ne e
    later none ne (suc i) d l e = none i d (omega arith) e

-- the same of the first n entries
module _ {X : Type 0} {item_of : X → ℕ} {xs : List X} {ps : List ℕ} {n : ℕ} (ix : Indexed item_of xs ps n) where
  long : length (take n xs) ≡ n
  long = length-take-le n xs ix.fits

  pub held_none : (k : ℕ) → Missing item_of xs n k → held item_of (take n xs) k ≡ None
  held_none k none =
      none_in item_of (take n xs) k (λ i d l e. let m : i < n = omega (arith, long) in none i d m (sym (ap item_of (get_or-take n xs i d m)) ∙ e))

  -- no two entries are for one item
  pub one_place : (i j : ℕ) (d e : X) → i < n → j < n → item_of (get_or xs i d) ≡ item_of (get_or xs j e) → i ≡ j
  one_place i j d e l m q = sym (ix.place i d l) ∙ ap (λ z. get_or ps z 0) q ∙ ix.place j e m

  pub held-some : (k i : ℕ) (d : X) → i < n → item_of (get_or xs i d) ≡ k → held item_of (take n xs) k ≡ Some (get_or xs i d)
  held-some k i d l is =
      let at_i : get_or (take n xs) i d ≡ get_or xs i d = get_or-take n xs i d l in
      one_in item_of (take n xs) k i d (omega (arith, long)) (ap item_of at_i ∙ is)
      (λ j m e. let j-in : j < n = omega (arith, long) in one_place j i d d j-in l (sym (ap item_of (get_or-take n xs j d j-in)) ∙ e ∙ sym is))
      ∙ ap Some at_i

  pub either : (k : ℕ) → ((i : ℕ) × At item_of xs n k i) ⊎ Missing item_of xs n k
  either k =
      ⊎_elim
      (λ w.
      let l : w.0 < n = omega (arith, w.1.within, long) in
      inl (w.0, record { within = l; is_for = λ d. sym (ap item_of (get_or-take n xs w.0 d l)) ∙ w.1.is_for d }))
      (λ none. inr (λ i d l e. none i d (omega (arith, long)) (ap item_of (get_or-take n xs i d l) ∙ e)))
      (located item_of (take n xs) k)

-- some element of a list that is not empty
pub element : {X : Type 0} (xs : List X) (i : ℕ) → i < length xs → X
element [] i l = let b : ⊥ = omega arith in absurd b
element (x ∷ xs) i l = x

-- two queues hold the same for an item if each entry for it in one stands somewhere in the other
pub held_same : {X : Type 0} (item_of : X → ℕ) (xs ys : List X) (ps qs : List ℕ) (n m k : ℕ) → Indexed item_of xs ps n → Indexed item_of ys qs m
    → ((i : ℕ) → At item_of xs n k i → (j : ℕ) × (j < m) × ((d : X) → get_or ys j d ≡ get_or xs i d))
    → ((j : ℕ) → At item_of ys m k j → (i : ℕ) × (i < n) × ((d : X) → get_or xs i d ≡ get_or ys j d))
    → held item_of (take m ys) k ≡ held item_of (take n xs) k
held_same item_of xs ys ps qs n m k ix iy there back =
    ⊎_elim
    (λ w.
    let i : ℕ = w.0 in
    let d = element xs i (omega (arith, w.1.within, ix.fits)) in
    let t = there i w.1 in
    held-some iy k t.0 d t.1 (ap item_of (t.2 d) ∙ w.1.is_for d) ∙ ap Some (t.2 d) ∙ sym (held-some ix k i d w.1.within (w.1.is_for d)))
    (λ none.
    ⊎_elim
    (λ w.
    let d = element ys w.0 (omega (arith, w.1.within, iy.fits)) in
    let t = back w.0 w.1 in
    absurd (none t.0 d t.1 (ap item_of (t.2 d) ∙ w.1.is_for d)))
    (λ none'. held_none iy k none' ∙ sym (held_none ix k none))
    (either iy k))
    (either ix k)

-- a map that is w at k, and f elsewhere
pub updated : {X : Type 0} (f g : ℕ → Option X) (k : ℕ) (w : Option X) → g k ≡ w → ((q : ℕ) → (q ≡ k → ⊥) → g q ≡ f q) → (q : ℕ) → g q ≡ update eqb f k w q
updated f g k w here there q =
    ⊎_elim
    (λ e. ap g e ∙ here ∙ sym (update_here f k w) ∙ ap (update eqb f k w) (sym e))
    (λ ne. there q ne ∙ sym (update_apart f k w q ne))
    (cases_eq q k)
