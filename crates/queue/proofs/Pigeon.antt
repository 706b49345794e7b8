-- Different numbers below m are no more than m, and so a new item finds room.
use Rattle.std.proofs.Common.{◌≡◌, ℕ, zero, suc, ◌+◌, ◌-◌, ◌<◌, ◌≤◌, Bool, true, false, cond, eqb, List, get_or, sym, refl, ap, ◌∙◌, ⊎_elim, arith}
use Rattle.std.proofs.lemmas.Bool.{cases_eq, cond_both, eqb-true, eqb-false}
use Rattle.queue.specs.Heap.{Indexed}
use Rattle.queue.specs.Sifting.{Missing}

module _ (m p : ℕ) (f : ℕ → ℕ) (low : (i : ℕ) → i < p + 1 → f i < suc m) (inj : (i j : ℕ) → i < p + 1 → j < p + 1 → f i ≡ f j → i ≡ j) where
  -- f below p, with f p in the place of m
  shift : ℕ → ℕ
  shift i = cond (eqb (f i) m) (f p) (f i)

  shift-low : (i : ℕ) → i < p → shift i < m
  unfolding shift
  shift-low i l =
      cond_both (eqb (f i) m) (f p) (f i) (λ v. v < m)
      (λ e.
      let fi : f i ≡ m = eqb-true (f i) m e in
      let np : f p ≡ m → ⊥ = λ q. let s : i ≡ p = inj i p (omega arith) (omega arith) (fi ∙ sym q) in omega arith in
      omega (arith, low p (omega arith), np))
      (λ e. omega (arith, low i (omega arith), eqb-false (f i) m e))

  shift-inj : (i j : ℕ) → i < p → j < p → (a b : Bool) → eqb (f i) m ≡ a → eqb (f j) m ≡ b → cond a (f p) (f i) ≡ cond b (f p) (f j) → i ≡ j
  shift-inj i j li lj true true ea eb e = inj i j (omega arith) (omega arith) (eqb-true (f i) m ea ∙ sym (eqb-true (f j) m eb))
  shift-inj i j li lj true false ea eb e = let s : p ≡ j = inj p j (omega arith) (omega arith) e in omega arith
  shift-inj i j li lj false true ea eb e = let s : i ≡ p = inj i p (omega arith) (omega arith) e in omega arith
  shift-inj i j li lj false false ea eb e = inj i j (omega arith) (omega arith) e

  shift-apart : (i j : ℕ) → i < p → j < p → shift i ≡ shift j → i ≡ j
  unfolding shift
  shift-apart i j li lj e = shift-inj i j li lj (eqb (f i) m) (eqb (f j) m) refl refl e

pub pigeon : (m n : ℕ) (f : ℕ → ℕ) → ((i : ℕ) → i < n → f i < m) → ((i j : ℕ) → i < n → j < n → f i ≡ f j → i ≡ j) → n ≤ m
pigeon zero n f low inj =
    ⊎_elim (λ z. omega arith) (λ nz. let h : f 0 < 0 = low 0 (omega arith) in omega arith) (cases_eq n 0)
pigeon (suc m) n f low inj =
    ⊎_elim (λ z. omega arith)
    (λ nz.
    let p : ℕ = n - 1 in
    let is : n ≡ p + 1 = omega arith in
    let low' : (i : ℕ) → i < p + 1 → f i < suc m = λ i l. low i (omega arith) in
    let inj' : (i j : ℕ) → i < p + 1 → j < p + 1 → f i ≡ f j → i ≡ j = λ i j li lj e. inj i j (omega arith) (omega arith) e in
    let h : p ≤ m = pigeon m p (shift m p f low' inj') (shift-low m p f low' inj') (shift-apart m p f low' inj') in
    omega arith)
    (cases_eq n 0)

-- With an item that has no entry, the entries do not fill m places if all their items are below m.
module _ {X : Type 0} (item_of : X → ℕ) (xs : List X) (ps : List ℕ) (n k : ℕ) (d : X) (ix : Indexed item_of xs ps n) (fresh : Missing item_of xs n k) where
  with-new : ℕ → ℕ
  with-new i = cond (eqb i n) k (item_of (get_or xs i d))

  apart_by : (i j : ℕ) → i < n + 1 → j < n + 1 → (a b : Bool) → eqb i n ≡ a → eqb j n ≡ b → cond a k (item_of (get_or xs i d)) ≡ cond b k (item_of (get_or xs j d)) → i ≡ j
  apart_by i j li lj true true ea eb e = eqb-true i n ea ∙ sym (eqb-true j n eb)
  apart_by i j li lj true false ea eb e = absurd (fresh j d (omega (arith, eqb-false j n eb)) (sym e))
  apart_by i j li lj false true ea eb e = absurd (fresh i d (omega (arith, eqb-false i n ea)) e)
  apart_by i j li lj false false ea eb e =
      sym (ix.place i d (omega (arith, eqb-false i n ea))) ∙ ap (λ q. get_or ps q 0) e ∙ ix.place j d (omega (arith, eqb-false j n eb))

  pub room-left : (m : ℕ) → ((i : ℕ) → i < n → item_of (get_or xs i d) < m) → k < m → n + 1 ≤ m
  unfolding with-new
  room-left m low k-low =
      pigeon m (n + 1) with-new
      (λ i l. cond_both (eqb i n) k (item_of (get_or xs i d)) (λ v. v < m) (λ e. k-low) (λ e. low i (omega (arith, eqb-false i n e))))
      (λ i j li lj e. apart_by i j li lj (eqb i n) (eqb j n) refl refl e)
