-- A loop over three rows side by side: what it has met, and what is left.
use Rattle.std.proofs.Common.{◌≡◌, ℕ, ◌+◌, ◌<◌, ◌≤◌, List, [], suc, ◌∷◌, length, get_or, drop, None, Iter, sym, refl, ap, ◌∙◌, ⊎_elim, add-one, arith, length-drop, drop-cons}
use Rattle.std.specs.declared.iter.Zip.{Zip}
use Rattle.std.specs.Iterator.Adapters.{zip_first, zip_second}
use Rattle.std.specs.Slice.Iter.{iter_rest}
use Rattle.std.proofs.iter.Yields.{fronts}
use Rattle.std.proofs.lemmas.Iterator.{zips}

-- what is left after n turns
pub record Left {A B C : Type 0} (xs : List A) (ys : List B) (zs : List C) (n : ℕ) (s : Zip (Zip (Iter A) (Iter B)) (Iter C)) : Type 0 where
  pub first : iter_rest (zip_first (zip_first s)) ≡ drop n xs
  pub second : iter_rest (zip_second (zip_first s)) ≡ drop n ys
  pub third : iter_rest (zip_second s) ≡ drop n zs

-- the turn n, which meets x, y and z
pub record Met {A B C : Type 0} (xs : List A) (ys : List B) (zs : List C) (n : ℕ) (x : A) (y : B) (z : C) (t : Zip (Zip (Iter A) (Iter B)) (Iter C)) : Type 0 where
  pub inside : n < length zs
  pub first : (d : A) → x ≡ get_or xs n d
  pub second : (d : B) → y ≡ get_or ys n d
  pub third : (d : C) → z ≡ get_or zs n d
  pub left : Left xs ys zs (n + 1) t

next : {A : Type 0} (xs : List A) (n : ℕ) (x : A) (rest : List A) → drop n xs ≡ x ∷ rest → (n < length xs) × ((d : A) → x ≡ get_or xs n d) × (rest ≡ drop (n + 1) xs)
next xs n x rest e =
    let l = length-drop n xs in
    let m = ap length e in
    let h : n < length xs = omega arith in (
      h,
      (λ d. let same : x ∷ rest ≡ get_or xs n d ∷ drop (suc n) xs = sym e ∙ drop-cons xs n d h in cc),
      (let same : x ∷ rest ≡ get_or xs n x ∷ drop (suc n) xs = sym e ∙ drop-cons xs n x h in let later : rest ≡ drop (suc n) xs = cc in later ∙ ap (λ k. drop k xs) (sym (add-one n))),
    )

pub walk_turn : {A B C : Type 0} (xs : List A) (ys : List B) (zs : List C) (n : ℕ) (s t : Zip (Zip (Iter A) (Iter B)) (Iter C)) (x : A) (y : B) (z : C)
    → Left xs ys zs n s
    → ((iter_rest (zip_first (zip_first s)) ≡ x ∷ iter_rest (zip_first (zip_first t))) × (iter_rest (zip_second (zip_first s)) ≡ y ∷ iter_rest (zip_second (zip_first t))))
    × (iter_rest (zip_second s) ≡ z ∷ iter_rest (zip_second t))
    → Met xs ys zs n x y z t
walk_turn xs ys zs n s t x y z l h =
    let a = next xs n x _ (sym l.first ∙ h.0.0) in
    let b = next ys n y _ (sym l.second ∙ h.0.1) in
    let c = next zs n z _ (sym l.third ∙ h.1) in
    record { inside = c.0; first = a.1; second = b.1; third = c.1; left = record { first = a.2; second = b.2; third = c.2 } }

ended : {A : Type 0} (xs : List A) (n k : ℕ) → drop n xs ≡ [] → k ≤ length xs → k ≤ n
ended xs n k e h = let l = length-drop n xs in let m = ap length e in omega arith

empty : {A : Type 0} (xs : List A) → length xs ≡ 0 → xs ≡ []
empty [] e = refl
empty (x ∷ xs) e = absurd (omega arith)

-- there are no fewer turns than elements in the shortest row
pub walk_end : {A B C : Type 0} (xs : List A) (ys : List B) (zs : List C) (n k : ℕ) (s t : Zip (Zip (Iter A) (Iter B)) (Iter C))
    → Left xs ys zs n s → zips (zips fronts fronts) fronts s None t → k ≤ length xs → k ≤ length ys → k ≤ length zs → k ≤ n
walk_end xs ys zs n k s t l h hx hy hz = ⊎_elim
    (λ u. ⊎_elim
    (λ v. ended xs n k (sym l.first ∙ empty _ v.1.0) hx)
    (λ v. ended ys n k (sym l.second ∙ empty _ v.1.0) hy)
    u.1)
    (λ u. ended zs n k (sym l.third ∙ empty _ u.1.0) hz)
    h
