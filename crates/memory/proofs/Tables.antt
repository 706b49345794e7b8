-- A row made from a function of the place, and slices of the state bytes.
use Rattle.std.proofs.Common.{◌≡◌, ℕ, zero, suc, ◌+◌, ◌*◌, ◌<◌, ◌≤◌, ◌≢◌, ◌⊎◌, List, [], ◌∷◌, ◌++◌, length, get_or, take, drop, set, sym, refl, ap, ◌∙◌, subst, ap₂, inl, inr, not-suc-le-zero, mul-le-mul_right, add-one, arith, length-append, length-drop, length-take-le, get_or-drop, get_or-take}
use lib.ListN.{get_or-append}
use lib.Seq.{get_or-append_seam, set-append_left, set-append_seam}
use Rattle.plain.proofs.Splits.{lt-or-le}
use Rattle.tables.proofs.Lists.{same-list}
use Rattle.memory.specs.Rows.{rows}

pub rows-length : {X : Type 0} (f : ℕ → X) (n : ℕ) → length (rows f n) ≡ n
rows-length f zero = refl
rows-length f (suc n) = omega (arith, length-append (rows f n) (f n ∷ []), rows-length f n)

pub rows_upto : {X : Type 0} (f g : ℕ → X) (n : ℕ) → ((k : ℕ) → k < n → g k ≡ f k) → rows g n ≡ rows f n
rows_upto f g zero h = refl
rows_upto f g (suc n) h = ap₂ (λ a b. a ++ b ∷ []) (rows_upto f g n (λ k l. h k (omega arith))) (h n (omega arith))

pub rows_at : {X : Type 0} (f : ℕ → X) (n k : ℕ) (d : X) → k < n → get_or (rows f n) k d ≡ f k
rows_at f zero k d l = absurd (not-suc-le-zero l)
rows_at {X} f (suc n) k d l = side (lt-or-le k n) (λ m. rows_at f n k d m)
  where
    side : (k < n) ⊎ (n ≤ k) → ((m : k < n) → get_or (rows f n) k d ≡ f k) → get_or (rows f (suc n)) k d ≡ f k
    side (inl m) below = get_or-append (rows f n) (f n ∷ []) d k (rw (rows-length f n) m) ∙ below m
    side (inr m) below =
        let e : k ≡ n = omega arith in
        let z = get_or-append_seam (rows f n) (f n) [] d in
        rw e (rw (rows-length f n) at z)

-- one place changed
pub rows-set : {X : Type 0} (f g : ℕ → X) (n k : ℕ) → k < n → ((j : ℕ) → j < n → j ≢ k → g j ≡ f j) → rows g n ≡ set (rows f n) k (g k)
rows-set f g zero k l h = absurd (not-suc-le-zero l)
rows-set {X} f g (suc n) k l h = side (lt-or-le k n) (λ z. rows-set f g n k z (λ j m d. h j (omega arith) d))
  where
    side : (k < n) ⊎ (n ≤ k) → ((z : k < n) → rows g n ≡ set (rows f n) k (g k)) → rows g (suc n) ≡ set (rows f (suc n)) k (g k)
    side (inl z) below =
        let len : k < length (rows f n) = rw (rows-length f n) z in
        ap₂ (λ a b. a ++ b ∷ []) (below z) (h n (omega arith) (omega arith)) ∙ sym (set-append_left (rows f n) (f n ∷ []) k (g k) len)
    side (inr z) below =
        let e : n ≡ k = omega arith in
        let old : rows g n ≡ rows f n = rows_upto f g n (λ j lj. h j (omega arith) (omega arith)) in
        let s = set-append_seam (rows f n) (f n) [] (g k) in
        ap₂ (λ a b. a ++ b ∷ []) old (ap g e) ∙ sym (subst (λ j. set (rows f n ++ f n ∷ []) j (g k) ≡ rows f n ++ g k ∷ []) (rows-length f n ∙ e) s)

-- one place more
pub rows-add : {X : Type 0} (f g : ℕ → X) (n : ℕ) (x : X) → ((j : ℕ) → j < n → g j ≡ f j) → g n ≡ x → rows g (n + 1) ≡ rows f n ++ x ∷ []
rows-add f g n x h e = rw add-one (ap₂ (λ a b. a ++ b ∷ []) (rows_upto f g n h) e)

slice-length : (v o : ℕ) (bs : List ℕ) → o + v ≤ length bs → length (take v (drop o bs)) ≡ v
slice-length v o bs l = length-take-le v (drop o bs) (omega (arith, length-drop o bs))

pub slice_is : (v o : ℕ) (bs xs : List ℕ) → o + v ≤ length bs → length xs ≡ v → ((j : ℕ) → j < v → get_or bs (o + j) 0 ≡ get_or xs j 0) → take v (drop o bs) ≡ xs
slice_is v o bs xs l e h = same-list (take v (drop o bs)) xs (slice-length v o bs l ∙ sym e)
    (λ k m. let z : k < v = omega (arith, slice-length v o bs l) in get_or-take v (drop o bs) k 0 z ∙ get_or-drop o bs k 0 ∙ h k z)

pub slice-same : (v o : ℕ) (bs cs : List ℕ) → o + v ≤ length bs → length bs ≡ length cs → ((j : ℕ) → j < o + v → get_or bs j 0 ≡ get_or cs j 0) → take v (drop o bs) ≡ take v (drop o cs)
slice-same v o bs cs l e h = slice_is v o bs (take v (drop o cs)) l (slice-length v o cs (omega arith))
    (λ j m. h (o + j) (omega arith) ∙ sym (get_or-take v (drop o cs) j 0 m ∙ get_or-drop o cs j 0))

pub slice-width : (v k n : ℕ) (bs : List ℕ) → k < n → n * v ≤ length bs → length (take v (drop (k * v) bs)) ≡ v
slice-width v k n bs l h = slice-length v (k * v) bs (omega (arith, mul-le-mul_right v l))

-- the last place set
pub set_last : {X : Type 0} (xs : List X) (a b : X) → set (xs ++ a ∷ []) (length xs) b ≡ xs ++ b ∷ []
set_last xs a b = set-append_seam xs a [] b
