-- Each row of values has a rank of its own, below the product of the numbers of values; and a rank as a sum from the front.
use Rattle.std.proofs.Common.{◌≡◌, ℕ, zero, suc, ◌+◌, ◌*◌, ◌/◌, ◌%◌, ◌<◌, ◌≤◌, List, [], ◌∷◌, length, get_or, drop, set, sym, refl, ap, ◌∙◌, subst, ap₂, mod-lt, mul_comm, div-lt_iff_lt-mul, div-add-mod', zero-mul, add-one, arith, drop-cons, get_or-set_other, get_or-set_same}
use lib.Arith.{digits_div, digits_mod, digits_lt}
use Rattle.task.specs.Model.{Model, IsState}
use Rattle.abstraction.specs.Ranks.{product, rank}

-- each value is below its number of values
pub record Fit (ds xs : List ℕ) : Type 0 where
  pub long : length xs ≡ length ds
  pub within : (i : ℕ) → i < length ds → get_or xs i 0 < get_or ds i 0

pub state-fit : (P : Model) (s : List ℕ) → IsState P s → Fit P.domains s
state-fit P s st = record { long = st.long; within = λ i h. st.within i (let l = st.long in omega arith) }

fit-rest : (d x : ℕ) (ds xs : List ℕ) → Fit (d ∷ ds) (x ∷ xs) → Fit ds xs
fit-rest d x ds xs f = record { long = (let l = f.long in omega arith); within = λ i h. f.within (suc i) (omega arith) }

fit-first : (d x : ℕ) (ds xs : List ℕ) → Fit (d ∷ ds) (x ∷ xs) → x < d
fit-first d x ds xs f = f.within 0 (omega arith)

pub rank_lt : (ds xs : List ℕ) → Fit ds xs → rank ds xs < product ds
rank_lt [] xs f = omega arith
rank_lt (d ∷ ds) [] f = absurd (let l = f.long in omega arith)
rank_lt (d ∷ ds) (x ∷ xs) f = digits_lt (fit-first d x ds xs f) (rank_lt ds xs (fit-rest d x ds xs f))

pub rank_same : (ds xs ys : List ℕ) → Fit ds xs → Fit ds ys → rank ds xs ≡ rank ds ys → xs ≡ ys
rank_same [] [] [] f g e = refl
rank_same [] [] (y ∷ ys) f g e = absurd (let l = g.long in omega arith)
rank_same [] (x ∷ xs) ys f g e = absurd (let l = f.long in omega arith)
rank_same (d ∷ ds) [] ys f g e = absurd (let l = f.long in omega arith)
rank_same (d ∷ ds) (x ∷ xs) [] f g e = absurd (let l = g.long in omega arith)
rank_same (d ∷ ds) (x ∷ xs) (y ∷ ys) f g e =
    let m = rank_lt ds xs (fit-rest d x ds xs f) in
    let n = rank_lt ds ys (fit-rest d y ds ys g) in
    ap₂ (λ u us. u ∷ us)
    (sym (digits_div x m) ∙ ap (λ z. z / product ds) e ∙ digits_div y n)
    (rank_same ds xs ys (fit-rest d x ds xs f) (fit-rest d y ds ys g)
    (sym (digits_mod x m) ∙ ap (λ z. z % product ds) e ∙ digits_mod y n))

-- what the first i values add to a rank
abbrev pub lead : List ℕ → List ℕ → ℕ → ℕ
lead ds xs zero = 0
lead ds xs (suc i) = lead ds xs i + get_or xs i 0 * product (drop (suc i) ds)

pub lead-more : (ds xs : List ℕ) (i : ℕ) → lead ds xs (i + 1) ≡ lead ds xs i + get_or xs i 0 * product (drop (i + 1) ds)
lead-more ds xs i = ap (lead ds xs) (add-one i) ∙ ap (λ z. lead ds xs i + get_or xs i 0 * product (drop z ds)) (sym (add-one i))

pub lead-same : (ds xs ys : List ℕ) (i : ℕ) → ((k : ℕ) → k < i → get_or xs k 0 ≡ get_or ys k 0) → lead ds xs i ≡ lead ds ys i
lead-same ds xs ys zero h = refl
lead-same ds xs ys (suc i) h = ap₂ (λ a b. a + b * product (drop (suc i) ds)) (lead-same ds xs ys i (λ k l. h k (omega arith))) (h i (omega arith))

pub rank_split : (ds xs : List ℕ) (i : ℕ) → length xs ≡ length ds → i ≤ length ds → rank ds xs ≡ lead ds xs i + rank (drop i ds) (drop i xs)
rank_split ds xs zero l h = omega arith
rank_split ds xs (suc i) l h =
    let a = rank_split ds xs i l (omega arith) in
    let b : drop i ds ≡ get_or ds i 0 ∷ drop (suc i) ds = drop-cons ds i 0 (omega arith) in
    let c : drop i xs ≡ get_or xs i 0 ∷ drop (suc i) xs = drop-cons xs i 0 (omega arith) in
    let e : rank (drop i ds) (drop i xs) ≡ get_or xs i 0 * product (drop (suc i) ds) + rank (drop (suc i) ds) (drop (suc i) xs) = ap₂ rank b c in
    omega arith

drop-end : (ds : List ℕ) (n : ℕ) → length ds ≤ n → drop n ds ≡ []
drop-end [] zero h = refl
drop-end [] (suc n) h = refl
drop-end (d ∷ ds) zero h = absurd (omega arith)
drop-end (d ∷ ds) (suc n) h = drop-end ds n (omega arith)

pub rank-lead : (ds xs : List ℕ) (n : ℕ) → length xs ≡ length ds → n ≡ length ds → rank ds xs ≡ lead ds xs n
rank-lead ds xs n l h =
    let a = rank_split ds xs n l (omega arith) in
    let b : rank (drop n ds) (drop n xs) ≡ 0 = ap (λ z. rank z (drop n xs)) (drop-end ds n (omega arith)) in
    omega arith

pub product-end : (ds : List ℕ) (n : ℕ) → length ds ≤ n → product (drop n ds) ≡ 1
product-end ds n h = ap product (drop-end ds n h)

-- the numbers of values from a place on
pub product_at : (ds : List ℕ) (i : ℕ) → i < length ds → product (drop i ds) ≡ get_or ds i 0 * product (drop (i + 1) ds)
product_at ds i h = ap product (drop-cons ds i 0 h) ∙ ap (λ z. get_or ds i 0 * product (drop z ds)) (sym (add-one i))

-- the first i values add no more than the whole rank
pub lead-le : (ds xs : List ℕ) (i : ℕ) → length xs ≡ length ds → i ≤ length ds → lead ds xs i ≤ rank ds xs
lead-le ds xs i l h = let a = rank_split ds xs i l h in omega arith

pub digit_lt : (n size m : ℕ) → n < size * m → 0 < m → n / m < size
digit_lt n size m h p = (div-lt_iff_lt-mul {k = m} {x = n} {y = size} p).1 h

pub positive : (a b n : ℕ) → n < a * b → (0 < a) × (0 < b)
positive zero b n h = absurd (let z = zero-mul b in omega arith)
positive (suc a) zero n h = absurd (let z = mul_comm (suc a) zero in let y = zero-mul (suc a) in omega arith)
positive (suc a) (suc b) n h = (omega arith, omega arith)

-- what is left of a rank at a place
pub record Digit (ds : List ℕ) (i rest w : ℕ) : Type 0 where
  pub some : 0 < w
  pub low : rest / w < get_or ds i 0

pub digit_at : (ds : List ℕ) (i rest w : ℕ) → i < length ds → w ≡ product (drop (i + 1) ds) → rest < product (drop i ds) → Digit ds i rest w
digit_at ds i rest w h e l =
    let m : rest < get_or ds i 0 * w = subst (λ z. rest < get_or ds i 0 * z) (sym e) (subst (λ z. rest < z) (product_at ds i h) l) in
    let p = positive (get_or ds i 0) w rest m in
    record { some = p.1; low = digit_lt rest (get_or ds i 0) w m p.1 }

pub digit-written : (ds xs : List ℕ) (i rest r w : ℕ) → i < length xs → w ≡ product (drop (i + 1) ds) → 0 < w → lead ds xs i + rest ≡ r
    → (lead ds (set xs i (rest / w)) (i + 1) + rest % w ≡ r) × (rest % w < product (drop (i + 1) ds))
digit-written ds xs i rest r w h e p q =
    let x = rest / w in
    let a = lead-more ds (set xs i x) i in
    let b : lead ds (set xs i x) i ≡ lead ds xs i = lead-same ds (set xs i x) xs i (λ k l. get_or-set_other xs i k x 0 (λ z. omega arith)) in
    let c : get_or (set xs i x) i 0 * product (drop (i + 1) ds) ≡ x * w = ap₂ (λ y z. y * z) (get_or-set_same xs i x 0 h) (sym e) in
    let d : x * w + rest % w ≡ rest = div-add-mod' rest w in
    (omega arith, subst (λ z. rest % w < z) e (mod-lt rest p))
