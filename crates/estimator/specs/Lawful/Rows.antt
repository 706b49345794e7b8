-- Lemmas on price rows, on what plans cost at them, and on answers.
use Rattle.std.specs.Prelude.{◌≡◌, ℕ, zero, suc, ◌≤◌, List, [], ◌∷◌, length, replicate, Some, None, Ok, Err, Option, Result, slice_index, refl}
use Rattle.std.proofs.Common.{sym, ap, ◌∙◌, zero-le, arith}
use Rattle.task.specs.Model.{Model, Cost}
use Rattle.estimator.specs.Price.{Offer, Shares, Admissible, joined}

pub zeros : (n k : ℕ) → ◌≡◌ {A = ℕ} (slice_index (replicate n 0) k) 0
zeros zero k = refl
zeros (suc n) zero = refl
zeros (suc n) (suc k) = zeros n k

pub ok-err : {X Y : Type 0} {x : X} {y : Y} → ◌≡◌ {A = Result X Y} (Ok x) (Err y) → ⊥
ok-err e = let z : ◌≡◌ {A = ℕ} 0 1 = cc in omega arith

pub length-joined : (f : ℕ → ℕ → ℕ) (xs ys : List ℕ) → length xs ≡ length ys → length (joined f xs ys) ≡ length xs
length-joined f [] ys e = refl
length-joined f (x ∷ xs) [] e = absurd (omega arith)
length-joined f (x ∷ xs) (y ∷ ys) e = ap suc (length-joined f xs ys (omega arith))

pub get_or-joined : (f : ℕ → ℕ → ℕ) → f 0 0 ≡ 0 → (xs ys : List ℕ) → length xs ≡ length ys → (k : ℕ) → slice_index (joined f xs ys) k ≡ f (slice_index xs k) (slice_index ys k)
get_or-joined f z [] [] e k = sym z
get_or-joined f z [] (y ∷ ys) e k = absurd (omega arith)
get_or-joined f z (x ∷ xs) [] e k = absurd (omega arith)
get_or-joined f z (x ∷ xs) (y ∷ ys) e zero = refl
get_or-joined f z (x ∷ xs) (y ∷ ys) e (suc k) = get_or-joined f z xs ys (omega arith) k

-- a part of a price row is a price row
pub held-offer : (T : Model) (row held left : List ℕ) → Offer T row → Shares row held left → Offer T held
held-offer T row held left o h = record {
  long = h.long_held ∙ o.long;
  low = λ k i. let a = h.each k in let l = h.long_held in let b = o.low k (omega arith) in omega arith;
}

pub left-offer : (T : Model) (row held left : List ℕ) → Offer T row → Shares row held left → Offer T left
left-offer T row held left o h = record {
  long = h.long_left ∙ o.long;
  low = λ k i. let a = h.each k in let l = h.long_left in let b = o.low k (omega arith) in omega arith;
}

-- a plan costs no more where no price is higher
pub cost-le : (xs ys p : List ℕ) → ((k : ℕ) → slice_index xs k ≤ slice_index ys k) → Cost xs p ≤ Cost ys p
cost-le xs ys [] h = zero-le
cost-le xs ys (o ∷ p) h = let a = h o in let b = cost-le xs ys p h in omega arith

-- what is admissible at the prices held is so at the prices offered
pub at-offer : (T : Model) (row held left state : List ℕ) (a : Option ℕ) → Shares row held left → Admissible T held state a → Admissible T row state a
at-offer T row held left state None h x = x
at-offer T row held left state (Some n) h x = λ p plan.
    let c = cost-le held row p (λ k. let e = h.each k in omega arith) in
    let b = x p plan in
    omega arith
