-- Products of numbers of values, and their cut at the largest number of 32 bits.
use Rattle.std.proofs.Common.{◌≡◌, ℕ, zero, suc, ◌+◌, ◌*◌, ◌<◌, ◌≤◌, min, List, [], ◌∷◌, length, get_or, drop, sym, ap, ◌∙◌, subst, ⊎_elim, mul-le-mul_right, suc-mul, one-mul, zero-mul, arith}
use lib.ListN.{length-map}
use Rattle.std.specs.List.{fold}
use Rattle.std.proofs.Math.Nat.{mul_comm, mul_assoc, mul-one}
use Rattle.std.proofs.lemmas.Bool.{cases_lt}
use Rattle.std.proofs.lemmas.List.{get_or-map, drop-map}
use Rattle.task.specs.declared.task.Task.{Task}
use Rattle.task.specs.Model.{Model, model}
use Rattle.tables.proofs.Lists.{domain-at}
use Rattle.abstraction.specs.Patterns.{IsPattern}
use Rattle.abstraction.specs.Projected.{sizes}
use Rattle.abstraction.specs.Ranks.{product}

-- the cut of a product, computed factor by factor
pub cut_product : (s p : ℕ) → min (s * min p 4294967295) 4294967295 ≡ min (s * p) 4294967295
cut_product zero p = let a = zero-mul (min p 4294967295) in let b = zero-mul p in omega arith
cut_product (suc s) p = let a = suc-mul s (min p 4294967295) in let b = suc-mul s p in go s p a b
  where
    go : (s p : ℕ) → suc s * min p 4294967295 ≡ s * min p 4294967295 + min p 4294967295 → suc s * p ≡ s * p + p → min (suc s * min p 4294967295) 4294967295 ≡ min (suc s * p) 4294967295
    go s p a b = ⊎_elim
        (λ (l : p < 4294967296). let e : min p 4294967295 ≡ p = omega arith in ap (λ z. min (suc s * z) 4294967295) e)
        (λ (l : 4294967296 ≤ p). omega arith)
        (cases_lt p 4294967296)

-- and over a row of variables
pub counted : (T : Model) (n : ℕ) (pattern : List ℕ) → fold (λ n v. min (n * get_or T.domains v 0) 4294967295) (min n 4294967295) pattern ≡ min (n * product (sizes T pattern)) 4294967295
counted T n [] = ap (λ z. min z 4294967295) (sym (mul-one n))
counted T n (v ∷ pattern) =
    let d = get_or T.domains v 0 in
    let cut : min (min n 4294967295 * d) 4294967295 ≡ min (n * d) 4294967295 =
    ap (λ z. min z 4294967295) (mul_comm (min n 4294967295) d) ∙ cut_product d n ∙ ap (λ z. min z 4294967295) (mul_comm d n) in
    ap (λ z. fold (λ n v. min (n * get_or T.domains v 0) 4294967295) z pattern) cut ∙ counted T (n * d) pattern ∙ ap (λ z. min z 4294967295) (mul_assoc n d (product (sizes T pattern)))

-- each variable of a task has a value
pub positive-at : (t : Task) (v : ℕ) → v < length (model t).domains → 0 < get_or (model t).domains v 0
positive-at t v h =
    let l = length-map t.variables.now (λ w. w.domain) in
    let w = (t.variables_fit v (omega arith)).2 in
    let e = domain-at t.variables.now v in
    omega arith

pub product-positive : (ds : List ℕ) → ((i : ℕ) → i < length ds → 0 < get_or ds i 0) → 0 < product ds
product-positive [] h = omega arith
product-positive (d ∷ ds) h =
    let a = h 0 (omega arith) in
    let b = product-positive ds (λ i l. h (suc i) (omega arith)) in
    let c = mul-le-mul_right (product ds) a in
    let e = one-mul (product ds) in
    omega arith

-- the product of the later numbers is at most the product
pub product-drop : (ds : List ℕ) (k : ℕ) → ((i : ℕ) → i < length ds → 0 < get_or ds i 0) → product (drop k ds) ≤ product ds
product-drop ds zero h = omega arith
product-drop [] (suc k) h = omega arith
product-drop (d ∷ ds) (suc k) h =
    let a = product-drop ds k (λ i l. h (suc i) (omega arith)) in
    let b = mul-le-mul_right (product ds) (h 0 (omega arith)) in
    let e = one-mul (product ds) in
    omega arith

pub sizes-positive : (t : Task) (P : List ℕ) → IsPattern (model t) P → (i : ℕ) → i < length (sizes (model t) P) → 0 < get_or (sizes (model t) P) i 0
sizes-positive t P pat i h =
    let l = length-map P (λ v. get_or (model t).domains v 0) in
    let k : i < length P = omega arith in
    subst (λ z. 0 < z) (sym (get_or-map (λ v. get_or (model t).domains v 0) P i 0 0 k)) (positive-at t (get_or P i 0) (pat.within i k))

pub weight-whole : (t : Task) (P : List ℕ) (i : ℕ) → IsPattern (model t) P → product (sizes (model t) P) ≤ 65536
    → min (product (sizes (model t) (drop (i + 1) P))) 4294967295 ≡ product (drop (i + 1) (sizes (model t) P))
weight-whole t P i pat few =
    let e : sizes (model t) (drop (i + 1) P) ≡ drop (i + 1) (sizes (model t) P) = sym (drop-map (λ v. get_or (model t).domains v 0) (i + 1) P) in
    let l = product-drop (sizes (model t) P) (i + 1) (sizes-positive t P pat) in
    ap (λ z. min (product z) 4294967295) e ∙ whole (product (drop (i + 1) (sizes (model t) P))) (omega arith)
  where
    whole : (n : ℕ) → n ≤ 65536 → min n 4294967295 ≡ n
    whole n h = omega arith
