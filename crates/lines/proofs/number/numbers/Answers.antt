use Rattle.std.proofs.Common.{◌≡◌, ℕ, suc, ◌+◌, ◌-◌, ◌<◌, List, [], ◌∷◌, ◌++◌, length, Some, None, Option, refl, ◌∙◌, arith, append_assoc}
use Rattle.std.proofs.lemmas.List.{take_more_set}
use Rattle.lines.specs.declared.number.Number.{Number}
use Rattle.lines.specs.Numbers.{and_of, first_of, numbers_of}
use Rattle.lines.proofs.number.numbers.Goals as goal

-- one number more, where two at least are due
numbers-more : (i m : ℕ) (bs : List ℕ) → i < m → numbers_of (m - i + 1) bs ≡ and_of (first_of bs) (λ p. and_of (numbers_of (m - (i + 1) + 1) p.1) (λ ns. Some (p.0 ∷ ns)))
numbers-more i m bs h =
    let e : m - i + 1 ≡ suc (suc (m - (i + 1))) = omega arith in
    let f : m - (i + 1) + 1 ≡ suc (m - (i + 1)) = omega arith in
    rw (e, f)

-- what follows a number goes after it
after-number : (o : Option (List Number)) (xs : List Number) (x : Number) → and_of (and_of o (λ ns. Some (x ∷ ns))) (λ ns. Some (xs ++ ns)) ≡ and_of o (λ ns. Some ((xs ++ x ∷ []) ++ ns))
after-number None xs x = refl
after-number (Some ns) xs x = simp append_assoc

pub returns-in_err-number : goal.returns-in_err-number
returns-in_err-number g c =
    let i = c.loop-number.number-index in
    let m = length c.in_ok-found.earlier.now in
    let e : g.row.N ≡ m + 1 = omega (arith, c.in_ok-found.ensures.cases.1) in
    let t = numbers-more i m c.loop-number.rest.now (omega arith) in
    rw (e, c.from_residual-in_err-number.ensures) (c.loop-number.invariant ∙ rw (t, c.in_err-number.ensures))

pub loop-number-preserved : goal.loop-number-preserved
loop-number-preserved g c =
    let i = c.loop-number.number-index in
    let m = length c.in_ok-found.earlier.now in
    let t = numbers-more i m c.loop-number.rest.now (omega arith) in
    let more = take_more_set c.loop-number.earlier i c.in_ok-number.field-0-0 (omega arith) in
    c.loop-number.invariant ∙ rw (t, more, c.in_ok-number.ensures) (after-number _ _ _)
