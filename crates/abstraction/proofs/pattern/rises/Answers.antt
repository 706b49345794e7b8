-- The row rises at each place after the first.
use Rattle.std.proofs.Common.{◌≡◌, ℕ, ◌+◌, ◌-◌, ◌<◌, length, get_or, ltb, MatchBool, true, false, sym, subst, arith, rules}
use borrow.Author.Tests.{ltb-true, ltb-false}
use Rattle.std.proofs.lemmas.Fn.{always_returns_same}
use Rattle.std.specs.List.{AllAdjacentBelow}
use Rattle.abstraction.specs.Patterns.{Rising}
use Rattle.abstraction.proofs.pattern.rises.Goals as goal

pub returns : goal.returns
returns c =
    let P = c.args.pattern.now in
    let ran = c.is_sorted_by.ensures.cases ltb (always_returns_same _ _ _ (λ a r g h. search rules)) in
    elim c.is_sorted_by.result as (λ b. MatchBool b (AllAdjacentBelow (λ x y. true ≡ ltb x y) P (length P)) ((k : ℕ) × (k + 1 < length P) × ((d : ℕ) → false ≡ ltb (get_or P k d) (get_or P (k + 1) d))) → MatchBool b (Rising P) (Rising P → ⊥)) [
      | true ↦ λ h i m p.
          let e : i - 1 + 1 ≡ i = omega arith in
          subst (λ z. get_or P (i - 1) 0 < get_or P z 0) e (ltb-true _ _ (sym (h (i - 1) 0 (omega arith))))
      | false ↦ λ h all.
          let k = h.0 in
          let up = all (k + 1) h.1 (omega arith) in
          let e : k + 1 - 1 ≡ k = omega arith in
          let lt : get_or P k 0 < get_or P (k + 1) 0 = subst (λ z. get_or P z 0 < get_or P (k + 1) 0) e up in
          let le = ltb-false _ _ (sym (h.2 0)) in
          omega arith
    ] ran
