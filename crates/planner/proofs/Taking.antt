-- What a chain over the variables counts is what a pattern takes.
use Rattle.std.proofs.Common.{◌≡◌, ℕ, zero, suc, ◌+◌, ◌-◌, ◌*◌, ◌^◌, cond, nat_le, List, [], ◌∷◌, take, map, min, refl, ap, ◌∙◌, arith}
use Rattle.std.proofs.lemmas.Bool.Decides.{nat_tests}
use Rattle.std.specs.List.{scan, prefix_len}
use Rattle.tables.specs.declared.records.Variable.{Variable}
use Rattle.planner.specs.Patterns.{taken}

-- the ranks with one variable more, of at most 32 bits
abbrev pub times : ℕ → Variable → ℕ
times ranks v = min (ranks * v.domain) (2 ^ 32 - 1)

-- 32 bits suffice to tell whether the ranks are few, and to count few
few_ranks : (m : ℕ) (rest : ℕ → ℕ) → cond (nat_le (min m (2 ^ 32 - 1)) 4096) (1 + rest (min m (2 ^ 32 - 1))) 0 ≡ cond (nat_le m 4096) (suc (rest m)) 0
few_ranks m rest = grind (arith, nat_tests)

pub counted : (n ranks : ℕ) (vs : List Variable) → prefix_len (λ r. nat_le r 4096) (scan times times ranks (take n vs)) ≡ taken n ranks (map (λ v. v.domain) vs)
counted zero ranks vs = refl
counted (suc n) ranks [] = refl
counted (suc n) ranks (v ∷ vs) =
    ap (λ k. cond (nat_le (times ranks v) 4096) (1 + k) 0) (counted n (times ranks v) vs) ∙ few_ranks (ranks * v.domain) (λ r. taken n r (map (λ v. v.domain) vs))
