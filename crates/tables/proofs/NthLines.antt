-- Counting lines one at a time.
use Rattle.std.proofs.Common.{◌≡◌, ℕ, zero, suc, ◌+◌, ◌-◌, ◌<◌, List, [], refl, ap, arith}
use Rattle.tables.specs.Lines.{cut_line, after_line, nth_line}

-- an empty text has only empty lines
pub nth-empty : (n : ℕ) → nth_line n [] ≡ []
nth-empty zero = refl
nth-empty (suc n) = nth-empty n

-- while lines are left to count, the first one is passed over
pub nth-more : (n i : ℕ) (rest : List ℕ) → i < n → nth_line (n - i) rest ≡ nth_line (n - (i + 1)) (after_line (cut_line rest))
nth-more n i rest l =
    let e : n - i ≡ suc (n - (i + 1)) = omega arith in
    ap (λ k. nth_line k rest) e
