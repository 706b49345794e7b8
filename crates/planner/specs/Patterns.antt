-- How many of the next variables a pattern takes, by their numbers of values.
use Rattle.std.specs.Prelude.{ℕ, zero, suc, ◌*◌, cond, List, [], ◌∷◌, nat_le}

-- of the variables with these numbers of values at most so many are taken, one after another, while the pattern, which
-- has so many ranks already, has at most 4,096 ranks; the first variable that does not fit ends it
abbrev pub taken : ℕ → ℕ → List ℕ → ℕ
taken zero ranks ds = 0
taken (suc n) ranks [] = 0
taken (suc n) ranks (d ∷ ds) = cond (nat_le (ranks * d) 4096) (suc (taken n (ranks * d) ds)) 0
