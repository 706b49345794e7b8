-- The rank of an abstract state: the sum of each value times the product of the numbers of values of the later variables.
use Rattle.std.specs.Prelude.{ℕ, ◌+◌, ◌*◌, List, [], ◌∷◌}

abbrev pub product : List ℕ → ℕ
product [] = 1
product (d ∷ ds) = d * product ds

-- the rank among the rows of values below ds
abbrev pub rank : List ℕ → List ℕ → ℕ
rank [] xs = 0
rank (d ∷ ds) [] = 0
rank (d ∷ ds) (x ∷ xs) = x * product ds + rank ds xs
