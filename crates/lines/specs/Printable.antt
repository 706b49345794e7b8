-- Which bytes a line of a task text may hold.
use Rattle.std.specs.Prelude.{ℕ, Bool, ◌&&◌, List, nat_le}
use Rattle.std.specs.List.{list_all}

-- each byte is one of 32 to 126
abbrev pub printable : List ℕ → Bool
printable bs = list_all (λ b. nat_le 32 b && nat_le b 126) bs
