-- The numbers of the two layers below layer n are 2n and 2n + 1, cut at 65,535.
use Rattle.std.specs.Prelude.{ℕ, ◌+◌, ◌*◌, min}

-- of the first at place 0, of the second at place 1
abbrev pub below : ℕ → ℕ → ℕ
below n place = min (2 * n + place) 65535
