-- A yes-or-no answer that says whether a statement holds.
use Rattle.std.specs.Prelude.{Bool, MatchBool}

-- true where P holds, and false where it does not
abbrev pub Tells : Bool → Type 0 → Type 0
Tells r P = MatchBool r P (P → ⊥)
