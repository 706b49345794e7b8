-- A test of each element of a row tells whether all are so.
use Rattle.std.proofs.Common.{◌≡◌, ℕ, ◌<◌, Bool, true, false, List, length, get_or, MatchBool, arith}
use Rattle.std.specs.List.{AllWithin, HoldsAt}
use Rattle.tables.specs.Tells.{Tells}

-- what `all` found tells whether each element is so
pub tells-each : {X : Type 0} (P : X → Type 0) (xs : List X) (d : X) (r : Bool) → MatchBool r (AllWithin P xs 0 (length xs)) ((k : ℕ) × (k < length xs) × HoldsAt (λ x. P x → ⊥) xs k) → Tells r ((k : ℕ) → k < length xs → P (get_or xs k d))
tells-each P xs d true all = λ k l. all k d (omega arith) l
tells-each P xs d false one = λ all. one.2 d (all one.0 one.1)

-- a test tells of each of two statements that follow from one another
pub tells-same : (r : Bool) (P Q : Type 0) → (P → Q) → (Q → P) → Tells r P → Tells r Q
tells-same true P Q to back h = to h
tells-same false P Q to back h = λ q. h (back q)
