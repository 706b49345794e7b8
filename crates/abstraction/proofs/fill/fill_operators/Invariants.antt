-- The operators so far stand, and each place has eight parts.
use Rattle.std.proofs.Common.{◌≡◌, ℕ, ◌<◌, length, get_or}
use Rattle.abstraction.specs.Standing.{no_operator}
use Rattle.abstraction.specs.Filling.{OperatorAt}
use Rattle.abstraction.proofs.fill.fill_operators.Given as goal

abbrev pub invariant-loop-operator : goal.invariant-loop-operator
invariant-loop-operator l =
    (length l.operators ≡ 256)
    × ((o : ℕ) → o < l.operator → OperatorAt l.fn.task l.fn.pattern o (get_or l.operators o no_operator))
    × ((o : ℕ) → o < 256 → length (get_or l.operators o no_operator).parts ≡ 8)
