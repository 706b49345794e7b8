-- The prices before the operator are the lesser of the two, and the others as they were.
use Rattle.std.proofs.Common.{◌≡◌, ℕ, ◌<◌, ◌≤◌, min, get_or}
use Rattle.layers.proofs.price_table.PriceTable.leave_lesser.Given as goal

abbrev pub invariant-loop-operator : goal.invariant-loop-operator
invariant-loop-operator l =
    ((k : ℕ) → k < l.operator → get_or l.row k 0 ≡ min (get_or l.self.prices k 0) (get_or l.initial.row k 0)) ×
    ((k : ℕ) → l.operator ≤ k → get_or l.row k 0 ≡ get_or l.initial.row k 0)
