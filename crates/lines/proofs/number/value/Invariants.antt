use Rattle.std.proofs.Common.{◌≡◌, ◌^◌, ◌<◌, true, drop}
use Rattle.lines.specs.Numbers.{all_digits, value_after}
use Rattle.lines.proofs.number.value.Given as goal

abbrev pub invariant-loop-b : goal.invariant-loop-b
invariant-loop-b l = (value_after 0 l.digits ≡ value_after l.value (drop l.b-index l.digits))
    × (l.value < 10 ^ l.b-index)
    × (all_digits (drop l.b-index l.digits) ≡ true)
