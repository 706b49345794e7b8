use Rattle.std.proofs.Common.{◌≡◌, ◌+◌, ◌-◌, ◌++◌, length, take, Some}
use Rattle.lines.specs.Numbers.{and_of, numbers_of}
use Rattle.lines.proofs.number.numbers.Given as goal

abbrev pub invariant-loop-number : goal.invariant-loop-number
invariant-loop-number g l =
    numbers_of (length l.initial.earlier + 1) l.line
    ≡ and_of (numbers_of (length l.initial.earlier - l.number-index + 1) l.rest) (λ ns. Some (take l.number-index l.earlier ++ ns))
