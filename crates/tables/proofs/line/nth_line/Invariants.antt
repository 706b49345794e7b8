-- The line is the one that is left to count in the rest.
use Rattle.std.proofs.Common.{◌≡◌, ◌-◌}
use Rattle.tables.specs.Lines.{nth_line}
use Rattle.tables.proofs.line.nth_line.Given as goal

abbrev pub invariant-loop-i : goal.invariant-loop-i
invariant-loop-i l = nth_line l.index l.lines ≡ nth_line (l.index - l._i) l.rest
