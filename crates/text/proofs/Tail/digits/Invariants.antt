-- The digits that are left, before what is written, make the whole number before what was written.
use Rattle.std.proofs.Common.{◌≡◌, ◌+◌, ◌++◌, ◌<◌, ◌^◌, length, drop, decimal}
use Rattle.text.proofs.Tail.digits.Given as goal

abbrev pub invariant-loop-rest : goal.invariant-loop-rest
invariant-loop-rest l = record {
  small : l.rest < 2 ^ 64;
  same : l.self.buffer.ghost_name ≡ l.initial.self.buffer.ghost_name;
  at : l.self.at + length (decimal l.n) ≡ l.initial.self.at + length (decimal l.rest);
  text : decimal l.rest ++ drop l.self.at l.self.buffer.now ≡ decimal l.n ++ drop l.initial.self.at l.initial.self.buffer.now;
}

abbrev pub decreases-loop-rest : goal.decreases-loop-rest
decreases-loop-rest l = l.rest
