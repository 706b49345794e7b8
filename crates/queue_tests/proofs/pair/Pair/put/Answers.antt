-- An entry goes into both, or into neither.
use Rattle.std.proofs.Common.{arith}
use mathlib.Core.Logic.{∥∥₁_map}
use Rattle.queue_tests.proofs.Agreement.{put-inside, put-outside}
use Rattle.queue_tests.proofs.pair.Pair.put.Goals as goal

pub invariant_of-self : goal.invariant_of-self
invariant_of-self c = record { agree = ∥∥₁_map c.args.self.now.agree (λ agree. put-outside _ _ _ c.args.entry c.put.result agree c.put.ensures.put (omega arith)) }

pub invariant_of-self-2 : goal.invariant_of-self-2
invariant_of-self-2 c = record { agree = ∥∥₁_map c.args.self.now.agree (λ agree. put-inside _ _ _ c.args.entry c.put.result agree c.put.ensures.rows c.put.ensures.put (omega arith)) }
