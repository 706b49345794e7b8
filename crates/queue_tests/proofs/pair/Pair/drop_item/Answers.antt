-- An item goes from both, or is in neither.
use Rattle.std.proofs.Common.{None, arith}
use mathlib.Core.Logic.{∥∥₁_map}
use Rattle.queue_tests.proofs.Agreement.{changed-inside, dropped-outside}
use Rattle.queue_tests.proofs.pair.Pair.drop_item.Goals as goal

pub invariant_of-self : goal.invariant_of-self
invariant_of-self c = record { agree = ∥∥₁_map c.args.self.now.agree (λ agree. changed-inside _ _ _ c.args.item agree c.drop_item.ensures.rows None c.drop_item.ensures.dropped (omega arith)) }

pub invariant_of-self-else-k-lt64 : goal.invariant_of-self-else-k-lt64
invariant_of-self-else-k-lt64 c =
    record { agree = ∥∥₁_map c.args.self.now.agree (λ agree. dropped-outside _ _ _ c.args.item agree c.drop_item.ensures.rows c.drop_item.ensures.dropped (omega arith)) }
