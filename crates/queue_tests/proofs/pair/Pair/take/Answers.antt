-- The entry taken is in the list, and goes from there too.
use Rattle.std.proofs.Common.{None, ◌<◌, length, arith}
use mathlib.Core.Logic.{∥∥₁_elim, ∥∥₁_map}
use native.Mathlib.Bridge.{le_prop}
use Rattle.queue_tests.proofs.Agreement.{changed-inside, taken-inside}
use Rattle.queue_tests.proofs.pair.Pair.take.Goals as goal

pub bounds-self-entry : goal.bounds-self-entry
bounds-self-entry c =
    let inside : c.in-Some.entry.node < length c.args.self.now.list =
    ∥∥₁_elim c.args.self.now.agree le_prop (λ agree. taken-inside _ _ _ _ agree c.in-Some.ensures.taken) in
    omega arith

pub invariant_of-self : goal.invariant_of-self
invariant_of-self c = record {
  agree = ∥∥₁_map c.args.self.now.agree
      (λ agree. changed-inside _ _ _ c.in-Some.entry.node agree c.in-Some.ensures.rows None c.in-Some.ensures.taken.changed (taken-inside _ _ _ _ agree c.in-Some.ensures.taken));
}
