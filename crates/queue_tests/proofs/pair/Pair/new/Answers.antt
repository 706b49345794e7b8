-- The empty queue agrees with a list of no entries.
use Rattle.std.proofs.Common.{ap, length, ◌∙◌}
use Rattle.queue_tests.proofs.Agreement.{empty-list}
use Rattle.queue_tests.proofs.pair.Pair.new.Goals as goal

pub invariant_of-result : goal.invariant_of-result
invariant_of-result c =
    let q = c.new-queue.result in
    let made = c.new-queue.ensures in
    record { agree = ∣ empty-list q 64 made.empty (ap length made.entries ∙ c.told-entries) (ap length made.places ∙ c.told-places) ∣₁ }
