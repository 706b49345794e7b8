-- Each place is what the call at its index gave.
use Rattle.std.proofs.Common.{rules}
use Rattle.abstraction.specs.Standing.{unused}
use Rattle.abstraction.specs.Filling.{PlaceAt}
use Rattle.abstraction.proofs.Made.{made_each}
use Rattle.abstraction.proofs.fill.places_of.Goals as goal

pub returns-clause-places : goal.returns-clause-places
returns-clause-places c = λ i. made_each _ _ (PlaceAt c.args.task.now c.args.pattern.now) (λ k y q z. (search rules, search rules)) c.from_fn.result 8 c.from_fn.ensures.items.each i unused
