-- Each part is what the call at its place gave.
use Rattle.std.proofs.Common.{rules}
use Rattle.abstraction.specs.Parts.{untouched}
use Rattle.abstraction.specs.Filling.{PartAt}
use Rattle.abstraction.proofs.Made.{made_each}
use Rattle.abstraction.proofs.fill.abstract_operator.Goals as goal

pub returns : goal.returns
returns c = record {
  long = c.from_fn.ensures.items.long;
  parts = λ i. made_each _ _ (PartAt c.args.task.now c.args.pattern.now c.args.operator) (λ k y q z. (search rules, search rules)) c.from_fn.result 8 c.from_fn.ensures.items.each i untouched;
}
