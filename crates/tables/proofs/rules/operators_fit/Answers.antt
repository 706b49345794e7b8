-- Each operator is tested.
use Rattle.std.proofs.Common.{rules, tests}
use Rattle.std.proofs.lemmas.Iterator.{cases_from_all, YieldsList-from_slice}
use Rattle.tables.specs.Records.{zero_operator}
use Rattle.tables.specs.Rules.{OperatorFits}
use Rattle.tables.proofs.Told.{tells-each}
use Rattle.tables.proofs.rules.operators_fit.Goals as goal

pub returns : goal.returns
returns c =
    let xs = c.args.operators.now in
    tells-each (OperatorFits c.args.bytes c.args.entries) xs zero_operator c.all.result (cases_from_all _ _ _ (OperatorFits c.args.bytes c.args.entries) (λ x. OperatorFits c.args.bytes c.args.entries x → ⊥) c.all.ensures.ran (YieldsList-from_slice xs cc) (λ x q k. search (rules, tests)) (λ x q k. search (rules, tests)))
