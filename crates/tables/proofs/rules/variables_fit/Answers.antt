-- Each variable is tested.
use Rattle.std.proofs.Common.{rules, tests}
use Rattle.std.proofs.lemmas.Iterator.{cases_from_all, YieldsList-from_slice}
use Rattle.tables.specs.Records.{zero_variable}
use Rattle.tables.specs.Rules.{VariableFits}
use Rattle.tables.proofs.Told.{tells-each}
use Rattle.tables.proofs.rules.variables_fit.Goals as goal

pub returns : goal.returns
returns c =
    let xs = c.args.variables.now in
    tells-each (VariableFits c.args.bytes) xs zero_variable c.all.result (cases_from_all _ _ _ (VariableFits c.args.bytes) (λ x. VariableFits c.args.bytes x → ⊥) c.all.ensures.ran (YieldsList-from_slice xs cc) (λ x q k. search (rules, tests)) (λ x q k. search (rules, tests)))
