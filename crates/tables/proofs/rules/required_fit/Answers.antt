-- Each entry's required value is tested.
use Rattle.std.proofs.Common.{rules, tests}
use Rattle.std.proofs.lemmas.Iterator.{cases_from_all, YieldsList-from_slice}
use Rattle.tables.specs.Records.{zero_entry}
use Rattle.tables.specs.Rules.{RequiredFits}
use Rattle.tables.proofs.Told.{tells-each}
use Rattle.tables.proofs.rules.required_fit.Goals as goal

pub returns : goal.returns
returns c =
    let xs = c.args.entries.now in
    tells-each (RequiredFits c.args.variables.now) xs zero_entry c.all.result (cases_from_all _ _ _ (RequiredFits c.args.variables.now) (λ x. RequiredFits c.args.variables.now x → ⊥) c.all.ensures.ran (YieldsList-from_slice xs cc) (λ x q k. search (rules, tests)) (λ x q k. search (rules, tests)))
