-- Each operator is tested, its entries being among all entries.
use Rattle.std.proofs.Common.{◌≤◌, length, rules, tests}
use Rattle.std.proofs.lemmas.Iterator.{cases_from_all, YieldsList-from_slice}
use Rattle.std.proofs.lemmas.Iterator.Adapters.{serves_from_places}
use Rattle.std.proofs.lemmas.List.{get_or_read}
use Rattle.tables.specs.Records.{zero_operator, entries_of, end_at}
use Rattle.tables.specs.Rules.{Distinct}
use Rattle.tables.proofs.Told.{tells-each}
use Rattle.tables.proofs.rules.operators_distinct.Goals as goal

pub all-requires-clause-callable : goal.all-requires-clause-callable
all-requires-clause-callable c =
    let os = c.args.operators.now in
    serves_from_places (YieldsList-from_slice os cc) (λ x q k. search (rules, tests)) (λ x k l e.
    let among : end_at x.now ≤ length c.args.entries.now = rw (get_or_read os k x.now l e zero_operator) (c.requires.among k l) in
    λ _ _ _ _ _ _ _. (c.requires.inside, among))

pub returns : goal.returns
returns c =
    let es = c.args.entries.now in
    let os = c.args.operators.now in
    tells-each (λ o. Distinct (entries_of es o)) os zero_operator c.all.result (cases_from_all _ _ _ (λ o. Distinct (entries_of es o)) (λ o. Distinct (entries_of es o) → ⊥) c.all.ensures.ran (YieldsList-from_slice os cc) (λ x q k. search (rules, tests)) (λ x q k. search (rules, tests)))
