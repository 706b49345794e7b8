-- Each effect is tested, its variable being one of the row's.
use Rattle.std.proofs.Common.{◌<◌, length, get_or, rules, tests}
use Rattle.std.proofs.lemmas.Iterator.{cases_from_all, YieldsList-from_slice}
use Rattle.std.proofs.lemmas.Iterator.Adapters.{serves_from_places}
use Rattle.std.proofs.lemmas.List.{get_or_read}
use Rattle.tables.specs.declared.records.Entry.{Entry}
use Rattle.tables.specs.Records.{zero_entry}
use Rattle.tables.proofs.Told.{tells-each, tells-same}
use Rattle.task.specs.Model.{Admits}
use Rattle.task.proofs.Actions.{admit-from, admit-at}
use Rattle.task.proofs.apply.all_admit.Goals as goal

pub all-requires-clause-callable : goal.all-requires-clause-callable
all-requires-clause-callable c =
    let es = c.args.effects.now in
    serves_from_places (YieldsList-from_slice es cc) (λ x q k. search (rules, tests)) (λ x k l e.
    let inside : x.now.variable < length c.args.row.now = rw (get_or_read es k x.now l e zero_entry) (c.requires k l) in
    search rules)

pub returns : goal.returns
returns c =
    let s = c.args.row.now in
    let es = c.args.effects.now in
    let admits : Entry → Type 0 = λ e. Admits (get_or s e.variable 0) e.required in
    let each = cases_from_all _ _ _ admits (λ e. admits e → ⊥) c.all.ensures.ran (YieldsList-from_slice es cc) (λ x q k. search (rules, tests)) (λ x q k. search (rules, tests)) in
    tells-same c.all.result _ _ (admit-from s es) (λ m k l. admit-at s es k l m) (tells-each admits es zero_entry c.all.result each)
