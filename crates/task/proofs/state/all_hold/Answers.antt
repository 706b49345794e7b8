-- Each fact is tested, its variable being one of the row's.
use Rattle.std.proofs.Common.{◌≡◌, ◌<◌, length, get_or, rules, tests}
use Rattle.std.proofs.lemmas.Iterator.{cases_from_all, YieldsList-from_slice}
use Rattle.std.proofs.lemmas.Iterator.Adapters.{serves_from_places}
use Rattle.std.proofs.lemmas.List.{get_or_read}
use Rattle.tables.specs.declared.records.Entry.{Entry}
use Rattle.tables.specs.Records.{zero_entry}
use Rattle.tables.proofs.Told.{tells-each, tells-same}
use Rattle.task.proofs.Actions.{hold-from, hold_at}
use Rattle.task.proofs.state.all_hold.Goals as goal

pub all-requires-clause-callable : goal.all-requires-clause-callable
all-requires-clause-callable c =
    let es = c.args.entries.now in
    serves_from_places (YieldsList-from_slice es cc) (λ x q k. search (rules, tests)) (λ x k l e.
    let inside : x.now.variable < length c.args.row.now = rw (get_or_read es k x.now l e zero_entry) (c.requires k l) in
    search rules)

pub returns : goal.returns
returns c =
    let s = c.args.row.now in
    let es = c.args.entries.now in
    let holds : Entry → Type 0 = λ e. get_or s e.variable 0 ≡ e.value in
    let each = cases_from_all _ _ _ holds (λ e. holds e → ⊥) c.all.ensures.ran (YieldsList-from_slice es cc) (λ x q k. search (rules, tests)) (λ x q k. search (rules, tests)) in
    tells-same c.all.result _ _ (hold-from s es) (λ m k l. hold_at s es k l m) (tells-each holds es zero_entry c.all.result each)
