-- Each operator's name lies in the text.
use Rattle.std.proofs.Common.{length, rules, tests}
use Rattle.std.proofs.lemmas.Iterator.{YieldsList-from_slice}
use Rattle.std.proofs.lemmas.Iterator.Adapters.{serves_from_places}
use Rattle.std.proofs.lemmas.List.{get_or_read}
use Rattle.tables.specs.Records.{zero_operator}
use Rattle.tables.specs.Rules.{SpanFits}
use Rattle.task.proofs.task.Task.operator_named.Goals as goal

pub position-requires-clause-callable : goal.position-requires-clause-callable
position-requires-clause-callable c =
    let t = c.args.self.now in
    let os = t.operators.now in
    serves_from_places (YieldsList-from_slice os cc) (λ x q k. search (rules, tests)) (λ x k l e.
    let fits : SpanFits (length t.text.now) x.now.name = rw (get_or_read os k x.now l e zero_operator) (t.operators_fit k l).0 in
    search rules)
