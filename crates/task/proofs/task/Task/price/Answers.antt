-- A price stands where its operator does, and none past the last.
use Rattle.std.proofs.Common.{◌≡◌, get_or, sym, ◌∙◌, rules}
use Rattle.tables.specs.Records.{zero_operator}
use Rattle.task.proofs.Actions.{price-at}
use Rattle.task.proofs.task.Task.price.Goals as goal

pub returns-clause-is : goal.returns-clause-is
returns-clause-is c =
    let t = c.args.self.now in
    let own : c.map_or.result ≡ (get_or t.operators.now c.args.operator zero_operator).price = search rules in
    own ∙ sym (price-at t.entries.now t.operators.now c.args.operator)
