-- Each operator's price stands in the price row.
use Rattle.std.proofs.Common.{rules, tests}
use Rattle.tables.specs.Records.{zero_operator}
use Rattle.task.proofs.Actions.{filled, price-at, prices-length}
use Rattle.task.proofs.task.Task.prices_into.Goals as goal

pub returns : goal.returns
returns c =
    let t = c.args.self.now in
    let w = c.write_each.ensures in
    filled _ _ (λ o. o.price) t.operators.now zero_operator _ _ _ c.write_each.result (prices-length t.entries.now t.operators.now) (price-at t.entries.now t.operators.now) w.refused w.long w.each (λ x n m. search (rules, tests))
