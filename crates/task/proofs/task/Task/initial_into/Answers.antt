-- Each variable's value stands in the initial state.
use Rattle.std.proofs.Common.{rules, tests}
use lib.ListN.{length-map}
use Rattle.tables.specs.Records.{zero_variable}
use Rattle.tables.proofs.Lists.{initial-at}
use Rattle.task.proofs.Actions.{filled}
use Rattle.task.proofs.task.Task.initial_into.Goals as goal

pub returns : goal.returns
returns c =
    let vs = c.args.self.now.variables.now in
    let w = c.write_each.ensures in
    filled _ _ (λ v. v.initial) vs zero_variable _ _ _ c.write_each.result (length-map vs (λ v. v.initial)) (initial-at vs) w.refused w.long w.each (λ x n m. search (rules, tests))
