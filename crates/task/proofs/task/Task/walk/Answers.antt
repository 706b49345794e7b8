-- The laws of joined lists hold of all lists.
use Rattle.task.specs.Model.{model}
use Rattle.task.proofs.Walks.{costs-join, leads-join}
use Rattle.task.proofs.task.Task.walk.Goals as goal

pub returns-clause-costs : goal.returns-clause-costs
returns-clause-costs c = costs-join

pub returns-clause-leads : goal.returns-clause-leads
returns-clause-leads c = leads-join (model c.args.self.now)
