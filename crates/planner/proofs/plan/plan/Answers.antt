-- What is written lies within the buffer.
use Rattle.planner.proofs.Planned.{answer_within}
use Rattle.planner.proofs.plan.plan.Goals as goal

pub returns-clause-within : goal.returns-clause-within
returns-clause-within c = answer_within c.args.text.now c.args.buffer.now c.plan_in.result c.plan_in.new.buffer (c.plan_in.ensures c.in_ok-space.ensures)
