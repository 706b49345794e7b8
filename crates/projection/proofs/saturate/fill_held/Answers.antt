-- From prices of 0 each rank raises them, and after the last one they are the held prices.
use Rattle.std.proofs.Common.{length, get_or, ap, ◌∙◌, arith}
use lib.ListN.{get_or-replicate}
use Rattle.abstraction.specs.AbstractTasks.{abstract_of}
use Rattle.projection.proofs.Saturation.{held_start, held_all}
use Rattle.projection.proofs.saturate.fill_held.Goals as goal

pub loop-rank-init : goal.loop-rank-init
loop-rank-init c = λ o h.
    held_start (abstract_of c.args.abstract_task.now) c.args.table.now o _
    (ap (λ z. get_or z o 0) (c.fill.ensures.after (λ y e. e)) ∙ get_or-replicate (length c.args.held.now) o 0 0 (let l = c.requires.held in omega arith))

pub loop-rank-preserved : goal.loop-rank-preserved
loop-rank-preserved c = λ o h. c.raise.ensures o h

pub returns : goal.returns
returns c = λ o h. held_all (abstract_of c.args.abstract_task.now) c.args.table.now o c.loop-rank.rank _ (let l = c.requires.long in omega arith) (c.loop-rank.invariant o h)
