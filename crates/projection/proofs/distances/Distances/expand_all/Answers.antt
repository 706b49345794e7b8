-- The rank that is taken is left with all its steps, which expanding it makes up for.
use Rattle.std.proofs.Common.{refl, ◌∙◌, arith}
use Rattle.abstraction.specs.AbstractTasks.{abstract_of}
use Rattle.projection.proofs.Running.{expand-start, run-settles}
use Rattle.projection.proofs.distances.Distances.expand_all.Goals as goal

pub expand-requires-clause-running : goal.expand-requires-clause-running
expand-requires-clause-running c =
    expand-start (abstract_of c.args.abstract_task.now) c.args.row.now c.in-Some.entry.rank c.loop-entry.self _ c.loop-entry.invariant.0 refl c.in-Some.ensures.taken.changed

pub loop-entry-preserved : goal.loop-entry-preserved
loop-entry-preserved c = (c.expand.ensures.running, c.expand.ensures.later.same ∙ c.loop-entry.invariant.1)

pub returns : goal.returns
returns c =
    let run = c.loop-entry.invariant.0 in
    let long = run.long in
    let few = c.args.abstract_task.now.stands.few in
    record {
      settled = run-settles (abstract_of c.args.abstract_task.now) c.args.row.now c.loop-entry.self (omega arith) c.in_default.ensures.taken.empty run;
      same = c.loop-entry.invariant.1;
    }
