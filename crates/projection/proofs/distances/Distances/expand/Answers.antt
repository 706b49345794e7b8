-- Each operator passed can lower no entry any more by a step to the rank, unless the rank is queued again.
use Rattle.std.proofs.Common.{◌+◌, ◌<◌, length, take, sym, subst, arith}
use Rattle.task.specs.Model.{applied}
use Rattle.abstraction.specs.Ranks.{rank}
use Rattle.abstraction.specs.AbstractTasks.{abstract_of, MayLeadTo}
use Rattle.abstraction.proofs.Places.{leads-only}
use Rattle.projection.specs.declared.distances.Distances.{Distances}
use Rattle.projection.specs.Dijkstra.{Running, LeftFrom, Preceding, Later}
use Rattle.projection.proofs.Relaxing.{later-none, later-then}
use Rattle.projection.proofs.Running.{relax-keeps, skip-keeps, expand-end, closed, one_state}
use Rattle.projection.proofs.Steps.{Before, preceding-step, step-preceding}
use Rattle.projection.proofs.distances.Distances.expand.Goals as goal
use Rattle.projection.proofs.distances.Distances.expand.Goals.{then-may_lead_to, else-may_lead_to}

pub loop-operator-init : goal.loop-operator-init
loop-operator-init c = (c.requires.running, later-none _)

pub relax-requires : goal.relax-requires
relax-requires c =
    let A = c.args.abstract_task.now in
    let run = c.loop-operator.invariant.0 in
    let long = run.long in
    let few = A.stands.few in
    let row = c.requires.row in
    record { number = omega arith; state = c.state_of-digits.ensures.state; place = omega arith; room = omega arith; few = omega arith }

pub loop-operator-preserved : goal.loop-operator-preserved
loop-operator-preserved c =
    let A = c.args.abstract_task.now in
    let P = abstract_of A in
    let i = c.loop-operator.operator in
    let r = c.args.rank in
    let w = c.state_of-digits.ensures in
    let b = take (length A.pattern.now) c.state_of-digits.result in
    let D = c.loop-operator.self in
    let run = c.loop-operator.invariant.0 in
    let long = run.long in
    let long0 = c.requires.running.long in
    let row = c.requires.row in
    let number : i < length P.operators = omega arith in
    let cl = closed A in
    let Kept : Distances → Type 0 = λ z. Running P c.args.row.now (LeftFrom r (i + 1)) z × Later c.args.self.now z in
    elim c.if-may_lead_to.branch [
      | then-may_lead_to x ↦
          (let rel = x.relax.ensures.relaxed in
          subst Kept (sym x.self-is) (
            relax-keeps P c.args.row.now (Preceding A i b 0 0) r i x.saturating_add-distance.result D x.relax.new.self
                cl (let h = c.requires.rank in omega arith) x.saturating_add-distance.ensures run rel
                (λ k p. subst (λ z. Before P i z k) w.ranked (preceding-step A i b k number w.state p))
                (λ s st a e. x.relax.ensures.done (rank P.domains s) (step-preceding A s i b st a (one_state P r b (applied P s i) w (cl s i st a) e))),
            later-then _ _ _ c.loop-operator.invariant.1 rel.later,
          ))
      | else-may_lead_to x ↦
          subst Kept (sym x.self-is) (
            skip-keeps P c.args.row.now r i D run
                (λ s st a e. x.if-may_lead_to.ensures (subst (MayLeadTo A i) (one_state P r b (applied P s i) w (cl s i st a) e) (leads-only A s i st a))),
            c.loop-operator.invariant.1,
          )
    ]

pub returns : goal.returns
returns c = record {
  running = expand-end (abstract_of c.args.abstract_task.now) c.args.row.now c.args.rank c.loop-operator.operator c.loop-operator.self (let r = c.requires.row in let t = c.loop-operator-test.false in omega arith) c.loop-operator.invariant.0;
  later = c.loop-operator.invariant.1;
}
