-- Each advance extends the run, and its ending is what the law says.
use Rattle.std.proofs.Common.{rules, ◌+◌, ◌-◌, ◌*◌, [], ◌∷◌, Err, sym, ap, ◌∙◌, subst}
use Rattle.std.proofs.lemmas.Result.{err_from_is_err_and}
use Rattle.task.specs.Model.{model, prices, dearest}
use Rattle.task.proofs.Actions.{task-well-formed}
use Rattle.plain.specs.Plain as plain
use Rattle.plain.specs.Plain.{Writes, reports}
use Rattle.memory.specs.Plans.{plan_text}
use Rattle.search.specs.Search.{plain_of, outcome_of, go_ahead_of}
use Rattle.planner.specs.Solving.{Ended}
use Rattle.planner.proofs.Ending.{advances-on, nearer, advance-more, advance-none, advance-full, found_ends, ending}
use Rattle.planner.proofs.Limits.{within-limit-of}
use Rattle.planner.proofs.solve.run_to_end.Goals as goal

pub loop-next-smaller : goal.loop-next-smaller
loop-next-smaller g c =
    let t₀ = c.args.search.now.task in
    let N = c.args.search.now.core.memory.capacity in
    let s' = c.advance.new.self in
    let i = c.loop-next.invariant in
    let x = c.advance.ensures in
    let m = advance-more (advances-on i.0 i.1 x.does) (search rules) in
    let l = within-limit-of s'.task t₀ s'.core N (x.same ∙ i.0) (x.untouched.capacity ∙ i.1) s'.ok m.0 in
    nearer (N * ((N - 1) * dearest (prices (model t₀)) + 1)) c.loop-next.search.core.total s'.core.total m.1 l

pub loop-next-preserved : goal.loop-next-preserved
loop-next-preserved g c =
    let s' = c.advance.new.self in
    let i = c.loop-next.invariant in
    let x = c.advance.ensures in
    let r = c.advance.result.progress in
    let a = reports (outcome_of r) [] (go_ahead_of r) (plain_of s'.core) in
    let d = advances-on i.0 i.1 x.does in (
      x.same ∙ i.0,
      x.untouched.capacity ∙ i.1,
      i.2,
      λ start run h st.
          let v = i.3 start run h st in
          ((record { call = plain.advance 1000; answer = a } ∷ v.0.0, (plain_of c.loop-next.search.core, c.loop-next.estimator, v.0.1, d)), (advance-more d (search rules)).0),
    )

-- what the writing of the find comes to
pub returns-in_err-write-in-Found : goal.returns-in_err-write-in-Found
returns-in_err-write-in-Found g c = λ start run h st.
    let t₀ = c.args.search.now.task in
    let N = c.args.search.now.core.memory.capacity in
    let i = c.loop-next.invariant in
    let x = c.advance.ensures in
    let v = i.3 start run h st in
    let w = c.write.ensures in
    let ends = found_ends N start v.0.0 c.write.result c.write.new.buffer g.E.Estimator.laws i.0 i.1 x.same i.2 v.0.1 x.does (search rules) w.1 w.2 in
    let q = err_from_is_err_and c.from_residual-in_err-write-in-Found.result c.from_residual-in_err-write-in-Found.ensures.1 in
    subst (λ z. Ended (model t₀) N (plan_text t₀) c.args.buffer.now z c.write.new.buffer) (ap ending c.in_err-write-in-Found.was ∙ sym (q.1 ∙ ap Err q.2)) ends

pub returns-in-Found : goal.returns-in-Found
returns-in-Found g c = λ start run h st.
    let t₀ = c.args.search.now.task in
    let N = c.args.search.now.core.memory.capacity in
    let i = c.loop-next.invariant in
    let x = c.advance.ensures in
    let v = i.3 start run h st in
    let w = c.write.ensures in
    let ends = found_ends N start v.0.0 c.write.result c.write.new.buffer g.E.Estimator.laws i.0 i.1 x.same i.2 v.0.1 x.does (search rules) w.1 w.2 in
    subst (λ z. Ended (model t₀) N (plan_text t₀) c.args.buffer.now (ending z) c.write.new.buffer) c.in_ok-write-in-Found.was ends

pub returns-in-NoPlan : goal.returns-in-NoPlan
returns-in-NoPlan g c = λ start run h st.
    let t₀ = c.args.search.now.task in
    let i = c.loop-next.invariant in
    let v = i.3 start run h st in
    (advance-none g.E.Estimator.laws (task-well-formed t₀) (plan_text t₀) start v.0.0 v.0.1 (advances-on i.0 i.1 c.advance.ensures.does) (search rules), i.2)

pub returns-in-Full : goal.returns-in-Full
returns-in-Full g c = λ start run h st.
    let t₀ = c.args.search.now.task in
    let i = c.loop-next.invariant in
    let v = i.3 start run h st in
    (((plain_of c.advance.new.self.core).nodes, advance-full g.E.Estimator.laws (task-well-formed t₀) (plan_text t₀) start v.0.0 v.0.1 (advances-on i.0 i.1 c.advance.ensures.does) (search rules)), i.2)
