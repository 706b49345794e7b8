-- An accepted start begins the run; a refused one ends the solving.
use Rattle.std.proofs.Common.{sym, ap, subst, inl}
use Rattle.task.specs.Model.{model}
use Rattle.memory.specs.Plans.{plan_text}
use Rattle.plain.specs.Runs.{Reached}
use Rattle.search.specs.Search.{plain_of, start_outcome}
use Rattle.planner.specs.Solving.{Ended}
use Rattle.planner.proofs.Ending.{start-reached}
use Rattle.planner.proofs.solve.solve.Goals as goal

pub returns : goal.returns
returns g c = λ o.
    let s₀ = c.args.search.now in
    let s = c.start.new.self in
    let x = c.start.ensures in
    let est = g.E.Estimator.meaning in
    let t₀ = s₀.task in
    let N₀ = s₀.core.memory.capacity in
    let p = plain_of s.core in
    let e₀ = c.args.estimator.now in
    let e = c.start.new.estimator in
    let v = start-reached (plan_text t₀) o x.does (ap start_outcome c.in_ok-go.was) in
    let run = v.0.0 in
    let h = subst (λ n. Reached est (model s.task) n (plan_text s.task) e₀ run p e) (sym x.untouched.capacity) (subst (λ z. Reached est (model z) N₀ (plan_text z) e₀ run p e) (sym x.same) v.0.1) in
    let ends = c.run_to_end.ensures e₀ run h v.1 in
    inl (subst (λ z. Ended (model z) N₀ (plan_text z) c.args.buffer.now c.run_to_end.result c.run_to_end.new.buffer) x.same
    (subst (λ n. Ended (model s.task) n (plan_text s.task) c.args.buffer.now c.run_to_end.result c.run_to_end.new.buffer) x.untouched.capacity ends))
