-- That each call extends the run, and that the law holds of it.
use Rattle.std.proofs.Common.{get_or, ◌∙◌, subst, arith}
use Rattle.task.specs.Model.{model}
use Rattle.search.specs.Replay.{OneCall, no_call}
use Rattle.search.specs.Search.{plain_of}
use Rattle.memory.specs.Plans.{plan_text}
use Rattle.search.proofs.Replays.{again, lawfully}
use Rattle.search.proofs.replay.replay.Goals as goal

pub loop-place-preserved : goal.loop-place-preserved
loop-place-preserved g c =
    let s₀ = c.args.search.now in
    let s = c.loop-place.search in
    let s' = c.make.new.self in
    let v = c.loop-place.invariant in
    let est = g.E.Estimator.meaning in (
      c.make.ensures.same ∙ v.0,
      c.make.ensures.untouched.capacity ∙ v.1,
      λ q. again est s₀.task s.task s₀.core.memory.capacity s.core.memory.capacity (plan_text s₀.task) c.args.calls.now c.loop-place.replies (record { row = c.args.row.now; buffer = c.args.buffer.now }) (record { row = c.loop-place.row; buffer = c.loop-place.buffer }) (record { row = c.make.new.row; buffer = c.make.new.buffer }) c.loop-place.place c.make.result
          (plain_of s.core) (plain_of s'.core) c.args.estimator.now c.loop-place.estimator c.make.new.estimator v.0 v.1 (omega arith) (v.2 q) (subst (λ z. OneCall est (model s.task) s.core.memory.capacity (plan_text z) (get_or c.args.calls.now c.loop-place.place no_call) (record { row = c.loop-place.row; buffer = c.loop-place.buffer }) (plain_of s.core) c.loop-place.estimator c.make.result (record { row = c.make.new.row; buffer = c.make.new.buffer }) (plain_of s'.core) c.make.new.estimator) v.0 c.make.ensures.does),
    )

pub returns : goal.returns
returns g c = λ q.
    let s₀ = c.args.search.now in
    let est = g.E.Estimator.meaning in
    lawfully est g.E.Estimator.laws s₀.task s₀.core.memory.capacity _ c.loop-place.place (plan_text s₀.task) c.args.calls.now c.loop-place.replies (record { row = c.args.row.now; buffer = c.args.buffer.now }) (record { row = c.loop-place.row; buffer = c.loop-place.buffer }) c.args.estimator.now (plain_of c.loop-place.search.core) c.loop-place.estimator
    (omega (arith, c.min-count.ensures)) (c.loop-place.invariant.2 q)
