-- That the loop makes the plain search's expansions until one ends the search.
use Rattle.std.proofs.Common.{rules, ◌≡◌, ◌∙◌, subst, arith}
use Rattle.task.specs.Model.{model}
use Rattle.search.specs.declared.inner.Event.TheVariants.{Expanded}
use Rattle.memory.proofs.Changes.{untouched-both}
use Rattle.search.specs.Search.{plain_of, Stepped, Ran.stopped}
use Rattle.search.proofs.Stepping.{expansions-snoc}
use Rattle.search.proofs.Advancing.{stops-of, step-from}
use Rattle.search.proofs.search.Search.run.Goals as goal

pub returns-then-ne-clause-ran : goal.returns-then-ne-clause-ran
returns-then-ne-clause-ran g c =
    let s = c.args.self.now in
    let s₁ = c.loop.self in
    let s₂ = c.step-event.new.self in
    let est = g.E.Estimator.meaning in
    let v = c.loop.invariant in
    stopped c.loop.counter (plain_of s₁.core) c.loop.estimator (stops-of est (model s.task) s.core.memory.capacity c.step-event.result (search rules)) (omega arith) v.made
    (step-from est s₁.task s.task s₁.core.memory.capacity s.core.memory.capacity (plain_of s₁.core) (plain_of s₂.core) c.loop.estimator c.step-event.new.estimator c.step-event.result v.same v.untouched.capacity c.step-event.ensures.stepped)

pub loop-preserved : goal.loop-preserved
loop-preserved g c =
    let s = c.args.self.now in
    let s₁ = c.loop.self in
    let s₂ = c.step-event.new.self in
    let est = g.E.Estimator.meaning in
    let v = c.loop.invariant in
    let x = c.step-event.ensures in
    let h = step-from est s₁.task s.task s₁.core.memory.capacity s.core.memory.capacity (plain_of s₁.core) (plain_of s₂.core) c.loop.estimator c.step-event.new.estimator c.step-event.result v.same v.untouched.capacity x.stepped in
    let is : c.step-event.result ≡ Expanded = search rules in
    let expands = subst (λ z. Stepped est (model s.task) s.core.memory.capacity (plain_of s₁.core) c.loop.estimator z (plain_of s₂.core) c.step-event.new.estimator) is h in
    record {
      same = x.same ∙ v.same;
      untouched = untouched-both s.core.memory s₁.core.memory s₂.core.memory v.untouched x.untouched;
      runs = x.runs;
      made = expansions-snoc est (model s.task) s.core.memory.capacity c.loop.counter (plain_of s.core) (plain_of s₁.core) (plain_of s₂.core) c.args.estimator.now c.loop.estimator c.step-event.new.estimator v.made expands;
    }
