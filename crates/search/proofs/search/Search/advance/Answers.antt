-- That an advance that runs is one of the plain search's, and that the search stays valid.
use Rattle.std.proofs.Common.{rules, ◌≡◌, [], sym, ap, subst}
use Rattle.task.specs.Model.{model}
use Rattle.plain.specs.Plain.{Advances, reports}
use Rattle.search.specs.declared.answer.Find.{Find}
use Rattle.search.specs.declared.inner.Status.TheVariants.{Running}
use Rattle.search.specs.declared.inner.Event.TheVariants.{Goal}
use Rattle.search.specs.Search.{plain_of, outcome_of, go_ahead_of, Ran, Concludes}
use Rattle.search.proofs.Props.{valid-out}
use Rattle.search.proofs.Advancing.{advance-of, ran-find, valid-after}
use Rattle.search.proofs.search.Search.advance.Goals as goal

pub invariant_of-self : goal.invariant_of-self
invariant_of-self g c =
    let s = c.args.self.now in
    let s₁ = c.run-event.new.self in
    let s₂ = c.conclude-progress.new.self in
    let est = g.E.Estimator.meaning in
    let t = model s.task in
    let N = s.core.memory.capacity in
    let x = c.run-event.ensures in
    let ev = c.run-event.result in
    let r = c.conclude-progress.result in
    let held = λ (f : Find) (is : ev ≡ Goal f). ran-find est t N c.args.expansions (plain_of s.core) (plain_of s₁.core) c.args.estimator.now c.run-event.new.estimator f
    (subst (λ z. Ran est t N c.args.expansions (plain_of s.core) c.args.estimator.now z (plain_of s₁.core) c.run-event.new.estimator) is x.ran) in
    record { ok = ∣ valid-after (model s₁.task) s₁.core s₂ r ev (valid-out s₁.ok) x.runs held (subst (λ z. Concludes s₁.core z ev r s₂) x.runs c.conclude-progress.ensures) ∣₁ }

pub returns-clause-does : goal.returns-clause-does
returns-clause-does g c =
    let s = c.args.self.now in
    let s₁ = c.run-event.new.self in
    let s₂ = c.conclude-progress.new.self in
    let est = g.E.Estimator.meaning in
    let t = model s.task in
    let N = s.core.memory.capacity in
    let x = c.run-event.ensures in
    let ev = c.run-event.result in
    let r = c.conclude-progress.result in
    let runs : s.core.status ≡ Running = search rules in
    let e' = c.run-event.new.estimator in
    subst (λ z. Advances est t N c.args.expansions (plain_of s.core) c.args.estimator.now (reports (outcome_of z) [] (go_ahead_of z) (plain_of s₂)) (plain_of s₂) e') (sym (ap (λ z. z.progress) c.report-2.ensures))
    (advance-of est t N s.core s₁.core s₂ c.args.expansions c.args.estimator.now e' r runs ev x.ran (subst (λ z. Concludes s₁.core z ev r s₂) x.runs c.conclude-progress.ensures))
