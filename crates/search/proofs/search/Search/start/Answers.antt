-- That each way out of a start is one of the plain search's, and that the search stays valid.
use Rattle.std.proofs.Common.{rules, ◌≡◌, ◌<◌, false, Ok, Err, sym, refl, ap, ◌∙◌, subst, arith}
use Rattle.std.proofs.lemmas.Result.{err_from_is_err_and}
use lib.ListN.{length-map}
use Rattle.task.specs.Model.{model}
use Rattle.plain.specs.declared.fault.Fault.TheVariants.{Set}
use Rattle.plain.specs.Plain as plain
use Rattle.plain.specs.Plain.{reports, Starts.refused_set, Starts.begins}
use Rattle.search.specs.declared.inner.Status.TheVariants.{Fresh}
use Rattle.memory.specs.Rows.{nodes_of}
use Rattle.memory.specs.Steps.{WithinLimits}
use Rattle.search.specs.Search.{plain_of, status_of}
use Rattle.memory.proofs.Starting.{root-limits}
use Rattle.memory.proofs.Trees.{root-tree}
use Rattle.search.proofs.Props.{valid-out}
use Rattle.search.proofs.Advancing.{variables_of, stands_at}
use Rattle.search.proofs.search.Search.start.Goals as goal

pub returns-in_err-set-clause-does : goal.returns-in_err-set-clause-does
returns-in_err-set-clause-does g c =
    let s = c.args.self.now.core in
    let t = model c.args.self.now.task in
    let f = c.in_err-set.field-0.0 in
    let is : s.status ≡ Fresh = search rules in
    let q = subst (λ z. g.E.Estimator.meaning.sets c.args.estimator.now t z 1 (Err f) c.set.new.row c.set.new.self) c.if-not-prices_into.ensures.1 c.in_err-set.ensures in
    let back = (g.E.Estimator.laws.refuses q).1 in
    let p = err_from_is_err_and c.from_residual.result c.from_residual.ensures.1 in
    rw (p.1, p.2) (refused_set f c.set.new.row (ap status_of is) (omega arith) (c.if-not-prices_into.ensures.0 ∙ length-map t.operators (λ o. o.price)) q (λ j. reports (plain.refused (Set f)) (back j) false (plain_of s)) refl)

pub root-requires : goal.root-requires
root-requires g c =
    let s = c.args.self.now.core in
    let v = valid-out c.args.self.now.ok in
    let e = variables_of c.args.self.now.task s.memory s v refl in
    let few = c.args.self.now.task.few in
    let fresh : s.status ≡ Fresh = search rules in
    record {
      consistent = v.consistent;
      empty = (stands_at (model c.args.self.now.task) s Fresh fresh v).0;
      some = omega arith;
      variables = e;
    }

pub invariant_of-self : goal.invariant_of-self
invariant_of-self g c =
    let s = c.args.self.now.core in
    let t = model c.args.self.now.task in
    let v = valid-out c.args.self.now.ok in
    let is : s.status ≡ Fresh = search rules in
    let fresh = stands_at t s Fresh is v in
    let x = c.root.ensures in
    let m = c.root.new.self in
    let w = x.rooted.queued in
    let some : 0 < m.capacity = omega (arith, x.untouched.capacity) in
    record {
      ok = ∣ record {
        consistent = x.consistent;
        variables = x.untouched.variables ∙ v.variables;
        stands = (subst (λ z. WithinLimits t m.capacity z (nodes_of m)) (sym fresh.2) (root-limits t m.capacity (nodes_of m) t.initial w some x.rooted.nodes), root-tree (nodes_of m) t.initial w x.rooted.nodes);
      } ∣₁;
    }

pub returns-clause-does : goal.returns-clause-does
returns-clause-does g c =
    let s = c.args.self.now.core in
    let t = model c.args.self.now.task in
    let x = c.root.ensures in
    let is : s.status ≡ Fresh = search rules in
    let fresh = stands_at t s Fresh is (valid-out c.args.self.now.ok) in
    let q = subst (λ z. g.E.Estimator.meaning.sets c.args.estimator.now t z 1 (Ok tt) c.set.new.row c.set.new.self) c.if-not-prices_into.ensures.1 c.in_ok-set.ensures in
    begins c.set.new.row c.set.new.self x.rooted.queued (ap status_of is) (omega arith) (c.if-not-prices_into.ensures.0 ∙ length-map t.operators (λ o. o.price)) q x.rooted.asked
    (λ j. record { status = plain.running; nodes = x.rooted.nodes j; bound = fresh.1 j; total = fresh.2 j }) refl
