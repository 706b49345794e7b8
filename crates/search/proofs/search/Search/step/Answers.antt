-- That one step is an expansion, an ending at a goal, an empty open list or an overflow, and that the search stays valid.
use Rattle.std.proofs.Common.{◌+◌, ◌<◌, List, length, sym, refl, ap, ◌∙◌, subst, arith}
use Rattle.task.specs.Model.{model, IsGoal}
use Rattle.task.proofs.Actions.{dearest-low}
use Rattle.memory.specs.Rows.{nodes_of}
use Rattle.memory.specs.Steps.{WithinLimits}
use Rattle.memory.specs.Trees.{ParentTree}
use Rattle.search.specs.Search.{status_of}
use Rattle.plain.specs.Plain as plain
use Rattle.plain.specs.Plain.{Plain, GeneratesAll}
use Rattle.search.specs.declared.inner.Core.{Core}
use Rattle.search.specs.declared.inner.Status.TheVariants.{Running}
use Rattle.memory.proofs.Changes.{untouched-both}
use Rattle.memory.proofs.Held.{count_of, state-is, g-is}
use Rattle.memory.proofs.Tried.{limits-generates}
use Rattle.memory.proofs.Trees.{tree-generates}
use Rattle.search.proofs.Props.{valid-out}
use Rattle.search.proofs.Stepping.{taken-state, taken-g, taken-inside, taken-limits, taken-tree, fewer-limits, limits-small, expands-of, finds-of, overflows-of, expanded-some}
use Rattle.search.proofs.Advancing.{variables_of, valid-running, stands_at}
use Rattle.search.proofs.search.Search.step.Goals as goal

abbrev with-nodes : Core → List plain.Node → Plain
with-nodes s ns = record { status = status_of s.status; nodes = ns; bound = s.bound; total = s.total }

pub take_least-requires : goal.take_least-requires
take_least-requires g c = (valid-out c.args.self.now.ok).consistent

pub invariant_of-self : goal.invariant_of-self
invariant_of-self g c =
    let s = c.args.self.now.core in
    let t = model c.args.self.now.task in
    let v = valid-out c.args.self.now.ok in
    let h = stands_at t s Running c.requires v in
    let q = c.in_default.ensures.taken.1 in
    let x = c.take_least.ensures in
    record { ok = ∣ valid-running t s _ v c.requires x.consistent x.untouched (subst (WithinLimits t s.memory.capacity s.total) (sym q) h.0) (subst ParentTree (sym q) h.1) ∣₁ }

pub returns-in_default-clause-stepped : goal.returns-in_default-clause-stepped
returns-in_default-clause-stepped g c = let q = c.in_default.ensures.taken in (q.0, ap (with-nodes c.args.self.now.core) q.1, refl)

pub at_goal-requires-clause-inside : goal.at_goal-requires-clause-inside
at_goal-requires-clause-inside g c = taken-inside _ _ _ c.in-Some.ensures.taken c.args.self.now.core.memory c.take_least.new.self refl c.take_least.ensures.held

pub at_goal-requires-clause-variables : goal.at_goal-requires-clause-variables
at_goal-requires-clause-variables g c = variables_of c.args.self.now.task c.take_least.new.self c.args.self.now.core (valid-out c.args.self.now.ok) c.take_least.ensures.untouched.variables

pub bounds-core-node : goal.bounds-core-node
bounds-core-node g c =
    let l = taken-inside _ _ _ c.in-Some.ensures.taken c.args.self.now.core.memory c.take_least.new.self refl c.take_least.ensures.held in
    let f = c.take_least.ensures.consistent in
    omega arith

pub invariant_of-self-then-at_goal : goal.invariant_of-self-then-at_goal
invariant_of-self-then-at_goal g c =
    let s = c.args.self.now.core in
    let t = model c.args.self.now.task in
    let v = valid-out c.args.self.now.ok in
    let h = stands_at t s Running c.requires v in
    let x = c.take_least.ensures in
    let taken = c.in-Some.ensures.taken in
    record { ok = ∣ valid-running t s _ v c.requires x.consistent x.untouched (fewer-limits t s.memory.capacity s.total _ (taken-limits _ _ _ taken t s.memory.capacity s.total h.0)) (taken-tree _ _ _ taken h.1) ∣₁ }

pub returns-then-at_goal-clause-stepped : goal.returns-then-at_goal-clause-stepped
returns-then-at_goal-clause-stepped g c =
    let s = c.args.self.now.core in
    let m₁ = c.take_least.new.self in
    let top = c.in-Some.top in
    let t = model c.args.self.now.task in
    let taken = c.in-Some.ensures.taken in
    let est = g.E.Estimator.meaning in
    let l = taken-inside _ _ _ taken s.memory m₁ refl c.take_least.ensures.held in (
      finds-of est t s.memory.capacity s (record { memory = m₁; status = s.status; bound = c.max-core.result; total = s.total }) top (nodes_of m₁) taken c.args.estimator.now c.args.estimator.now
          (subst (λ z. IsGoal t z) (sym (state-is m₁ top.node l) ∙ taken-state (nodes_of s.memory) top (nodes_of m₁) taken) c.if-at_goal.ensures) refl c.max-core.ensures refl,
      sym (g-is m₁ top.node l) ∙ taken-g (nodes_of s.memory) top (nodes_of m₁) taken,
      refl,
    )

pub overflow_add-core : goal.overflow_add-core
overflow_add-core g c =
    let s = c.args.self.now.core in
    let t = model c.args.self.now.task in
    let v = valid-out c.args.self.now.ok in
    omega (arith, limits-small t s.memory.capacity s.total (nodes_of s.memory) (stands_at t s Running c.requires v).0 v.consistent.lent.small (dearest-low c.args.self.now.task))

pub expand-requires : goal.expand-requires
expand-requires g c =
    let s = c.args.self.now.core in
    let m₁ = c.take_least.new.self in
    let t = model c.args.self.now.task in
    let v = valid-out c.args.self.now.ok in
    let taken = c.in-Some.ensures.taken in
    let e = variables_of c.args.self.now.task m₁ s v c.take_least.ensures.untouched.variables in
    record {
      consistent = c.take_least.ensures.consistent;
      inside = taken-inside _ _ _ taken s.memory m₁ refl c.take_least.ensures.held;
      variables = e;
      low = (taken-limits _ _ _ taken t s.memory.capacity s.total (stands_at t s Running c.requires v).0).low;
    }

pub invariant_of-self-2 : goal.invariant_of-self-2
invariant_of-self-2 g c =
    let s = c.args.self.now.core in
    let m₁ = c.take_least.new.self in
    let m₂ = c.expand.new.self in
    let top = c.in-Some.top in
    let t = model c.args.self.now.task in
    let v = valid-out c.args.self.now.ok in
    let h = stands_at t s Running c.requires v in
    let taken = c.in-Some.ensures.taken in
    let est = g.E.Estimator.meaning in
    let x = c.expand.ensures in
    let u = c.take_least.ensures.untouched in
    let some = expanded-some est t m₁.capacity top.node (nodes_of m₁) c.args.estimator.now c.expand.result (nodes_of m₂) c.expand.new.estimator x.expanded in
    let l : top.node < length (nodes_of m₁) = omega (arith, taken-inside _ _ _ taken s.memory m₁ refl c.take_least.ensures.held, count_of m₁) in
    let limits = limits-generates est t m₁.capacity some.0 (s.total + 1) top.node 0 (nodes_of m₁) (nodes_of m₂) c.args.estimator.now c.expand.new.estimator l
    (subst (λ z. WithinLimits t z (s.total + 1) (nodes_of m₁)) (sym u.capacity) (taken-limits _ _ _ taken t s.memory.capacity s.total h.0)) some.1 in
    let tree = tree-generates est t m₁.capacity some.0 top.node 0 (nodes_of m₁) (nodes_of m₂) c.args.estimator.now c.expand.new.estimator l (taken-tree _ _ _ taken h.1) some.1 in
    record { ok = ∣ valid-running t s _ v c.requires x.consistent (untouched-both s.memory m₁ m₂ u x.untouched) (subst (λ z. WithinLimits t z (s.total + 1) (nodes_of m₂)) u.capacity limits.0) tree ∣₁ }

pub returns-in-Err-clause-stepped : goal.returns-in-Err-clause-stepped
returns-in-Err-clause-stepped g c =
    let s = c.args.self.now.core in
    let m₁ = c.take_least.new.self in
    let top = c.in-Some.top in
    let t = model c.args.self.now.task in
    let taken = c.in-Some.ensures.taken in
    let est = g.E.Estimator.meaning in
    let l = taken-inside _ _ _ taken s.memory m₁ refl c.take_least.ensures.held in
    let short = subst (λ z. IsGoal t z → ⊥) (sym (state-is m₁ top.node l) ∙ taken-state (nodes_of s.memory) top (nodes_of m₁) taken) c.if-at_goal.ensures in
    let x = c.in-Err.ensures.expanded in
    overflows-of est t s.memory.capacity s (record { memory = c.expand.new.self; status = s.status; bound = c.max-core.result; total = s.total + 1 }) top (nodes_of m₁) taken c.args.estimator.now c.expand.new.estimator m₁.capacity _ c.take_least.ensures.untouched.capacity short x.0
    x.2 c.max-core.ensures refl

pub returns-in-Ok-clause-stepped : goal.returns-in-Ok-clause-stepped
returns-in-Ok-clause-stepped g c =
    let s = c.args.self.now.core in
    let m₁ = c.take_least.new.self in
    let top = c.in-Some.top in
    let t = model c.args.self.now.task in
    let taken = c.in-Some.ensures.taken in
    let est = g.E.Estimator.meaning in
    let l = taken-inside _ _ _ taken s.memory m₁ refl c.take_least.ensures.held in
    let short = subst (λ z. IsGoal t z → ⊥) (sym (state-is m₁ top.node l) ∙ taken-state (nodes_of s.memory) top (nodes_of m₁) taken) c.if-at_goal.ensures in
    expands-of est t s.memory.capacity s (record { memory = c.expand.new.self; status = s.status; bound = c.max-core.result; total = s.total + 1 }) top (nodes_of m₁) taken c.args.estimator.now c.expand.new.estimator m₁.capacity _ c.take_least.ensures.untouched.capacity short c.in-Ok.ensures.expanded
    refl c.requires c.max-core.ensures refl
