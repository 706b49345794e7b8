-- An advance in the words of the plain search.
use Rattle.std.proofs.Common.{Result, ◌≡◌, ℕ, ◌<◌, Bool, [], length, sym, refl, ap, ◌∙◌, subst, arith, length-set, get_or-set_same}
use lib.ListN.{length-map}
use Rattle.task.specs.declared.task.Task.{Task}
use Rattle.memory.specs.declared.memory.Memory.{Memory}
use Rattle.task.specs.Model.{Model, model}
use Rattle.plain.specs.Plain as plain
use Rattle.plain.specs.Plain.{Plain, Expansions, Finds, Overflows, Advances, Advances.expands_all, Advances.finds, Advances.exhausts, Advances.overflows, reports}
use Rattle.search.specs.declared.inner.Core.{Core}
use Rattle.search.specs.declared.inner.Status.{Status}
use Rattle.search.specs.declared.inner.Status.TheVariants as statuses
use Rattle.search.specs.declared.inner.Event.{Event}
use Rattle.search.specs.declared.inner.Event.TheVariants.{Expanded, Goal, Empty, Overflow}
use Rattle.search.specs.declared.answer.Progress.{Progress}
use Rattle.search.specs.declared.answer.Refused.{Refused}
use Rattle.search.specs.declared.answer.Find.{Find}
use Rattle.memory.specs.Rows.{nodes_of, Consistent, Untouched}
use Rattle.memory.specs.Steps.{WithinLimits}
use Rattle.search.specs.Search.{plain_of, status_of, ended, outcome_of, go_ahead_of, Stepped, Stops, Ran, Ran.whole, Ran.stopped, Concludes, Standing, Valid}
use Rattle.memory.specs.Trees.{ParentTree}
use Rattle.memory.proofs.Held.{count_of}

pub stands_at : (t : Model) (s : Core) (st : Status) → s.status ≡ st → Valid t s → Standing t s st
stands_at t s st e h = subst (λ z. Standing t s z) e h.stands

-- a search that was run stays valid when its status moves on to that of the event
pub valid-after : (t : Model) (s₁ s₂ : Core) (r : Result Progress Refused) (ev : Event) → Valid t s₁ → s₁.status ≡ statuses.Running → ((f : Find) → ev ≡ Goal f → (f.node < length (nodes_of s₁.memory)) × ((plain.node (nodes_of s₁.memory) f.node).g ≡ f.cost)) → Concludes s₁ statuses.Running ev r s₂ → Valid t s₂
valid-after t s₁ s₂ r Expanded v runs held c = subst (Valid t) (sym c.0) v
valid-after t s₁ s₂ r (Goal f) v runs held c =
    let h = held f refl in
    subst (Valid t) (sym c.0) (record { consistent = v.consistent; variables = v.variables; stands = (omega (arith, h.0, count_of s₁.memory), h.1, (stands_at t s₁ statuses.Running runs v).1) })
valid-after t s₁ s₂ r Empty v runs held c = subst (Valid t) (sym c.0) (record { consistent = v.consistent; variables = v.variables; stands = tt })
valid-after t s₁ s₂ r Overflow v runs held c = subst (Valid t) (sym c.0) (record { consistent = v.consistent; variables = v.variables; stands = tt })

-- a step of the search as it stands is one of the task and the room that the search was opened with
pub step-from : {E : Type 0} (est : plain.Kind E) (t t₀ : Task) (N N₀ : ℕ) (p p' : Plain) (e e' : E) (ev : Event) → t ≡ t₀ → N ≡ N₀ → Stepped est (model t) N p e ev p' e' → Stepped est (model t₀) N₀ p e ev p' e'
step-from est t t₀ N N₀ p p' e e' ev q n h = subst (λ z. Stepped est (model z) N₀ p e ev p' e') q (subst (λ z. Stepped est (model t) z p e ev p' e') n h)

-- a memory with the variables of a valid search has a place for each variable of the task
pub variables_of : (t : Task) (m : Memory) (s : Core) → Valid (model t) s → m.variables ≡ s.memory.variables → m.variables ≡ length t.variables.now
variables_of t m s v e = e ∙ v.variables ∙ length-map t.variables.now (λ v. v.domain)

-- a running search stays valid while its nodes and its count keep to their limits
pub valid-running : (t : Model) (s s' : Core) → Valid t s → s'.status ≡ statuses.Running → Consistent s'.memory → Untouched s.memory s'.memory → WithinLimits t s.memory.capacity s'.total (nodes_of s'.memory) → ParentTree (nodes_of s'.memory) → Valid t s'
valid-running t s s' v runs f u limits tree = record {
  consistent = f;
  variables = u.variables ∙ v.variables;
  stands = subst (λ z. Standing t s' z) (sym runs) (subst (λ z. WithinLimits t z s'.total (nodes_of s'.memory)) (sym u.capacity) limits, tree);
}

module _ {E : Type 0} (est : plain.Kind E) (t : Model) (N : ℕ) where
  pub stops-of : (ev : Event) → (ev ≡ Expanded → ⊥) → Stops est t N ev
  stops-of Expanded h = h refl
  stops-of (Goal f) h = tt
  stops-of Empty h = tt
  stops-of Overflow h = tt

  -- a find that a run of steps came to is held, at its cost
  pub ran-find : (n : ℕ) (p q : Plain) (e d : E) (f : Find) → Ran est t N n p e (Goal f) q d → (f.node < length q.nodes) × ((plain.node q.nodes f.node).g ≡ f.cost)
  ran-find n p q e d f (whole x tu) = cc
  ran-find n p q e d f (stopped m r c st l tu x) =
      let y = ap (λ z. z.nodes) x.0.after in
      let i = x.0.least.in_queue.0 in (
        subst (λ z. f.node < length z) (sym y) (simp length-set i),
        ap (λ z. (plain.node z f.node).g) y ∙ ap (λ z. z.g) (get_or-set_same r.nodes f.node _ plain.no_node i) ∙ sym x.1,
      )

  expanded-not : Stops est t N Expanded → ⊥
  expanded-not h = h

  module _ (s s₁ s₂ : Core) (n : ℕ) (e e' : E) (r : Result Progress Refused) (runs : s.status ≡ statuses.Running) where
    run' : status_of s.status ≡ plain.running
    run' = ap status_of runs

    outcome : (w : plain.Outcome) (b : Bool) → outcome_of r ≡ w → go_ahead_of r ≡ b → reports (outcome_of r) [] (go_ahead_of r) (plain_of s₂) ≡ reports w [] b (plain_of s₂)
    outcome w b p q = λ j. reports (p j) [] (q j) (plain_of s₂)

    stopped-of : (ev : Event) (m : ℕ) (q : Plain) (d : E) → Stops est t N ev → m < n → Expansions est t N m (plain_of s) e q d → Stepped est t N q d ev (plain_of s₁) e' → Concludes s₁ statuses.Running ev r s₂ →
        Advances est t N n (plain_of s) e (reports (outcome_of r) [] (go_ahead_of r) (plain_of s₂)) (plain_of s₂) e'
    stopped-of Expanded m q d st l tu h c = absurd (expanded-not st)
    stopped-of (Goal f) m q d st l tu h c =
        finds m f.node q run' l (subst (λ z. Expansions est t N m (plain_of s) e q z) (sym h.2) tu)
        (subst (λ z. Finds est t N q f.node z) (sym (ap plain_of c.0)) h.0)
        (outcome _ _ (c.1 ∙ ap (λ (g : ℕ). plain.found_plan (record { node = f.node; cost = g })) h.1) c.2)
    stopped-of Empty m q d st l tu h c =
        exhausts m q run' l (subst (λ z. Expansions est t N m (plain_of s) e q z) (sym h.2) tu) h.0 (ap plain_of c.0 ∙ ap (ended plain.none) h.1) (outcome _ _ c.1 c.2)
    stopped-of Overflow m q d st l tu h c =
        overflows m q d run' l tu (subst (λ z. Overflows est t N q d z e') (sym (ap plain_of c.0)) h) (outcome _ _ c.1 c.2)

    pub advance-of : (ev : Event) → Ran est t N n (plain_of s) e ev (plain_of s₁) e' → Concludes s₁ statuses.Running ev r s₂ →
        Advances est t N n (plain_of s) e (reports (outcome_of r) [] (go_ahead_of r) (plain_of s₂)) (plain_of s₂) e'
    advance-of ev (whole q tu) c =
        let c' = subst (λ z. Concludes s₁ statuses.Running z r s₂) q c in
        expands_all run' (subst (λ z. Expansions est t N n (plain_of s) e z e') (sym (ap plain_of c'.0)) tu) (outcome _ _ c'.1 c'.2)
    advance-of ev (stopped m q d st l tu h) c = stopped-of ev m q d st l tu h c
