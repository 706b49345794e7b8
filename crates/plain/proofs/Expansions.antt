-- The invariant over single and repeated expansions.
use Rattle.std.proofs.Common.{◌≡◌, ℕ, zero, suc, ◌+◌, ◌-◌, ◌*◌, ◌<◌, ◌≤◌, max, ◌≢◌, ◌⊎◌, List, length, set, sym, refl, ap, ◌∙◌, subst, inl, inr, arith}
use Rattle.task.specs.Model.{Model, prices, IsGoal, Plan, Cost, dearest, WellFormed}
use Rattle.plain.specs.Plain.{Kind, Lawful, Node, node, dequeued, Queued, Least, PathTo, Plain, running, Expands, Expansions, Overflows, Finds}
use Rattle.plain.specs.Runs.{MemoryFull}
use Rattle.plain.proofs.Placed.{Placed, set-placed}
use Rattle.plain.proofs.Paths.{path-leads, path-costs, path-same, leads-plan}
use Rattle.plain.proofs.Keeps.{Invariant}
use Rattle.plain.specs.Counts.{Budget}
use Rattle.plain.proofs.Budget.{budget-take, budget-total}
use Rattle.plain.proofs.Splits.{same_or_not}
use Rattle.plain.proofs.Steps.{AllClosed, stilled, front, least-below, take-inv, Ready, Now, generates-now}

-- an optimal plan on the path to node x
pub record CheapestFound (t : Model) (ns : List Node) (x : ℕ) : Type 0 where
  pub plan : List ℕ
  pub path : PathTo ns x plan
  pub leads : Plan t t.initial plan
  pub costs : Cost (prices t) plan ≡ (node ns x).g
  pub cheapest : (is : List ℕ) → Plan t t.initial is → (node ns x).g ≤ Cost (prices t) is

module _ {E : Type 0} (est : Kind E) (lawful : Lawful est) (t : Model) (sound : WellFormed t) (N : ℕ) where
  pub record Live (p : Plain) (e : E) : Type 0 where
    pub runs : p.status ≡ running
    pub still : AllClosed t p.nodes
    pub budget : Budget N (dearest (prices t)) p.total p.nodes
    pub ready : Ready est t e
    pub below : (is : List ℕ) → Plan t t.initial is → p.bound ≤ Cost (prices t) is

  taken-now : (p : Plain) (e : E) (x h : ℕ) → Live p e → Least p.nodes x h → ¬ IsGoal t (node p.nodes x).state →
      Now est lawful t sound N (p.total + 1) x 0 (set p.nodes x (dequeued (node p.nodes x))) e
  taken-now p e x h v l ng = record {
    inside = (set-placed p.nodes x (dequeued (node p.nodes x)) l.in_queue.0).inside;
    inv = take-inv t p.nodes v.still x h l.in_queue ng;
    budget = budget-take N (dearest (prices t)) p.total p.nodes x h (dequeued (node p.nodes x)) l.in_queue.0 refl refl l.in_queue.1 v.budget;
    ready = v.ready;
  }

  raised : (p : Plain) (e : E) (x h : ℕ) → Live p e → Least p.nodes x h → (is : List ℕ) → Plan t t.initial is → max p.bound ((node p.nodes x).g + h) ≤ Cost (prices t) is
  raised p e x h v l is q = omega (arith, v.below is q, least-below t p.nodes v.still x h l is q)

  pub expands-live : (p q : Plain) (e d : E) → Live p e → Expands est t N p e q d → Live q d × (p.bound ≤ q.bound) × (q.total ≡ p.total + 1)
  expands-live p q e d v x =
      let n = generates-now est lawful t sound N (length t.operators) (p.total + 1) x.x 0 (set p.nodes x.x (dequeued (node p.nodes x.x))) x.nodes e d
      (taken-now p e x.x x.h v x.least x.short) x.generates in
      rw x.after (
        record {
          runs = refl;
          still = stilled t x.nodes x.x (subst (λ j. Invariant t x.nodes x.x j) (omega arith) n.inv);
          budget = n.budget;
          ready = n.ready;
          below = raised p e x.x x.h v x.least;
        },
        omega arith,
        refl,
      )

  pub expansions-live : (n : ℕ) (p q : Plain) (e d : E) → Live p e → Expansions est t N n p e q d → Live q d × (p.bound ≤ q.bound) × (q.total ≡ p.total + n)
  expansions-live zero p q e d v r = rw (r.0, r.1) (v, omega arith, omega arith)
  expansions-live (suc n) p q e d v r =
      let a = expands-live p r.0 e r.1 v r.2 in
      let b = expansions-live n r.0 q r.1 d a.0 r.3 in
      (b.0, omega (arith, a.1, b.1), omega (arith, a.2, b.2))

  pub empty-none : (p : Plain) (e : E) → Live p e → ((k h : ℕ) → ¬ Queued p.nodes k h) → (is : List ℕ) → Plan t t.initial is → ⊥
  empty-none p e v none is q =
      let r = front t p.nodes v.still is 0 v.still.some (rw v.still.root q) in
      none r.at r.h r.in_queue

  pub finds-won : (p q : Plain) (e : E) (x : ℕ) → Live p e → Finds est t N p x q → CheapestFound t q.nodes x × ((node q.nodes x).g ≡ (node p.nodes x).g)
  finds-won p q e x v f = rw f.after (
    record {
      plan = is;
      path = path-same p.nodes ms P.more (kept (λ n. n.parent) refl) (kept (λ n. n.operator) refl) x is w;
      leads = plan;
      costs = exact ∙ sym gs;
      cheapest = λ js q. rw gs (omega (arith, best js q));
    },
    gs,
  )
    where
      inv : AllClosed t p.nodes
      inv = v.still

      is : List ℕ
      is = (inv.paths x f.least.in_queue.0).0

      w : PathTo p.nodes x is
      w = (inv.paths x f.least.in_queue.0).1

      ms : List Node
      ms = set p.nodes x (dequeued (node p.nodes x))

      P : Placed p.nodes x (dequeued (node p.nodes x)) ms
      P = set-placed p.nodes x (dequeued (node p.nodes x)) f.least.in_queue.0

      kept : (g : Node → ℕ) → g (dequeued (node p.nodes x)) ≡ g (node p.nodes x) → (j : ℕ) → g (node ms j) ≡ g (node p.nodes j)
      kept g e j = go (same_or_not j x)
        where
          go : (j ≡ x) ⊎ (j ≢ x) → g (node ms j) ≡ g (node p.nodes j)
          go (inl q) = rw q (ap g P.here ∙ e)
          go (inr d) = ap g (P.others j d)

      gs : (node ms x).g ≡ (node p.nodes x).g
      gs = kept (λ n. n.g) refl x

      plan : Plan t t.initial is
      plan = leads-plan t t.initial (node p.nodes x).state is (path-leads t p.nodes inv.root inv.came x is w) f.goal

      best : (js : List ℕ) → Plan t t.initial js → (node p.nodes x).g + f.h ≤ Cost (prices t) js
      best = least-below t p.nodes inv x f.h f.least

      exact : Cost (prices t) is ≡ (node p.nodes x).g
      exact = omega (arith, best is plan, path-costs t p.nodes inv.root inv.came x is w)

  pub record Ended (p q : Plain) : Type 0 where
    pub rises : p.bound ≤ q.bound
    pub below : (is : List ℕ) → Plan t t.initial is → q.bound ≤ Cost (prices t) is
    pub total : q.total ≤ N * ((N - 1) * dearest (prices t) + 1)

  pub live-total : (p : Plain) (e : E) → Live p e → p.total ≤ N * ((N - 1) * dearest (prices t) + 1)
  live-total p e v = budget-total N (dearest (prices t)) p.total p.nodes v.budget

  pub finds-ended : (p q : Plain) (e : E) (x : ℕ) → Live p e → Finds est t N p x q → Ended p q
  finds-ended p q e x v f = rw f.after record { rises = omega arith; below = raised p e x f.h v f.least; total = live-total p e v }

  pub overflows-filled : (p q : Plain) (e d : E) → Live p e → Overflows est t N p e q d → MemoryFull t N q.nodes × Ended p q
  overflows-filled p q e d v o = rw o.after (
    record {
      count = size;
      different = λ j k lj lk q. n.inv.sole j k (into j lj) (into k lk) q;
      reached = λ k l. let w = n.inv.paths k (into k l) in (w.0, path-leads t ns n.inv.root n.inv.came k w.0 w.1);
      from = o.x;
      operator = o.i;
      within = let h : o.x < length ns = n.inside in omega (arith, size);
      applies = o.applies;
      outside = λ k l. o.unheld k (into k l);
    },
    record { rises = omega arith; below = raised p e o.x o.h v o.least; total = budget-total N (dearest (prices t)) (p.total + 1) ns n.budget },
  )
    where
      ns : List Node
      ns = o.nodes

      n : Now est lawful t sound N (p.total + 1) o.x (o.i + 0) ns d
      n = generates-now est lawful t sound N o.i (p.total + 1) o.x 0 (set p.nodes o.x (dequeued (node p.nodes o.x))) ns e d (taken-now p e o.x o.h v o.least o.short) o.generates

      size : length ns ≡ N
      size = omega (arith, o.filled, n.budget.within)

      into : (k : ℕ) → k < N → k < length ns
      into k l = omega (arith, size)
