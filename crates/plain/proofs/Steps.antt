-- The invariant over the steps of the search.
use Rattle.std.proofs.Common.{◌≡◌, ℕ, zero, suc, ◌+◌, ◌*◌, ◌<◌, ◌≤◌, ◌≢◌, ◌⊎◌, List, [], ◌∷◌, ◌++◌, length, get_or, set, Some, None, Option, sym, refl, ap, ◌∙◌, subst, inl, inr, not-suc-le-zero, mul-le-mul_right, arith, length-set}
use Rattle.task.specs.Model.{Model, prices, IsState, IsGoal, Applies, applied, Plan, Cost, dearest, WellFormed}
use Rattle.plain.specs.Plain.{Kind, Lawful, Node, node, new_node, dequeued, Queued, Least, NoLater, NoLater.by_f, NoLater.by_estimate, NoLater.by_node, Generates, Generates.inapplicable, Generates.not_better, Generates.reopens, Generates.adds, GeneratesAll}
use Rattle.plain.proofs.Placed.{Placed, set-placed, add-placed}
use Rattle.plain.proofs.Paths.{path-same}
use Rattle.plain.proofs.Keeps.{AdmissibleAt, Relaxed, Closed, Invariant, Placing, further, placed-further, came-by}
use Rattle.plain.specs.Counts.{Budget}
use Rattle.plain.proofs.Budget.{budget-set, budget-add, dearest-le, cost-le}
use Rattle.plain.proofs.Splits.{same_or_not}

-- nothing is left to try of any node
abbrev pub AllClosed : Model → List Node → Type 0
AllClosed t ns = Invariant t ns 0 (length t.operators)

-- a queued node whose f is at most c
pub record OnPlan (ns : List Node) (c : ℕ) : Type 0 where
  pub at : ℕ
  pub h : ℕ
  pub in_queue : Queued ns at h
  pub below : (node ns at).g + h ≤ c

module _ (t : Model) where
  applies-below : (s : List ℕ) (i : ℕ) → Applies t s i → i < length t.operators
  unfolding Applies
  applies-below s i a = a.0

  pub stilled : (ns : List Node) (x : ℕ) → Invariant t ns x (length t.operators) → AllClosed t ns
  stilled ns x inv = record {
    some = inv.some;
    root = inv.root;
    free = inv.free;
    states = inv.states;
    sole = inv.sole;
    came = inv.came;
    paths = inv.paths;
    low = inv.low;
    closed = λ k l. side k (inv.closed k l);
  }
    where
      side : (k : ℕ) → AdmissibleAt t (node ns k).state (node ns k).queued ⊎ Closed t ns x (length t.operators) k →
          AdmissibleAt t (node ns k).state (node ns k).queued ⊎ Closed t ns 0 (length t.operators) k
      side k (inl f) = inl f
      side k (inr o) = inr record { idle = o.idle; short = o.short; down = λ j f a. o.down j (λ _. applies-below (node ns k).state j a) a }

  -- on each plan there is a queued node
  module _ (ns : List Node) (inv : AllClosed t ns) where
    fair-front : (k : ℕ) (is : List ℕ) → k < length ns → Plan t (node ns k).state is → (o : Option ℕ) → (node ns k).queued ≡ o → AdmissibleAt t (node ns k).state o →
        OnPlan ns ((node ns k).g + Cost (prices t) is)
    fair-front k is l p None e f = absurd (f is p)
    fair-front k is l p (Some h) e f = record { at = k; h = h; in_queue = (l, e); below = omega (arith, f is p) }

    pub front : (is : List ℕ) (k : ℕ) → k < length ns → Plan t (node ns k).state is → OnPlan ns ((node ns k).g + Cost (prices t) is)
    front [] k l p = side (inv.closed k l)
      where
        side : AdmissibleAt t (node ns k).state (node ns k).queued ⊎ Closed t ns 0 (length t.operators) k → OnPlan ns ((node ns k).g + Cost (prices t) [])
        side (inl f) = fair-front k [] l p (node ns k).queued refl f
        side (inr o) = absurd (o.short p)
    front (i ∷ is) k l p = side (inv.closed k l) (λ m lm q. front is m lm q)
      where
        side : AdmissibleAt t (node ns k).state (node ns k).queued ⊎ Closed t ns 0 (length t.operators) k →
            ((m : ℕ) → m < length ns → Plan t (node ns m).state is → OnPlan ns ((node ns m).g + Cost (prices t) is)) → OnPlan ns ((node ns k).g + Cost (prices t) (i ∷ is))
        side (inl f) rec = fair-front k (i ∷ is) l p (node ns k).queued refl f
        side (inr o) rec =
            let d = o.down i (λ _. applies-below (node ns k).state i p.0) p.0 in
            let r = rec d.to d.held (rw d.leads p.1) in
            record { at = r.at; h = r.h; in_queue = r.in_queue; below = omega (arith, r.below, d.costs) }

    -- no plan costs less than the least f
    pub least-below : (x h : ℕ) → Least ns x h → (is : List ℕ) → Plan t t.initial is → (node ns x).g + h ≤ Cost (prices t) is
    least-below x h least is p =
        let r = front is 0 inv.some (rw inv.root p) in
        side r (least.first r.at r.h r.in_queue)
      where
        side : (r : OnPlan ns ((node ns 0).g + Cost (prices t) is)) → NoLater ((node ns x).g + h) h x ((node ns r.at).g + r.h) r.h r.at → (node ns x).g + h ≤ Cost (prices t) is
        side r (by_f l) = omega (arith, r.below, inv.free)
        side r (by_estimate e l) = omega (arith, r.below, inv.free)
        side r (by_node e _ l) = omega (arith, r.below, inv.free)

    -- the least node is dequeued from the queue, to be expanded
    pub take-inv : (x h : ℕ) → Queued ns x h → ¬ IsGoal t (node ns x).state → Invariant t (set ns x (dequeued (node ns x))) x 0
    take-inv x h w ng = record {
      some = P.more 0 inv.some;
      root = st 0 ∙ inv.root;
      free = gs 0 ∙ inv.free;
      states = λ k l. rw (st k) (inv.states k (down k l));
      sole = λ j k lj lk q. inv.sole j k (down j lj) (down k lk) (sym (st j) ∙ q ∙ st k);
      came = λ k l nz.
          let c = inv.came k (down k l) nz in
          came-by t ms k (node ns k).parent (node ns k).operator (pa k) (op k) (P.more (node ns k).parent c.from) (rw (st (node ns k).parent) c.applies)
          (rw (st (node ns k).parent, st k) c.leads) (rw (gs (node ns k).parent, gs k) c.costs);
      paths = λ k l. let v = inv.paths k (down k l) in (v.0, path-same ns ms P.more pa op k v.0 v.1);
      low = λ k l. rw (gs k) (inv.low k (down k l));
      closed = λ k l. side k l (same_or_not k x);
    }
      where
        ms : List Node
        ms = set ns x (dequeued (node ns x))

        P : Placed ns x (dequeued (node ns x)) ms
        P = set-placed ns x (dequeued (node ns x)) w.0

        kept : {A : Type 0} (f : Node → A) → f (dequeued (node ns x)) ≡ f (node ns x) → (j : ℕ) → f (node ms j) ≡ f (node ns j)
        kept {A} f e j = go (same_or_not j x)
          where
            go : (j ≡ x) ⊎ (j ≢ x) → f (node ms j) ≡ f (node ns j)
            go (inl q) = rw q (ap f P.here ∙ e)
            go (inr d) = ap f (P.others j d)

        st : (j : ℕ) → (node ms j).state ≡ (node ns j).state
        st = kept (λ n. n.state) refl

        gs : (j : ℕ) → (node ms j).g ≡ (node ns j).g
        gs = kept (λ n. n.g) refl

        pa : (j : ℕ) → (node ms j).parent ≡ (node ns j).parent
        pa = kept (λ n. n.parent) refl

        op : (j : ℕ) → (node ms j).operator ≡ (node ns j).operator
        op = kept (λ n. n.operator) refl

        down : (k : ℕ) → k < length ms → k < length ns
        down k l = simp length-set at l

        moved : (k j : ℕ) → Relaxed t ns k j → Relaxed t ms k j
        moved k j d = record { to = d.to; held = P.more d.to d.held; leads = rw (st d.to, st k) d.leads; costs = rw (gs d.to, gs k) d.costs }

        other : (k : ℕ) → node ms k ≡ node ns k → AdmissibleAt t (node ns k).state (node ns k).queued ⊎ Closed t ns 0 (length t.operators) k →
            AdmissibleAt t (node ms k).state (node ms k).queued ⊎ Closed t ms x 0 k
        other k o (inl f) = inl (rw o f)
        other k o (inr d) = inr record {
          idle = rw o d.idle;
          short = rw o d.short;
          down = λ j f a. let b : Applies t (node ns k).state j = rw o at a in moved k j (d.down j (λ _. applies-below (node ns k).state j b) b);
        }

        side : (k : ℕ) → k < length ms → (k ≡ x) ⊎ (k ≢ x) → AdmissibleAt t (node ms k).state (node ms k).queued ⊎ Closed t ms x 0 k
        side k l (inl q) = inr record { idle = rw (q, P.here); short = rw (st k, q) ng; down = λ j f a. absurd (not-suc-le-zero (f q)) }
        side k l (inr d) = other k (P.others k d) (inv.closed k (down k l))

-- set on the task at no more than its prices
pub record Ready {E : Type 0} (est : Kind E) (t : Model) (e : E) : Type 0 where
  pub held : List ℕ
  pub holds : est.holds e t held
  pub under : (i : ℕ) → get_or held i 0 ≤ get_or (prices t) i 0

module _ {E : Type 0} (est : Kind E) (lawful : Lawful est) (t : Model) (sound : WellFormed t) (N : ℕ) where
  pub answer-fair : (e d : E) (s : List ℕ) (a : Option ℕ) → Ready est t e → IsState t s → est.answers e t s a d → AdmissibleAt t s a
  answer-fair e d s None r i q = lawful.admits r.holds i q
  answer-fair e d s (Some n) r i q = λ is p. omega (arith, lawful.admits r.holds i q is p, cost-le r.held (prices t) is r.under)

  pub answer-ready : (e d : E) (s : List ℕ) (a : Option ℕ) → Ready est t e → est.answers e t s a d → Ready est t d
  answer-ready e d s a r q = record { held = r.held; holds = lawful.keeps r.holds q; under = r.under }

  -- what stands while the node x is expanded
  pub record Now (total x i : ℕ) (ns : List Node) (e : E) : Type 0 where
    pub inside : x < length ns
    pub inv : Invariant t ns x i
    pub budget : Budget N (dearest (prices t)) total ns
    pub ready : Ready est t e

  pub generate-now : (total x i : ℕ) (ns ms : List Node) (e d : E) → Now total x i ns e → Generates est t N x i ns e ms d → Now total x (suc i) ms d
  generate-now total x i ns ms e d n (inapplicable na en ed) = record {
    inside = rw en n.inside;
    inv = rw en (further t ns x i n.inv (λ a. absurd (na a)));
    budget = rw en n.budget;
    ready = rw ed n.ready;
  }
  generate-now total x i ns ms e d n (not_better k a hk le en ed) = record {
    inside = rw en n.inside;
    inv = rw en (further t ns x i n.inv (λ _. record { to = k; held = hk.0; leads = hk.1; costs = le }));
    budget = rw en n.budget;
    ready = rw ed n.ready;
  }
  generate-now total x i ns ms e d n (reopens k o a hk lt q en) = rw en record {
    inside = P.more x n.inside;
    inv = placed-further t sound ns (set ns k v) x i k o n.inv c P;
    budget = budget-set N (dearest (prices t)) total ns k v hk.0 lt n.budget;
    ready = answer-ready e d s o n.ready q;
  }
    where
      s : List ℕ
      s = applied t (node ns x).state i

      v : Node
      v = new_node s ((node ns x).g + get_or (prices t) i 0) x i o

      P : Placed ns k v (set ns k v)
      P = set-placed ns k v hk.0

      c : Placing t ns x i k o
      c = record {
        from = n.inside;
        applies = a;
        sole = λ j l z. n.inv.sole j k l hk.0 (z ∙ sym hk.1);
        same = λ _. hk.1;
        falls = λ _. lt;
        apart = λ z. let f : (node ns x).g < (node ns x).g = rw z at (lower k lt) in omega arith;
        nonzero = λ z. let f : (node ns 0).g ≡ 0 = n.inv.free in omega (arith, rw z at lt);
        low = omega (arith, n.inv.low k hk.0, lt);
        fair = answer-fair e d s o n.ready (sound.stays (node ns x).state i (n.inv.states x n.inside) a) q;
      }
        where
          lower : (m : ℕ) → (node ns x).g + get_or (prices t) i 0 < (node ns m).g → (node ns x).g < (node ns m).g
          lower m h = omega arith
  generate-now total x i ns ms e d n (adds o a nh lt q en) = rw en record {
    inside = P.more x n.inside;
    inv = placed-further t sound ns (ns ++ v ∷ []) x i (length ns) o n.inv c P;
    budget = budget-add N (dearest (prices t)) total ns v lt lowly n.budget;
    ready = answer-ready e d s o n.ready q;
  }
    where
      s : List ℕ
      s = applied t (node ns x).state i

      v : Node
      v = new_node s ((node ns x).g + get_or (prices t) i 0) x i o

      P : Placed ns (length ns) v (ns ++ v ∷ [])
      P = add-placed ns v

      lowly : (node ns x).g + get_or (prices t) i 0 ≤ length ns * dearest (prices t)
      lowly = omega (arith, n.inv.low x n.inside, dearest-le (prices t) i, mul-le-mul_right (dearest (prices t)) n.inside)

      c : Placing t ns x i (length ns) o
      c = record {
        from = n.inside;
        applies = a;
        sole = λ j l z. absurd (nh j l z);
        same = λ f. absurd (irr f);
        falls = λ f. absurd (irr f);
        apart = λ z. let f : x < length ns = n.inside in omega arith;
        nonzero = λ z. let f : 0 < length ns = n.inv.some in omega arith;
        low = lowly;
        fair = answer-fair e d s o n.ready (sound.stays (node ns x).state i (n.inv.states x n.inside) a) q;
      }
        where
          irr : length ns < length ns → ⊥
          irr f = omega arith

  pub generates-now : (m total x i : ℕ) (ns ms : List Node) (e d : E) → Now total x i ns e → GeneratesAll est t N x i m ns e ms d → Now total x (m + i) ms d
  generates-now zero total x i ns ms e d n r = rw (r.0, r.1) (subst (λ j. Now total x j ns e) (omega arith) n)
  generates-now (suc m) total x i ns ms e d n r =
      subst (λ j. Now total x j ms d) (omega arith) (generates-now m total x (suc i) r.0 ms r.1 d (generate-now total x i ns r.0 e r.1 n r.2) r.3)
