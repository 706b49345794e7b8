-- What holds of the nodes at all times, and that a node may be placed.
use Rattle.std.proofs.Common.{◌≡◌, ℕ, suc, ◌+◌, ◌*◌, ◌<◌, ◌≤◌, ◌≢◌, ◌⊎◌, List, length, get_or, Some, None, Option, sym, ap, ◌∙◌, inl, inr, arith}
use Rattle.task.specs.Model.{Model, prices, IsState, IsGoal, Applies, applied, Plan, Cost, dearest, WellFormed}
use Rattle.plain.specs.Plain.{Node, node, new_node, PathTo}
use Rattle.plain.proofs.Placed.{Placed}
use Rattle.plain.proofs.Paths.{ComesFrom, path-new, path-again}
use Rattle.plain.proofs.Splits.{same_or_not}

-- an estimate that is admissible: no plan costs less, and where there is none, there is no plan
abbrev pub AdmissibleAt : Model → List ℕ → Option ℕ → Type 0
AdmissibleAt t s None = (is : List ℕ) → Plan t s is → ⊥
AdmissibleAt t s (Some h) = (is : List ℕ) → Plan t s is → h ≤ Cost (prices t) is

-- operator j leads from node k to a held state, at no more than k's Cost and the price
pub record Relaxed (t : Model) (ns : List Node) (k j : ℕ) : Type 0 where
  pub to : ℕ
  pub held : to < length ns
  pub leads : (node ns to).state ≡ applied t (node ns k).state j
  pub costs : (node ns to).g ≤ (node ns k).g + get_or (prices t) j 0

-- node k was expanded; of the node x only the operators below i count
pub record Closed (t : Model) (ns : List Node) (x i k : ℕ) : Type 0 where
  pub idle : (node ns k).queued ≡ None
  pub short : ¬ IsGoal t (node ns k).state
  pub down : (j : ℕ) → (k ≡ x → j < i) → Applies t (node ns k).state j → Relaxed t ns k j

pub record Invariant (t : Model) (ns : List Node) (x i : ℕ) : Type 0 where
  pub some : 0 < length ns
  pub root : (node ns 0).state ≡ t.initial
  pub free : (node ns 0).g ≡ 0
  pub states : (k : ℕ) → k < length ns → IsState t (node ns k).state
  pub sole : (j k : ℕ) → j < length ns → k < length ns → (node ns j).state ≡ (node ns k).state → j ≡ k
  pub came : (k : ℕ) → k < length ns → k ≢ 0 → ComesFrom t ns k
  pub paths : (k : ℕ) → k < length ns → (is : List ℕ) × PathTo ns k is
  pub low : (k : ℕ) → k < length ns → (node ns k).g ≤ k * dearest (prices t)
  pub closed : (k : ℕ) → k < length ns → AdmissibleAt t (node ns k).state (node ns k).queued ⊎ Closed t ns x i k

-- one more operator has been tried
pub further : (t : Model) (ns : List Node) (x i : ℕ) → Invariant t ns x i → (Applies t (node ns x).state i → Relaxed t ns x i) → Invariant t ns x (suc i)
further t ns x i inv d = record {
  some = inv.some;
  root = inv.root;
  free = inv.free;
  states = inv.states;
  sole = inv.sole;
  came = inv.came;
  paths = inv.paths;
  low = inv.low;
  closed = λ k l. side k (inv.closed k l);
}
  where
    at_x : (k : ℕ) → Closed t ns x i k → (j : ℕ) → (k ≡ x → j < suc i) → Applies t (node ns k).state j → (k ≡ x) ⊎ (k ≢ x) → (j ≡ i) ⊎ (j ≢ i) → Relaxed t ns k j
    at_x k o j f a (inl q) (inl r) = rw (q, r) (d (rw (q, r) at a))
    at_x k o j f a (inl q) (inr r) = o.down j (λ z. omega (arith, f z)) a
    at_x k o j f a (inr q) y = o.down j (λ z. absurd (q z)) a

    side : (k : ℕ) → AdmissibleAt t (node ns k).state (node ns k).queued ⊎ Closed t ns x i k → AdmissibleAt t (node ns k).state (node ns k).queued ⊎ Closed t ns x (suc i) k
    side k (inl f) = inl f
    side k (inr o) = inr record { idle = o.idle; short = o.short; down = λ j f a. at_x k o j f a (same_or_not k x) (same_or_not j i) }

-- what a node placed at k has to be: new, or better than the one there
pub record Placing (t : Model) (ns : List Node) (x i k : ℕ) (a : Option ℕ) : Type 0 where
  pub from : x < length ns
  pub applies : Applies t (node ns x).state i
  pub sole : (j : ℕ) → j < length ns → (node ns j).state ≡ applied t (node ns x).state i → j ≡ k
  pub same : k < length ns → (node ns k).state ≡ applied t (node ns x).state i
  pub falls : k < length ns → (node ns x).g + get_or (prices t) i 0 < (node ns k).g
  pub apart : k ≢ x
  pub nonzero : k ≢ 0
  pub low : (node ns x).g + get_or (prices t) i 0 ≤ k * dearest (prices t)
  pub fair : AdmissibleAt t (applied t (node ns x).state i) a

pub came-by : (t : Model) (ms : List Node) (j p b : ℕ) → (node ms j).parent ≡ p → (node ms j).operator ≡ b → p < length ms → Applies t (node ms p).state b →
    applied t (node ms p).state b ≡ (node ms j).state → (node ms p).g + get_or (prices t) b 0 ≤ (node ms j).g → ComesFrom t ms j
came-by t ms j p b ep eb l a e g = record { from = rw ep l; applies = rw (ep, eb) a; leads = rw (ep, eb) e; costs = rw (ep, eb) g }

module _ (t : Model) (sound : WellFormed t) (ns ms : List Node) (x i k : ℕ) (a : Option ℕ) (inv : Invariant t ns x i) (c : Placing t ns x i k a)
    (placed : Placed ns k (new_node (applied t (node ns x).state i) ((node ns x).g + get_or (prices t) i 0) x i a) ms) where
  here-state : (node ms k).state ≡ applied t (node ns x).state i
  here-state = rw placed.here

  here-g : (node ms k).g ≡ (node ns x).g + get_or (prices t) i 0
  here-g = rw placed.here

  x-same : node ms x ≡ node ns x
  x-same = placed.others x (λ q. c.apart (sym q))

  -- any property of a node, by whether it is k
  by-case : (P : ℕ → Type 0) → ((j : ℕ) → j ≡ k → P j) → ((j : ℕ) → j ≢ k → j < length ns → node ms j ≡ node ns j → P j) → (j : ℕ) → j < length ms → P j
  by-case P here there j l = side (same_or_not j k)
    where
      side : (j ≡ k) ⊎ (j ≢ k) → P j
      side (inl q) = here j q
      side (inr d) = there j d (placed.only j l d) (placed.others j d)

  states' : (j : ℕ) → j < length ms → IsState t (node ms j).state
  states' = by-case (λ j. IsState t (node ms j).state)
      (λ j q. rw (q, here-state) (sound.stays (node ns x).state i (inv.states x c.from) c.applies))
      (λ j d l o. rw o (inv.states j l))

  -- a node of the same state as the new one is the new one
  sole-k : (j : ℕ) → j < length ms → (node ms j).state ≡ applied t (node ns x).state i → j ≡ k
  sole-k = by-case (λ j. (node ms j).state ≡ applied t (node ns x).state i → j ≡ k)
      (λ j q e. q)
      (λ j d l o e. c.sole j l (rw o at e))

  sole' : (j m : ℕ) → j < length ms → m < length ms → (node ms j).state ≡ (node ms m).state → j ≡ m
  sole' j m lj lm e = side (same_or_not j k) (same_or_not m k)
    where
      side : (j ≡ k) ⊎ (j ≢ k) → (m ≡ k) ⊎ (m ≢ k) → j ≡ m
      side (inl p) (inl q) = p ∙ sym q
      side (inl p) (inr q) = absurd (q (sole-k m lm (sym e ∙ rw p here-state)))
      side (inr p) (inl q) = absurd (p (sole-k j lj (e ∙ rw q here-state)))
      side (inr p) (inr q) =
          let oj = placed.others j p in
          let om = placed.others m q in
          inv.sole j m (placed.only j lj p) (placed.only m lm q) (sym (ap (λ n. n.state) oj) ∙ e ∙ ap (λ n. n.state) om)

  x-inside : x < length ms
  x-inside = placed.more x c.from

  came-k : ComesFrom t ms k
  came-k = came-by t ms k x i (rw placed.here) (rw placed.here) x-inside (rw x-same c.applies) (rw (x-same, here-state)) (rw (x-same, here-g) (omega arith))

  -- what stood of a node's state stands, and its Cost is no greater
  state-stays : (j : ℕ) → j < length ns → (node ms j).state ≡ (node ns j).state
  state-stays j l = side (same_or_not j k)
    where
      side : (j ≡ k) ⊎ (j ≢ k) → (node ms j).state ≡ (node ns j).state
      side (inl q) = rw q (here-state ∙ sym (c.same (rw q at l)))
      side (inr d) = ap (λ n. n.state) (placed.others j d)

  g-falls : (j : ℕ) → j < length ns → (node ms j).g ≤ (node ns j).g
  g-falls j l = side (same_or_not j k)
    where
      side : (j ≡ k) ⊎ (j ≢ k) → (node ms j).g ≤ (node ns j).g
      side (inl q) = rw q (omega (arith, here-g, c.falls (rw q at l)))
      side (inr d) = omega (arith, ap (λ n. n.g) (placed.others j d))

  came' : (j : ℕ) → j < length ms → j ≢ 0 → ComesFrom t ms j
  came' = by-case (λ j. j ≢ 0 → ComesFrom t ms j) (λ j q _. rw q came-k) (λ j d l o z.
      let b = inv.came j l z in
      let s = state-stays (node ns j).parent b.from in
      came-by t ms j (node ns j).parent (node ns j).operator (ap (λ n. n.parent) o) (ap (λ n. n.operator) o)
      (placed.more (node ns j).parent b.from) (rw s b.applies) (rw (s, o) b.leads)
      (rw o (omega (arith, g-falls (node ns j).parent b.from, b.costs))))

  ways' : (j : ℕ) → j < length ms → (is : List ℕ) × PathTo ms j is
  ways' = by-case (λ j. (is : List ℕ) × PathTo ms j is)
      (λ j q. rw q (path-new t ns ms k _ placed inv.came c.falls c.nonzero (inv.paths x c.from) (omega arith)))
      (λ j d l o. path-again t ns ms k _ placed inv.came c.falls c.nonzero (inv.paths x c.from) (omega arith) j (inv.paths j l).0 (inv.paths j l).1)

  low' : (j : ℕ) → j < length ms → (node ms j).g ≤ j * dearest (prices t)
  low' = by-case (λ j. (node ms j).g ≤ j * dearest (prices t)) (λ j q. rw (q, here-g) c.low) (λ j d l o. rw o (inv.low j l))

  closed' : (j : ℕ) → j < length ms → AdmissibleAt t (node ms j).state (node ms j).queued ⊎ Closed t ms x i j
  closed' = by-case (λ j. AdmissibleAt t (node ms j).state (node ms j).queued ⊎ Closed t ms x i j)
      (λ j q. inl (rw (q, placed.here) c.fair))
      (λ j d l o. side j l o (inv.closed j l))
    where
      side : (j : ℕ) → j < length ns → node ms j ≡ node ns j → AdmissibleAt t (node ns j).state (node ns j).queued ⊎ Closed t ns x i j → AdmissibleAt t (node ms j).state (node ms j).queued ⊎ Closed t ms x i j
      side j l o (inl f) = inl (rw o f)
      side j l o (inr w) = inr record {
        idle = rw o w.idle;
        short = rw o w.short;
        down = λ m f b.
            let y = w.down m f (rw o at b) in
            record {
              to = y.to;
              held = placed.more y.to y.held;
              leads = rw o (state-stays y.to y.held ∙ y.leads);
              costs = rw o (omega (arith, g-falls y.to y.held, y.costs));
            };
      }

  placed-inv : Invariant t ms x i
  placed-inv = record {
    some = placed.more 0 inv.some;
    root = state-stays 0 inv.some ∙ inv.root;
    free = omega (arith, g-falls 0 inv.some, inv.free);
    states = states';
    sole = sole';
    came = came';
    paths = ways';
    low = low';
    closed = closed';
  }

  pub placed-further : Invariant t ms x (suc i)
  placed-further = further t ms x i placed-inv (λ _. record { to = k; held = placed.inside; leads = rw (here-state, x-same); costs = rw (here-g, x-same) (omega arith) })
