-- What each case of generating a successor comes to in the plain search.
use Rattle.std.proofs.Common.{◌≡◌, ℕ, zero, suc, ◌+◌, ◌*◌, ◌<◌, ◌≤◌, List, [], ◌∷◌, ◌++◌, length, get_or, set, Option, sym, refl, ap, ◌∙◌, subst, mul-le-mul_right, add-one, arith, length-append, length-set}
use native.Mathlib.Decide.{ℕ_discrete}
use Rattle.task.specs.Model.{Model, prices, dearest, Applies, applied}
use Rattle.plain.specs.Plain as plain
use Rattle.plain.specs.Plain.{Generates, Generates.inapplicable, Generates.not_better, Generates.reopens, Generates.adds}
use Rattle.plain.proofs.Placed.{Placed, set-placed, add-placed}
use Rattle.plain.proofs.Budget.{dearest-le, budget-set, budget-add}
use Rattle.memory.specs.declared.memory.Memory.{Memory}
use Rattle.memory.specs.Rows.{nodes_of, state_at, record_at}
use Rattle.plain.specs.Counts.{Budget}
use Rattle.memory.specs.Steps.{NoRoom, CostsBounded, WithinLimits, Reaches, Reaches.keeps, Reaches.reopens as reopens', Reaches.adds as adds'}
use Rattle.memory.proofs.Held.{count_of, state-is, g-is}

made-same : {u v : List ℕ} {b c : ℕ} (x i : ℕ) (o : Option ℕ) → u ≡ v → b ≡ c → plain.new_node u b x i o ≡ plain.new_node v c x i o
made-same x i o p q = λ j. plain.new_node (p j) (q j) x i o

module _ {E : Type 0} (est : plain.Kind E) (t : Model) (N : ℕ) (m : Memory) (x i : ℕ) (l : x < m.held) (r : List ℕ) (er : r ≡ state_at m x) where
  from : r ≡ (plain.node (nodes_of m) x).state
  from = er ∙ sym (state-is m x l)

  pub skip-generate : (e : E) → (Applies t r i → ⊥) → Generates est t N x i (nodes_of m) e (nodes_of m) e
  skip-generate e na = inapplicable (subst (λ z. Applies t z i → ⊥) from na) refl refl

  module _ (s : List ℕ) (a : Applies t r i) (es : s ≡ applied t r i) (g : ℕ) (eg : g ≡ (record_at m x).g + get_or (prices t) i 0) where
    apply' : Applies t (plain.node (nodes_of m) x).state i
    apply' = subst (λ z. Applies t z i) from a

    to : s ≡ applied t (plain.node (nodes_of m) x).state i
    to = es ∙ ap (λ z. applied t z i) from

    g' : g ≡ (plain.node (nodes_of m) x).g + get_or (prices t) i 0
    g' = omega (arith, g-is m x l, eg)

    -- reaching the successor is what generating comes to
    pub reach-generate : (e d : E) (ns' : List plain.Node) → Reaches est t N s g x i (nodes_of m) e ns' d → Generates est t N x i (nodes_of m) e ns' d
    reach-generate e d ns' (keeps k h le en ed) = not_better k apply' (h.0, h.1 ∙ to) (omega (arith, g', le)) en ed
    reach-generate e d ns' (reopens' k o h lt q en) =
        reopens k o apply' (h.0, h.1 ∙ to) (omega (arith, g', lt)) (subst (λ z. est.answers e t z o d) to q) (en ∙ ap (λ z. set (nodes_of m) k z) (made-same x i o to g'))
    reach-generate e d ns' (adds' o nh lt q en) =
        adds o apply' (subst (λ z. plain.NotHeld (nodes_of m) z) to nh) lt (subst (λ z. est.answers e t z o d) to q) (en ∙ ap (λ z. nodes_of m ++ z ∷ []) (made-same x i o to g'))

    pub full-generate : plain.NotHeld (nodes_of m) s → N ≤ m.held → NoRoom t N x i (nodes_of m)
    full-generate nh le = record { applies = apply'; unheld = subst (λ z. plain.NotHeld (nodes_of m) z) to nh; filled = omega (arith, count_of m) }

pub by_place : (ns ms : List plain.Node) (k K : ℕ) (v : plain.Node) → Placed ns k v ms → ((j : ℕ) → j < length ns → (plain.node ns j).g ≤ j * K) → v.g ≤ k * K → (j : ℕ) → j < length ms → (plain.node ms j).g ≤ j * K
by_place ns ms k K v P low h j l = elim (ℕ_discrete j k) [
  | yes e ↦ subst (λ z. (plain.node ms z).g ≤ z * K) (sym e) (rw P.here h)
  | no d ↦ rw (P.others j d) (low j (P.only j l d))
]

module _ {E : Type 0} (est : plain.Kind E) (t : Model) (N : ℕ) where
  pub low-generate : (x i : ℕ) (ns ms : List plain.Node) (e d : E) → x < length ns → CostsBounded t ns → Generates est t N x i ns e ms d → CostsBounded t ms × (length ns ≤ length ms)
  low-generate x i ns ms e d l low (inapplicable na en ed) = rw en (low, omega arith)
  low-generate x i ns ms e d l low (not_better k a h le en ed) = rw en (low, omega arith)
  low-generate x i ns ms e d l low (reopens k o a h lt q en) =
      let v = plain.new_node (applied t (plain.node ns x).state i) ((plain.node ns x).g + get_or (prices t) i 0) x i o in
      rw en (by_place ns (set ns k v) k (dearest (prices t)) v (set-placed ns k v h.0) low (omega (arith, low k h.0, lt)), simp length-set (omega arith))
  low-generate x i ns ms e d l low (adds o a nh lt q en) =
      let v = plain.new_node (applied t (plain.node ns x).state i) ((plain.node ns x).g + get_or (prices t) i 0) x i o in
      rw en (
        by_place ns (ns ++ v ∷ []) (length ns) (dearest (prices t)) v (add-placed ns v) low
            (omega (arith, low x l, dearest-le (prices t) i, mul-le-mul_right (dearest (prices t)) l)),
        omega (arith, length-append ns (v ∷ [])),
      )

  budget-generate : (total x i : ℕ) (ns ms : List plain.Node) (e d : E) → x < length ns → WithinLimits t N total ns → Generates est t N x i ns e ms d → Budget N (dearest (prices t)) total ms
  budget-generate total x i ns ms e d l h (inapplicable na en ed) = rw en h.budget
  budget-generate total x i ns ms e d l h (not_better k a hk le en ed) = rw en h.budget
  budget-generate total x i ns ms e d l h (reopens k o a hk lt q en) = rw en (budget-set N (dearest (prices t)) total ns k _ hk.0 lt h.budget)
  budget-generate total x i ns ms e d l h (adds o a nh lt q en) = rw en (budget-add N (dearest (prices t)) total ns _ lt (omega (arith, h.low x l, dearest-le (prices t) i, mul-le-mul_right (dearest (prices t)) l)) h.budget)

  pub limits-generates : (n total x i : ℕ) (ns ms : List plain.Node) (e d : E) → x < length ns → WithinLimits t N total ns → plain.GeneratesAll est t N x i n ns e ms d → WithinLimits t N total ms × (length ns ≤ length ms)
  limits-generates zero total x i ns ms e d l h r = rw r.0 (h, omega arith)
  limits-generates (suc n) total x i ns ms e d l h r =
      let a = low-generate x i ns r.0 e r.1 l h.low r.2 in
      let b = limits-generates n total x (suc i) r.0 ms r.1 d (omega (arith, a.1)) (record { low = a.0; budget = budget-generate total x i ns r.0 e r.1 l h r.2 }) r.3 in
      (b.0, omega (arith, a.1, b.1))

  generates-snoc : (x n i : ℕ) (ns ms ks : List plain.Node) (e d f : E) → plain.GeneratesAll est t N x i n ns e ms d → Generates est t N x (i + n) ms d ks f → plain.GeneratesAll est t N x i (suc n) ns e ks f
  generates-snoc x zero i ns ms ks e d f r q =
      let q₁ : Generates est t N x i ms d ks f = subst (λ j. Generates est t N x j ms d ks f) (omega arith) q in
      (ks, f, rw (r.0, r.1) at q₁, (refl, refl))
  generates-snoc x (suc n) i ns ms ks e d f r q =
      (r.0, r.1, r.2, generates-snoc x n (suc i) r.0 ms ks r.1 d f r.3 (subst (λ j. Generates est t N x j ms d ks f) (omega arith) q))

  pub one_more : (N' x n : ℕ) (ns ms ks : List plain.Node) (e d f : E) → plain.GeneratesAll est t N x 0 n ns e ms d → N' ≡ N → Generates est t N' x n ms d ks f → plain.GeneratesAll est t N x 0 (n + 1) ns e ks f
  one_more N' x n ns ms ks e d f r eN q =
      let q₁ : Generates est t N x n ms d ks f = rw eN at q in
      rw add-one (generates-snoc x n 0 ns ms ks e d f r (subst (λ j. Generates est t N x j ms d ks f) (omega arith) q₁))
