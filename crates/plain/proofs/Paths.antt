-- The paths back from the nodes to node 0.
use Rattle.std.proofs.Common.{◌≡◌, ℕ, ◌+◌, ◌<◌, ◌≤◌, ◌≢◌, ◌⊎◌, List, [], ◌∷◌, ◌++◌, length, get_or, sym, refl, subst, inl, inr, arith}
use Rattle.task.specs.Model.{Model, prices, IsGoal, Applies, applied, Plan, Leads, Cost}
use Rattle.plain.specs.Plain.{Node, node, PathTo, PathTo.home, PathTo.step}
use Rattle.plain.proofs.Placed.{Placed}
use Rattle.plain.proofs.Splits.{same_or_not}

-- the node k came from its parent by its operator, at no less than the parent's Cost and the price
pub record ComesFrom (t : Model) (ns : List Node) (k : ℕ) : Type 0 where
  pub from : (node ns k).parent < length ns
  pub applies : Applies t (node ns (node ns k).parent).state (node ns k).operator
  pub leads : applied t (node ns (node ns k).parent).state (node ns k).operator ≡ (node ns k).state
  pub costs : (node ns (node ns k).parent).g + get_or (prices t) (node ns k).operator 0 ≤ (node ns k).g

pub leads-snoc : (t : Model) (s u : List ℕ) (is : List ℕ) (i : ℕ) → Leads t s is u → Applies t u i → Leads t s (is ++ i ∷ []) (applied t u i)
leads-snoc t s u [] i e a = (rw e a, rw e refl)
leads-snoc t s u (j ∷ js) i (h) a = (h.0, leads-snoc t (applied t s j) u js i h.1 a)

pub cost-snoc : (row is : List ℕ) (i : ℕ) → Cost row (is ++ i ∷ []) ≡ Cost row is + get_or row i 0
cost-snoc row [] i = omega arith
cost-snoc row (j ∷ js) i = omega (arith, cost-snoc row js i)

pub leads-plan : (t : Model) (s u : List ℕ) (is : List ℕ) → Leads t s is u → IsGoal t u → Plan t s is
leads-plan t s u [] e g = rw e g
leads-plan t s u (j ∷ js) h g = (h.0, leads-plan t (applied t s j) u js h.1 g)

module _ (t : Model) (ns : List Node) (root : (node ns 0).state ≡ t.initial) (came : (k : ℕ) → k < length ns → k ≢ 0 → ComesFrom t ns k) where
  pub path-leads : (k : ℕ) (is : List ℕ) → PathTo ns k is → Leads t t.initial is (node ns k).state
  path-leads k is (home z e) = rw (z, e) (sym root)
  path-leads k is (step js nz l w e) =
      let c = came k l nz in
      rw e (subst (λ u. Leads t t.initial (js ++ (node ns k).operator ∷ []) u) c.leads
      (leads-snoc t t.initial (node ns (node ns k).parent).state js (node ns k).operator (path-leads (node ns k).parent js w) c.applies))

  pub path-costs : (k : ℕ) (is : List ℕ) → PathTo ns k is → Cost (prices t) is ≤ (node ns k).g
  path-costs k is (home z e) = rw e (omega arith)
  path-costs k is (step js nz l w e) =
      let c = came k l nz in
      rw e (omega (arith, c.costs, cost-snoc (prices t) js (node ns k).operator, path-costs (node ns k).parent js w))

-- where the parents and the operators are the same, so are the paths
pub path-same : (ns ms : List Node) → ((j : ℕ) → j < length ns → j < length ms) → ((j : ℕ) → (node ms j).parent ≡ (node ns j).parent) → ((j : ℕ) → (node ms j).operator ≡ (node ns j).operator) →
    (k : ℕ) (is : List ℕ) → PathTo ns k is → PathTo ms k is
path-same ns ms ml mp mb k is (home z e) = home z e
path-same ns ms ml mp mb k is (step js nz l w e) = step js nz (ml k l) (rw (mp k) (path-same ns ms ml mp mb (node ns k).parent js w)) (rw (mb k) e)

-- a node is placed at k: it has a new path, and a node that costs no more keeps its path
module _ (t : Model) (ns ms : List Node) (k : ℕ) (v : Node) (placed : Placed ns k v ms)
    (came : (j : ℕ) → j < length ns → j ≢ 0 → ComesFrom t ns j) (falls : k < length ns → v.g < (node ns k).g) where
  pub path-stays : (j : ℕ) (is : List ℕ) → PathTo ns j is → (node ns j).g ≤ v.g → PathTo ms j is
  path-stays j is (home z e) le = home z e
  path-stays j is (step js nz l w e) le =
      let c = came j l nz in
      let d : j ≢ k = λ q. let f : v.g < (node ns j).g = rw q (falls (rw q at l)) in omega arith in
      let o = placed.others j d in
      let w' = path-stays (node ns j).parent js w (omega (arith, c.costs)) in
      step js nz (placed.more j l) (rw o w') (rw o e)

  module _ (nz : k ≢ 0) (back : (is : List ℕ) × PathTo ns v.parent is) (less : (node ns v.parent).g ≤ v.g) where
    pub path-new : (is : List ℕ) × PathTo ms k is
    path-new =
        let w = path-stays v.parent back.0 back.1 less in
        let h = placed.here in
        (back.0 ++ v.operator ∷ [], step back.0 nz placed.inside (rw h w) (rw h refl))

    pub path-again : (j : ℕ) (is : List ℕ) → PathTo ns j is → (js : List ℕ) × PathTo ms j js
    path-again j is (home z e) = ([], home z refl)
    path-again j is (step js jz l w e) =
        let up = path-again (node ns j).parent js w in
        pick (same_or_not j k) up
      where
        pick : (j ≡ k) ⊎ (j ≢ k) → (js : List ℕ) × PathTo ms (node ns j).parent js → (js : List ℕ) × PathTo ms j js
        pick (inl q) up = rw q path-new
        pick (inr d) up =
            let o = placed.others j d in
            (up.0 ++ (node ms j).operator ∷ [], step up.0 jz (placed.more j l) (rw o up.1) refl)
