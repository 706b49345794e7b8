-- The paths back to node 0, whatever the estimator answers.
use Rattle.std.proofs.Common.{◌≡◌, ℕ, zero, suc, ◌+◌, ◌<◌, ◌≤◌, ◌≢◌, ◌⊎◌, List, [], ◌∷◌, ◌++◌, length, get_or, set, Option, sym, refl, ap, ◌∙◌, subst, inl, inr, arith, length-append, length-set}
use mathlib.Core.Logic.{∥∥₁_elim, ∥∥₁_map, ∥∥₁_prop}
use Rattle.task.specs.Model.{Model, prices, applied}
use Rattle.plain.specs.Plain as plain
use Rattle.plain.specs.Plain.{Node, node, PathTo, PathTo.home, PathTo.step, Generates, Generates.inapplicable, Generates.not_better, Generates.reopens, Generates.adds, GeneratesAll}
use Rattle.plain.proofs.Placed.{Placed, set-placed, add-placed}
use Rattle.plain.proofs.Splits.{same_or_not}
use Rattle.plain.proofs.Whole.{path-one}
use Rattle.plain.proofs.Paths.{path-same}
use Rattle.queue.proofs.Pigeon.{pigeon}
use Rattle.memory.specs.Trees.{ParentTree}

-- a node is placed at k: new, or at a lesser cost
module _ (ns ms : List Node) (k : ℕ) (v : Node) (tree : ParentTree ns) (placed : Placed ns k v ms) (falls : k < length ns → v.g < (node ns k).g) (nz : k ≢ 0) (from : v.parent < length ns) (apart : v.parent ≢ k)
    (less : (node ns v.parent).g ≤ v.g) where
  path-stays : (j : ℕ) (is : List ℕ) → PathTo ns j is → (node ns j).g ≤ v.g → PathTo ms j is
  path-stays j is (home z e) le = home z e
  path-stays j is (step js jz l w e) le =
      let d : j ≢ k = λ q. let f : v.g < (node ns j).g = rw q (falls (rw q at l)) in omega arith in
      let o = placed.others j d in
      let w' = path-stays (node ns j).parent js w (omega (arith, (tree.back j l jz).1)) in
      step js jz (placed.more j l) (rw o w') (rw o e)

  path-new : (is : List ℕ) → PathTo ns v.parent is → (js : List ℕ) × PathTo ms k js
  path-new is w =
      let w' = path-stays v.parent is w less in
      let h = placed.here in
      (is ++ v.operator ∷ [], step is nz placed.inside (rw h w') (rw h refl))

  path-again : (is : List ℕ) → PathTo ns v.parent is → (j : ℕ) (js : List ℕ) → PathTo ns j js → (hs : List ℕ) × PathTo ms j hs
  path-again is w j js (home z e) = ([], home z refl)
  path-again is w j js (step hs jz l u e) = pick (same_or_not j k) (path-again is w (node ns j).parent hs u)
    where
      pick : (j ≡ k) ⊎ (j ≢ k) → (hs : List ℕ) × PathTo ms (node ns j).parent hs → (hs : List ℕ) × PathTo ms j hs
      pick (inl q) up = rw q (path-new is w)
      pick (inr d) up =
          let o = placed.others j d in
          (up.0 ++ (node ms j).operator ∷ [], step up.0 jz (placed.more j l) (rw o up.1) refl)

  g-falls : (j : ℕ) → j < length ns → (node ms j).g ≤ (node ns j).g
  g-falls j l = side (same_or_not j k)
    where
      side : (j ≡ k) ⊎ (j ≢ k) → (node ms j).g ≤ (node ns j).g
      side (inl q) = rw q (omega (arith, ap (λ n. n.g) placed.here, falls (rw q at l)))
      side (inr d) = omega (arith, ap (λ n. n.g) (placed.others j d))

  back_by : (j p : ℕ) → (node ms j).parent ≡ p → p < length ms → (node ms p).g ≤ (node ms j).g → ((node ms j).parent < length ms) × ((node ms (node ms j).parent).g ≤ (node ms j).g)
  back_by j p e l h = (rw e l, rw e h)

  pub placed-tree : ParentTree ms
  placed-tree = record {
    some = placed.more 0 tree.some;
    free = omega (arith, g-falls 0 tree.some, tree.free);
    back = λ j l jz. side j l jz (same_or_not j k);
    paths = λ j l. ways' j l (same_or_not j k);
  }
    where
      side : (j : ℕ) → j < length ms → j ≢ 0 → (j ≡ k) ⊎ (j ≢ k) → ((node ms j).parent < length ms) × ((node ms (node ms j).parent).g ≤ (node ms j).g)
      side j l jz (inl q) = back_by j v.parent (rw q (ap (λ n. n.parent) placed.here)) (placed.more v.parent from)
          (let a = ap (λ n. n.g) (placed.others v.parent apart) in let b : (node ms j).g ≡ v.g = rw q (ap (λ n. n.g) placed.here) in omega arith)
      side j l jz (inr d) =
          let o = placed.others j d in
          let b = tree.back j (placed.only j l d) jz in
          back_by j (node ns j).parent (ap (λ n. n.parent) o) (placed.more (node ns j).parent b.0) (let a = g-falls (node ns j).parent b.0 in let c = ap (λ n. n.g) o in omega arith)

      ways' : (j : ℕ) → j < length ms → (j ≡ k) ⊎ (j ≢ k) → ∥ ((is : List ℕ) × PathTo ms j is) ∥₁
      ways' j l (inl q) = rw q (∥∥₁_map (tree.paths v.parent from) (λ w. path-new w.0 w.1))
      ways' j l (inr d) = ∥∥₁_elim (tree.paths v.parent from) ∥∥₁_prop (λ w. ∥∥₁_map (tree.paths j (placed.only j l d)) (λ u. path-again w.0 w.1 j u.0 u.1))

module _ {E : Type 0} (est : plain.Kind E) (t : Model) (N : ℕ) where
  pub tree-generate : (x i : ℕ) (ns ms : List Node) (e d : E) → x < length ns → ParentTree ns → Generates est t N x i ns e ms d → ParentTree ms × (length ns ≤ length ms)
  tree-generate x i ns ms e d l h (inapplicable na en ed) = rw en (h, omega arith)
  tree-generate x i ns ms e d l h (not_better k a hk le en ed) = rw en (h, omega arith)
  tree-generate x i ns ms e d l h (reopens k o a hk lt q en) =
      let v = plain.new_node (applied t (node ns x).state i) ((node ns x).g + get_or (prices t) i 0) x i o in
      let P = set-placed ns k v hk.0 in
      rw en (
        placed-tree ns (set ns k v) k v h P (λ _. lt) (λ z. omega (arith, rw z at lt, h.free)) l (λ z. let f : (node ns x).g + get_or (prices t) i 0 < (node ns x).g = subst (λ j. (node ns x).g + get_or (prices t) i 0 < (node ns j).g) (sym z) lt in omega arith) (omega arith),
        longer ns (set ns k v) P.more,
      )
    where
      longer : (xs ys : List Node) → ((j : ℕ) → j < length xs → j < length ys) → length xs ≤ length ys
      longer [] ys f = omega arith
      longer (y ∷ xs) ys f = f (length xs) (omega arith)
  tree-generate x i ns ms e d l h (adds o a nh lt q en) =
      let v = plain.new_node (applied t (node ns x).state i) ((node ns x).g + get_or (prices t) i 0) x i o in
      rw en (placed-tree ns (ns ++ v ∷ []) (length ns) v h (add-placed ns v) (λ f. absurd (omega arith)) (λ z. omega (arith, h.some)) l (λ z. omega arith) (omega arith), omega (arith, length-append ns (v ∷ [])))

  pub tree-generates : (n x i : ℕ) (ns ms : List Node) (e d : E) → x < length ns → ParentTree ns → GeneratesAll est t N x i n ns e ms d → ParentTree ms
  tree-generates zero x i ns ms e d l h r = rw r.0 h
  tree-generates (suc n) x i ns ms e d l h r =
      let a = tree-generate x i ns r.0 e r.1 l h r.2 in
      tree-generates n x (suc i) r.0 ms r.1 d (omega (arith, a.1)) a.0 r.3

-- a path is shorter than the number of nodes: no node comes twice on it
module _ (ns : List Node) (some : 0 < length ns) where
  up : ℕ → ℕ → ℕ
  up k zero = k
  up k (suc i) = up (node ns k).parent i

  rest-path : (k : ℕ) (is : List ℕ) → PathTo ns k is → (i : ℕ) → i ≤ length is → (js : List ℕ) × PathTo ns (up k i) js × (length js + i ≡ length is) × (up k i < length ns)
  unfolding up
  rest-path k is (home z e) zero l = (is, home z e, omega arith, rw z some)
  rest-path k is (home z e) (suc i) l = absurd (let q : length is ≡ 0 = ap length e in omega arith)
  rest-path k is (step js nz m w e) zero l = (is, step js nz m w e, omega arith, m)
  rest-path k is (step js nz m w e) (suc i) l =
      let q : length is ≡ length js + 1 = ap length e ∙ length-append js ((node ns k).operator ∷ []) in
      let r = rest-path (node ns k).parent js w i (omega arith) in
      (r.0, r.1, omega (arith, r.2), r.3)

  pub path-short : (k : ℕ) (is : List ℕ) → PathTo ns k is → length is < length ns
  path-short k is w =
      let h : length is + 1 ≤ length ns = pigeon (length ns) (length is + 1) (up k)
      (λ i l. (rest-path k is w i (omega arith)).3)
      (λ i j li lj e.
      let a = rest-path k is w i (omega arith) in
      let b = rest-path k is w j (omega arith) in
      let c : a.0 ≡ b.0 = path-one ns (up k j) a.0 b.0 (subst (λ z. PathTo ns z a.0) e a.1) b.1 in
      let d = ap length c in
      omega (arith, a.2, b.2)) in
      omega arith

-- a node that is taken from the open list keeps its path
pub tree-take : (ns : List Node) (x : ℕ) → x < length ns → ParentTree ns → ParentTree (set ns x (plain.dequeued (node ns x)))
tree-take ns x l h = record {
  some = P.more 0 h.some;
  free = gs 0 ∙ h.free;
  back = λ k m nz. let b = h.back k (down k m) nz in (rw (pa k) (P.more (node ns k).parent b.0), rw (pa k) (let a = gs (node ns k).parent in let c = gs k in let d = b.1 in omega arith));
  paths = λ k m. ∥∥₁_map (h.paths k (down k m)) (λ w. (w.0, path-same ns ms P.more pa op k w.0 w.1));
}
  where
    ms : List Node
    ms = set ns x (plain.dequeued (node ns x))

    P : Placed ns x (plain.dequeued (node ns x)) ms
    P = set-placed ns x (plain.dequeued (node ns x)) l

    kept : (f : Node → ℕ) → f (plain.dequeued (node ns x)) ≡ f (node ns x) → (j : ℕ) → f (node ms j) ≡ f (node ns j)
    kept f e j = go (same_or_not j x)
      where
        go : (j ≡ x) ⊎ (j ≢ x) → f (node ms j) ≡ f (node ns j)
        go (inl q) = rw q (ap f P.here ∙ e)
        go (inr d) = ap f (P.others j d)

    gs : (j : ℕ) → (node ms j).g ≡ (node ns j).g
    gs = kept (λ n. n.g) refl

    pa : (j : ℕ) → (node ms j).parent ≡ (node ns j).parent
    pa = kept (λ n. n.parent) refl

    op : (j : ℕ) → (node ms j).operator ≡ (node ns j).operator
    op = kept (λ n. n.operator) refl

    down : (k : ℕ) → k < length ms → k < length ns
    down k m = simp length-set at m

zero_of : (k : ℕ) → k < 1 → k ≡ 0
zero_of k l = omega arith

pub root-tree : (ns : List Node) (s : List ℕ) (w : Option ℕ) → ns ≡ plain.new_node s 0 0 0 w ∷ [] → ParentTree ns
root-tree ns s w e = subst (λ z. ParentTree z) (sym e) (record {
  some = omega arith;
  free = refl;
  back = λ k l nz. absurd (nz (zero_of k l));
  paths = λ k l. ∣ ([], home (zero_of k l) refl) ∣₁;
})
