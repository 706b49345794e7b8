-- That the way back from a node is its path, from the end.
use Rattle.std.proofs.Common.{◌≡◌, ℕ, zero, suc, ◌<◌, ◌≤◌, ◌≢◌, List, [], ◌∷◌, ◌++◌, length, Some, None, Option, reverse, slice_get, sym, refl, ap, ◌∙◌, arith, length-append}
use Rattle.std.proofs.lemmas.List.{reverse-append}
use Rattle.std.proofs.lemmas.Option.{slice_get-get_or}
use mathlib.Core.Logic.{∥∥₁_elim}
use Rattle.plain.specs.Plain.{node, PathTo, PathTo.home, PathTo.step}
use Rattle.memory.specs.declared.node.Node.{Node}
use Rattle.memory.specs.declared.memory.Memory.{Memory}
use Rattle.memory.specs.Rows.{nodes_of, record_at, zero_node, Consistent}
use Rattle.memory.specs.Trees.{ParentTree}
use Rattle.memory.specs.Ways.{further, way}
use Rattle.memory.proofs.Held.{count_of, node-is}
use Rattle.memory.proofs.Trees.{path-short}

further-short : (f : ℕ → List ℕ) (n : ℕ) → ((k : ℕ) → length (f k) ≤ n) → (o : Option Node) → length (further f o) ≤ suc n
further-short f n h None = omega arith
further-short f n h (Some r) = omega (arith, h r.parent)

pub way-short : (ns : List Node) (n k : ℕ) → length (way ns n k) ≤ n
way-short ns zero k = omega arith
way-short ns (suc n) zero = omega arith
way-short ns (suc n) (suc k) = further-short (way ns n) n (way-short ns n) (slice_get ns (suc k))

module _ (m : Memory) (consistent : Consistent m) (tree : ParentTree (nodes_of m)) where
  too-long : (k : ℕ) → suc k < m.held → ((is : List ℕ) → PathTo (nodes_of m) (suc k) is → length is ≤ 0) → ⊥
  too-long k l h = ∥∥₁_elim (tree.paths (suc k) (omega (arith, count_of m))) (λ x y. absurd x) (λ w. some w.0 w.1 (h w.0 w.1))
    where
      some : (is : List ℕ) → PathTo (nodes_of m) (suc k) is → length is ≤ 0 → ⊥
      some is (home z e) l = omega arith
      some is (step js nz lk w e) l = omega (arith, ap length e, length-append js ((node (nodes_of m) (suc k)).operator ∷ []))

  way-path : (n k : ℕ) → k < m.held → ((is : List ℕ) → PathTo (nodes_of m) k is → length is ≤ n) → (is : List ℕ) × PathTo (nodes_of m) k is × (way m.nodes.now n k ≡ reverse is)
  way-path zero zero l h = ([], home refl refl, refl)
  way-path zero (suc k) l h = absurd (too-long k l h)
  way-path (suc n) zero l h = ([], home refl refl, refl)
  way-path (suc n) (suc k) l h =
      let ns = nodes_of m in
      let i = (node ns (suc k)).operator in
      let lk : suc k < length ns = omega (arith, count_of m) in
      let nz : suc k ≢ 0 = λ z. omega arith in
      let p : (node ns (suc k)).parent ≡ (record_at m (suc k)).parent = ap (λ z. z.parent) (node-is m (suc k) l) in
      let o : i ≡ (record_at m (suc k)).operator = ap (λ z. z.operator) (node-is m (suc k) l) in
      let up = way-path n (node ns (suc k)).parent (omega (arith, count_of m, (tree.back (suc k) lk nz).0))
      (λ js w. omega (arith, h (js ++ i ∷ []) (step js nz lk w refl), length-append js (i ∷ []))) in
      let g : slice_get m.nodes.now (suc k) ≡ Some (record_at m (suc k)) = slice_get-get_or m.nodes.now (suc k) zero_node (omega (arith, consistent.within, consistent.lent.nodes)) in (
        up.0 ++ i ∷ [],
        step up.0 nz lk up.1 refl,
        ap (further (way m.nodes.now n)) g ∙ ap (λ z. z ∷ way m.nodes.now n (record_at m (suc k)).parent) (sym o) ∙ ap (λ z. i ∷ way m.nodes.now n z) (sym p) ∙ ap (λ z. i ∷ z) up.2 ∙ sym (reverse-append up.0 (i ∷ [])),
      )

  pub way-back : (k : ℕ) → k < m.held → (is : List ℕ) × PathTo (nodes_of m) k is × (way m.nodes.now m.held k ≡ reverse is)
  way-back k l = way-path m.held k l (λ is w. omega (arith, path-short (nodes_of m) tree.some k is w, count_of m))
