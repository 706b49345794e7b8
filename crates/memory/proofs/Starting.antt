-- The nodes of a memory that holds none, and the limits of a single node.
use Rattle.std.proofs.Common.{◌≡◌, ℕ, ◌*◌, ◌<◌, ◌≤◌, List, [], ◌∷◌, Option, sym, ap, subst, arith}
use Rattle.task.specs.Model.{Model, prices, dearest}
use Rattle.plain.specs.Plain as plain
use Rattle.plain.proofs.Budget.{queue-le}
use Rattle.memory.specs.declared.memory.Memory.{Memory}
use Rattle.memory.specs.Rows.{rows, node_in, nodes_of}
use Rattle.memory.specs.Steps.{WithinLimits}

pub empty-nodes : (m : Memory) → m.held ≡ 0 → nodes_of m ≡ []
empty-nodes m e = ap (λ n. rows (node_in m) n) e

zero_of : (k : ℕ) → k < 1 → k ≡ 0
zero_of k l = omega arith

pub root-limits : (t : Model) (N : ℕ) (ns : List plain.Node) (s : List ℕ) (w : Option ℕ) → 0 < N → ns ≡ plain.new_node s 0 0 0 w ∷ [] → WithinLimits t N 0 ns
root-limits t N ns s w l e = subst (λ z. WithinLimits t N 0 z) (sym e) (record {
  low = λ k m. subst (λ j. (plain.node (plain.new_node s 0 0 0 w ∷ []) j).g ≤ j * dearest (prices t)) (sym (zero_of k m)) (omega arith);
  budget = record { within = omega arith; paid = omega (arith, queue-le w) };
})
