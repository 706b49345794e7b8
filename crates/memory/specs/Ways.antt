-- The way back from a node to node 0, by the parents.
use Rattle.std.specs.Prelude.{ℕ, zero, suc, List, [], ◌∷◌, Some, None, Option, slice_get}
use Rattle.memory.specs.declared.node.Node.{Node}
use Rattle.memory.specs.declared.way.Way.{Way}

-- a record's operator, and then the way from its parent on
abbrev pub further : (ℕ → List ℕ) → Option Node → List ℕ
further rest None = []
further rest (Some n) = n.operator ∷ rest n.parent

-- the operators from node k back to node 0, the last one first; at most so many
abbrev pub way : List Node → ℕ → ℕ → List ℕ
way ns zero k = []
way ns (suc left) zero = []
way ns (suc left) (suc k) = further (way ns left) (slice_get ns (suc k))

abbrev pub way_of : Way → List ℕ
way_of w = way w.nodes.now w.left w.node
