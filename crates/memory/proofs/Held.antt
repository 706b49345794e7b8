-- The nodes of a memory by place.
use Rattle.std.proofs.Common.{◌≡◌, ℕ, ◌<◌, List, length, sym, ap, ◌∙◌, arith}
use Rattle.plain.specs.Plain as plain
use Rattle.memory.specs.declared.memory.Memory.{Memory}
use Rattle.memory.specs.Rows.{nodes_of, node_in, state_at, record_at, Consistent}
use Rattle.memory.proofs.Tables.{rows-length, rows_at, slice-width}

pub count_of : (m : Memory) → length (nodes_of m) ≡ m.held
count_of m = rows-length (node_in m) m.held

pub node-is : (m : Memory) (k : ℕ) → k < m.held → plain.node (nodes_of m) k ≡ node_in m k
node-is m k l = rows_at (node_in m) m.held k plain.no_node l

pub state-is : (m : Memory) (k : ℕ) → k < m.held → (plain.node (nodes_of m) k).state ≡ state_at m k
state-is m k l = ap (λ z. z.state) (node-is m k l)

pub g-is : (m : Memory) (k : ℕ) → k < m.held → (plain.node (nodes_of m) k).g ≡ (record_at m k).g
g-is m k l = ap (λ z. z.g) (node-is m k l)

pub not-held : (m : Memory) (s : List ℕ) → ((k : ℕ) → k < m.held → state_at m k ≡ s → ⊥) → plain.NotHeld (nodes_of m) s
not-held m s h k l e = let n : k < m.held = omega (arith, count_of m) in h k n (sym (state-is m k n) ∙ e)

pub held_at : (m : Memory) (s : List ℕ) (k : ℕ) → k < m.held → state_at m k ≡ s → plain.Held (nodes_of m) s k
held_at m s k l e = (omega (arith, count_of m), state-is m k l ∙ e)

-- the state of a held node has one byte a variable
pub state-long : (m : Memory) → Consistent m → (k : ℕ) → k < m.held → length (state_at m k) ≡ m.variables
state-long m consistent k l = slice-width m.variables k m.capacity m.states.now (omega (arith, consistent.within)) consistent.lent.states
