-- The nodes of the plain search that the lent memory stands for, and what every call on the memory asks and keeps.
use Rattle.std.specs.Prelude.{◌≡◌, ℕ, zero, suc, ◌+◌, ◌*◌, ◌<◌, ◌≤◌, List, [], ◌∷◌, ◌++◌, length, take, drop, Some, None, Option, slice_index, slice_index_or, slice_set}
use Rattle.plain.specs.Plain as plain
use Rattle.queue.specs.Content.{content}
use Rattle.queue.specs.Entries.{search_item}
use Rattle.memory.specs.Index.{Indexed, Vacant}
use Rattle.memory.specs.declared.node.Node.{Node}
use Rattle.queue.specs.declared.entries.SearchEntry.{SearchEntry}
use Rattle.memory.specs.declared.memory.Memory.{Memory}
use Rattle.memory.specs.declared.index.Lookup.{Lookup}
use Rattle.memory.specs.declared.index.Lookup.TheVariants.{Held, Free, Crowded}

-- what stands past the last node record
abbrev pub zero_node : Node
zero_node = record { g = 0; parent = 0; operator = 0 }

-- the estimate of an entry of the open list
abbrev pub queued_of : Option SearchEntry → Option ℕ
queued_of None = None
queued_of (Some e) = Some e.estimate

-- the state of node k: its bytes, one a variable, stand from place k × variables on
abbrev pub state_at : Memory → ℕ → List ℕ
state_at m k = take m.variables (drop (k * m.variables) m.states.now)

abbrev pub record_at : Memory → ℕ → Node
record_at m k = slice_index_or m.nodes.now k zero_node

-- node k, from its record, its bytes and its entry in the open list
abbrev pub node_in : Memory → ℕ → plain.Node
node_in m k = plain.new_node (state_at m k) (record_at m k).g (record_at m k).parent (record_at m k).operator (queued_of (content search_item m.queue k))

-- the first n values of a function, in a row
abbrev pub rows : {X : Type 0} → (ℕ → X) → ℕ → List X
rows f zero = []
rows f (suc n) = rows f n ++ f n ∷ []

abbrev pub nodes_of : Memory → List plain.Node
nodes_of m = rows (node_in m) m.held

-- e is the entry of the held node k, and its f is path cost plus estimate
pub record EntryFor (m : Memory) (k : ℕ) (e : SearchEntry) : Type 0 where
  pub inside : k < m.held
  pub sum : e.f ≡ (record_at m k).g + e.estimate
  pub node : e.node ≡ k

-- the open list holds nothing but such entries
abbrev pub QueueAgrees : Memory → Type 0
QueueAgrees m = (k : ℕ) (e : SearchEntry) → content search_item m.queue k ≡ Some e → EntryFor m k e

-- the lent slices have room for as many nodes as the capacity
pub record RoomFor (m : Memory) : Type 0 where
  pub small : m.capacity ≤ 65535
  pub nodes : m.capacity ≤ length m.nodes.now
  pub states : m.capacity * m.variables ≤ length m.states.now
  pub index : length m.index.now ≡ 2 * m.capacity
  pub entries : m.capacity ≤ length m.queue.entries.now
  pub places : m.capacity ≤ length m.queue.places.now

-- what every call on the memory asks and keeps
pub record Consistent (m : Memory) : Type 0 where
  pub lent : RoomFor m
  pub within : m.held ≤ m.capacity
  pub indexed : Indexed m.index.now (state_at m) m.held
  pub agrees : QueueAgrees m

-- what no change of the memory touches: its sizes, and the node records and state bytes beyond those of the held nodes
pub record Untouched (m m' : Memory) : Type 0 where
  pub variables : m'.variables ≡ m.variables
  pub capacity : m'.capacity ≡ m.capacity
  pub grows : m.held ≤ m'.held
  pub record_count : length m'.nodes.now ≡ length m.nodes.now
  pub byte_count : length m'.states.now ≡ length m.states.now
  pub records : (k : ℕ) → m'.held ≤ k → record_at m' k ≡ record_at m k
  pub bytes : (j : ℕ) → m'.held * m.variables ≤ j → slice_index m'.states.now j ≡ slice_index m.states.now j

-- what looking up a state answers: its node, or the free word of the index for it; no word is free only where no node is
abbrev pub LookedUp : Memory → List ℕ → Lookup → Type 0
LookedUp m s (Held k) = plain.Held (nodes_of m) s k
LookedUp m s (Free at) = plain.NotHeld (nodes_of m) s × Vacant m.index.now s at
LookedUp m s Crowded = plain.NotHeld (nodes_of m) s × (m.capacity ≤ m.held)

-- e is the least entry of the open list, and is gone
pub record TakenFirst (ns : List plain.Node) (e : SearchEntry) (ns' : List plain.Node) : Type 0 where
  pub inside : e.node < length ns
  pub least : plain.Least ns e.node e.estimate
  pub sum : e.f ≡ (plain.node ns e.node).g + e.estimate
  pub after : ns' ≡ slice_set ns e.node (plain.dequeued (plain.node ns e.node))
