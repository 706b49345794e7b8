-- What the inner calls of a queue do: they look an item up, and sift an entry from a hole in the heap to where it belongs.
use Rattle.std.specs.Prelude.{◌≡◌, ℕ, ◌<◌, Bool, true, List, take, Some, None, Option, ◌≢◌, slice_index_or, slice_set}
use Rattle.queue.specs.declared.indexed.Heap.{Heap}
use Rattle.queue.specs.Heap.{parent, Indexed}
use Rattle.queue.specs.Content.{held, content, Sound, Rows}

-- None of the first `count` entries is for the item.
abbrev pub Missing : {X : Type 0} → (X → ℕ) → List X → ℕ → ℕ → Type 0
Missing {X} item_of entries count item = (i : ℕ) (d : X) → i < count → item_of (slice_index_or entries i d) ≢ item

-- The one at `place` is.
pub record At {X : Type 0} (item_of : X → ℕ) (entries : List X) (count item place : ℕ) : Type 0 where
  pub within : place < count
  pub is_for : (d : X) → item_of (slice_index_or entries place d) ≡ item

abbrev pub Located : {X : Type 0} → (X → ℕ) → List X → ℕ → ℕ → Option ℕ → Type 0
Located item_of entries count item None = Missing item_of entries count item
Located item_of entries count item (Some place) = At item_of entries count item place

-- c is the child of i that comes first.
pub record LeastChild {X : Type 0} (no_later : X → X → Bool) (entries : List X) (count i c : ℕ) : Type 0 where
  pub child : parent c ≡ i
  pub below : 0 < c
  pub within : c < count
  pub least : (j : ℕ) (d : X) → 0 < j → j < count → parent j ≡ i → no_later (slice_index_or entries c d) (slice_index_or entries j d) ≡ true

-- The places are right once x stands in the hole, which is for x to fill.
pub record Hole {X : Type 0} (item_of : X → ℕ) (q : Heap X) (hole : ℕ) (x : X) : Type 0 where
  pub within : hole < q.len
  pub indexed : Indexed item_of (slice_set q.entries.now hole x) (slice_set q.places.now (item_of x) hole) q.len

-- q holds what p does with x written into the hole.
pub record Filled {X : Type 0} (item_of : X → ℕ) (no_later : X → X → Bool) (p q : Heap X) (hole : ℕ) (x : X) : Type 0 where
  pub sound : Sound item_of no_later q
  pub rows : Rows p q
  pub len : q.len ≡ p.len
  pub holds : (k : ℕ) → content item_of q k ≡ held item_of (take p.len (slice_set p.entries.now hole x)) k
