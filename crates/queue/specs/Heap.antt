-- The inside of a queue: a binary heap whose first `count` entries are in use, and a row that keeps the place of each item's entry.
use Rattle.std.specs.Prelude.{◌≡◌, ℕ, ◌-◌, ◌/◌, ◌^◌, ◌<◌, ◌≤◌, Bool, true, List, length, ◌≢◌, slice_index, slice_index_or}

-- An item number below the lengths of both rows.
pub record Room {X : Type 0} (entries : List X) (places : List ℕ) (item : ℕ) : Type 0 where
  pub in_entries : item < length entries
  pub in_places : item < length places

-- Each entry in use stands at the place of its item, so that no item has two. The place of any other item is free to be any number.
pub record Indexed {X : Type 0} (item_of : X → ℕ) (entries : List X) (places : List ℕ) (count : ℕ) : Type 0 where
  pub fits : count ≤ length entries
  pub small : count ≤ 2 ^ 32
  pub room : (i : ℕ) (d : X) → i < count → Room entries places (item_of (slice_index_or entries i d))
  pub number : (i : ℕ) (d : X) → i < count → item_of (slice_index_or entries i d) < 2 ^ 32
  pub place : (i : ℕ) (d : X) → i < count → slice_index places (item_of (slice_index_or entries i d)) ≡ i

abbrev pub parent : ℕ → ℕ
parent i = (i - 1) / 2

-- Every parent comes no later than its children.
abbrev pub HeapOrdered : {X : Type 0} → (X → X → Bool) → List X → ℕ → Type 0
HeapOrdered {X} no_later entries count =
    (j : ℕ) (d : X) → 0 < j → j < count → no_later (slice_index_or entries (parent j) d) (slice_index_or entries j d) ≡ true

-- The same, but the entry at i may come before its parent; its children stand in order with that parent.
pub record OrderedButAbove {X : Type 0} (no_later : X → X → Bool) (entries : List X) (count i : ℕ) : Type 0 where
  pub others : (j : ℕ) (d : X) → 0 < j → j < count → (j ≢ i) → no_later (slice_index_or entries (parent j) d) (slice_index_or entries j d) ≡ true
  pub across : (j : ℕ) (d : X) → 0 < j → j < count → parent j ≡ i → 0 < i → no_later (slice_index_or entries (parent i) d) (slice_index_or entries j d) ≡ true

-- The same, but the entry at i may come after its children; they stand in order with its parent.
pub record OrderedButBelow {X : Type 0} (no_later : X → X → Bool) (entries : List X) (count i : ℕ) : Type 0 where
  pub others : (j : ℕ) (d : X) → 0 < j → j < count → (parent j ≢ i) → no_later (slice_index_or entries (parent j) d) (slice_index_or entries j d) ≡ true
  pub across : (j : ℕ) (d : X) → 0 < j → j < count → parent j ≡ i → 0 < i → no_later (slice_index_or entries (parent i) d) (slice_index_or entries j d) ≡ true
