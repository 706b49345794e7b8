-- The plain list that a queue is held against: at each index the entry of that item, or none.
use Rattle.std.specs.Prelude.{◌≡◌, ℕ, cond, List, length, Some, None, is_some, count_by, fold, Option, slice_index_or}
use Rattle.queue.specs.declared.Queue.{Queue}
use Rattle.queue.specs.declared.entries.SearchEntry.{SearchEntry}
use Rattle.queue.specs.Content.{content}
use Rattle.queue.specs.Entries.{search_item, search_no_later}

-- The queue and the list hold the same entries, and have room for the same items.
pub record Agree (queue : Queue SearchEntry) (list : List (Option SearchEntry)) : Type 0 where
  pub same : (k : ℕ) → content search_item queue k ≡ slice_index_or list k None
  pub in_entries : length queue.entries.now ≡ length list
  pub in_places : length queue.places.now ≡ length list

abbrev pub earlier_of : Option SearchEntry → Option SearchEntry → Option SearchEntry
earlier_of None b = b
earlier_of (Some x) None = Some x
earlier_of (Some x) (Some y) = cond (search_no_later x y) (Some x) (Some y)

-- The least entry of a list, found by going through it.
abbrev pub least_of : List (Option SearchEntry) → Option SearchEntry
least_of = fold earlier_of None

-- How many slots hold an entry.
abbrev pub held_in : List (Option SearchEntry) → ℕ
held_in = count_by is_some
