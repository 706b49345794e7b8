-- A queue of ranks beside a table of one entry a rank.
use Rattle.std.specs.Prelude.{◌≡◌, ℕ, ◌<◌, List, length, Some}
use Rattle.queue.specs.declared.Queue.{Queue}
use Rattle.queue.specs.declared.entries.RankEntry.{RankEntry}
use Rattle.queue.specs.Content.{content, Takes}
use Rattle.queue.specs.Entries.{rank_item}

-- the queue holds ranks of the table only, and takes each of these
pub record Open (table : List ℕ) (q : Queue RankEntry) : Type 0 where
  pub takes : (k : ℕ) → k < length table → Takes q k
  pub inside : (k : ℕ) (e : RankEntry) → content rank_item q k ≡ Some e → k < length table
