-- Held prices while they are computed, rank by rank.
use Rattle.std.specs.Prelude.{◌≡◌, ℕ, ◌+◌, ◌-◌, ◌<◌, ◌≤◌, max, cond, ◌⊎◌, List, length, ◌==◌, ◌≢◌, slice_index}
use Rattle.task.specs.Model.{Model, IsState, Applies, applied}
use Rattle.abstraction.specs.Ranks.{rank}
use Rattle.projection.specs.Distances.{StepBetween, IsHeld}
use Rattle.projection.specs.Dijkstra.{entry}

-- the larger of h and the difference of two entries, if both are distances
abbrev pub raised : ℕ → ℕ → ℕ → ℕ
raised h m n = cond (m == 4294967295) h (cond (n == 4294967295) h (max h (m - n)))

-- h is the held price as far as steps from the ranks below i show
pub record HeldBelow (P : Model) (table : List ℕ) (o i h : ℕ) : Type 0 where
  pub largest : (s : List ℕ) → IsState P s → Applies P s o → rank P.domains s < i
      → (entry P table s ≢ 4294967295) → (entry P table (applied P s o) ≢ 4294967295) → entry P table s ≤ entry P table (applied P s o) + h
  pub reached : (h ≡ 0) ⊎ ((m : ℕ) × (n : ℕ) × StepBetween P table o m n × (m ≡ n + h))

-- the row that is left has each operator's price less its held price
abbrev pub LeavesHeld : Model → List ℕ → List ℕ → List ℕ → Type 0
LeavesHeld P table row left = (o : ℕ) → o < length row → (slice_index left o ≤ slice_index row o) × IsHeld P table o (slice_index row o - slice_index left o)
