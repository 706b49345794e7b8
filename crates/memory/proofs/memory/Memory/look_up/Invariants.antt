-- The words tried so far are in use, and none is of the state.
use Rattle.std.proofs.Common.{◌≡◌, ℕ, ◌-◌, ◌<◌, ◌≢◌, length}
use Rattle.memory.specs.Index.{word_at}
use Rattle.memory.specs.Rows.{state_at}
use Rattle.memory.proofs.Rounds.{Round}
use Rattle.memory.proofs.memory.Memory.look_up.Given as goal

abbrev pub invariant-loop-at : goal.invariant-loop-at
invariant-loop-at l =
    (goal.iterator-loop-at).can_next l.at-iterator × (goal.iterator-loop-at).is_finite l.at-iterator ×
    Round l.first l.slots (length l.yielded) l.at-iterator ×
    ((j : ℕ) → j < length l.yielded → (word_at l.self.index.now l.state j ≢ 0) × (state_at l.self (word_at l.self.index.now l.state j - 1) ≡ l.state → ⊥))
