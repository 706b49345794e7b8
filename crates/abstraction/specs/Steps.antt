-- What abstract states, steps and goal states are by rank and by place.
use Rattle.std.specs.Prelude.{◌≡◌, ℕ, ◌<◌, ◌≤◌, List, Some, None, Option}
use Rattle.task.specs.Model.{Model, IsState, Applies, applied}
use Rattle.abstraction.specs.Ranks.{rank}

-- the values from low up to high are those for which Q holds
pub record Span (low high : ℕ) (Q : ℕ → Type 0) : Type 0 where
  pub each : (x : ℕ) → low ≤ x → x < high → Q x
  pub all : (x : ℕ) → Q x → (low ≤ x) × (x < high)

-- s is the state of the task P with that rank
pub record StateOf (P : Model) (r : ℕ) (s : List ℕ) : Type 0 where
  pub state : IsState P s
  pub ranked : rank P.domains s ≡ r

-- the rank of the state that operator o leads to from s; None: it does not apply
abbrev pub SuccessorOf : Model → List ℕ → ℕ → Option ℕ → Type 0
SuccessorOf P s o (Some r) = Applies P s o × (r ≡ rank P.domains (applied P s o))
SuccessorOf P s o None = Applies P s o → ⊥
