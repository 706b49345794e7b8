-- A pattern: at most 8 rising variables of a task.
use Rattle.std.specs.Prelude.{ℕ, ◌-◌, ◌<◌, ◌≤◌, List, map, length, slice_index}
use Rattle.task.specs.Model.{Model}

-- the variable at a place is above the one before it, if there is one
abbrev pub Rises : List ℕ → ℕ → Type 0
Rises pattern i = 0 < i → slice_index pattern (i - 1) < slice_index pattern i

-- each is a variable of the task
abbrev pub Listed : Model → List ℕ → Type 0
Listed T pattern = (i : ℕ) → i < length pattern → slice_index pattern i < length T.domains

-- each is above the one before it
abbrev pub Rising : List ℕ → Type 0
Rising pattern = (i : ℕ) → i < length pattern → Rises pattern i

pub record IsPattern (T : Model) (pattern : List ℕ) : Type 0 where
  pub few : length pattern ≤ 8
  pub within : Listed T pattern
  pub rising : Rising pattern

-- the abstract state of a state: the values of the pattern's variables
abbrev pub abstraction : List ℕ → List ℕ → List ℕ
abstraction pattern s = map (λ v. slice_index s v) pattern
