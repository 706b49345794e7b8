-- What holds of the table and the queue while the distances are computed, backwards from the goal states.
use Rattle.std.specs.Prelude.{◌≡◌, ℕ, suc, ◌+◌, ◌<◌, ◌≤◌, ◌⊎◌, List, [], ◌∷◌, length, drop, None, sum, ◌≢◌, slice_index}
use Rattle.task.specs.Model.{Model, IsState, IsGoal, Admits, Applies, applied, Plan, Cost}
use Rattle.queue.specs.Content.{content}
use Rattle.queue.specs.Entries.{rank_item}
use Rattle.projection.specs.declared.distances.Distances.{Distances}
use Rattle.abstraction.specs.declared.abstract_task.AbstractTask.{AbstractTask}
use Rattle.abstraction.specs.Ranks.{product, rank}
use Rattle.abstraction.specs.Parts.{or_else}
use Rattle.abstraction.specs.Standing.{part_at}
use Rattle.abstraction.specs.AbstractTasks.{abstract_of}

-- what bounds the work that is left: no lowering raises it, and each entry that is taken makes it less
abbrev pub work : Distances → ℕ
work D = sum D.table.now + D.queue.len

-- D' is what D became: it is over the same memory, and no more work is left
pub record Later (D D' : Distances) : Type 0 where
  pub same : D'.table.ghost_name ≡ D.table.ghost_name
  pub falls : work D' ≤ work D

-- entries of ranks in C were lowered to d, and all that were lowered are queued
pub record Relaxed (C : ℕ → Type 0) (d : ℕ) (D D' : Distances) : Type 0 where
  pub long : length D'.table.now ≡ length D.table.now
  pub less : (k : ℕ) → slice_index D'.table.now k ≤ slice_index D.table.now k
  pub quiet : (k : ℕ) → content rank_item D'.queue k ≡ None → (content rank_item D.queue k ≡ None) × (slice_index D'.table.now k ≡ slice_index D.table.now k)
  pub cause : (k : ℕ) → (slice_index D'.table.now k ≡ slice_index D.table.now k) ⊎ (C k × (slice_index D'.table.now k ≡ d))
  pub later : Later D D'

-- by operator o the place i, which has d values, goes from x to y
pub record StepAt (A : AbstractTask) (o i d x y : ℕ) : Type 0 where
  pub within : x < d
  pub admits : Admits x (part_at A.operators o i).required
  pub leads : or_else (part_at A.operators o i).value x ≡ y

-- the same for each place from i on, which have ds values
abbrev pub StepsFrom : AbstractTask → ℕ → ℕ → List ℕ → List ℕ → List ℕ → Type 0
StepsFrom A o i [] [] [] = Unit {0}
StepsFrom A o i [] [] (y ∷ ys) = ⊥
StepsFrom A o i [] (x ∷ xs) ys = ⊥
StepsFrom A o i (d ∷ ds) [] ys = ⊥
StepsFrom A o i (d ∷ ds) (x ∷ xs) [] = ⊥
StepsFrom A o i (d ∷ ds) (x ∷ xs) (y ∷ ys) = StepAt A o i d x y × StepsFrom A o (suc i) ds xs ys

-- k is a rank, counted from f, of values from place i on from which operator o leads to those of the state b
pub record Preceding (A : AbstractTask) (o : ℕ) (b : List ℕ) (i f k : ℕ) : Type 0 where
  pub values : List ℕ
  pub steps : StepsFrom A o i (drop i (abstract_of A).domains) values (drop i b)
  pub here : k ≡ f + rank (drop i (abstract_of A).domains) values

-- the entry of a state
abbrev pub entry : Model → List ℕ → List ℕ → ℕ
entry P table s = slice_index table (rank P.domains s)

-- the entry d of the rank k is the cost of a plan from its state
pub record Witness (P : Model) (row : List ℕ) (k d : ℕ) : Type 0 where
  pub from : List ℕ
  pub plan : List ℕ
  pub state : IsState P from
  pub ranked : rank P.domains from ≡ k
  pub plans : Plan P from plan
  pub costs : Cost row plan ≡ d

-- each entry is the cost of a plan, a goal state's is 0, and no step to a rank that is not queued can lower an entry, but for
-- the steps of operator o to the rank k where Left o k
pub record Running (P : Model) (row : List ℕ) (Left : ℕ → ℕ → Type 0) (D : Distances) : Type 0 where
  pub long : length D.table.now ≡ product P.domains
  pub small : (k : ℕ) → slice_index D.table.now k ≤ 4294967295
  pub goal : (s : List ℕ) → IsState P s → IsGoal P s → entry P D.table.now s ≡ 0
  pub sound : (k : ℕ) → k < length D.table.now → (slice_index D.table.now k ≢ 4294967295) → Witness P row k (slice_index D.table.now k)
  pub steps : (s : List ℕ) (o : ℕ) → IsState P s → Applies P s o → content rank_item D.queue (rank P.domains (applied P s o)) ≡ None
      → Left o (rank P.domains (applied P s o)) ⊎ (entry P D.table.now s ≤ entry P D.table.now (applied P s o) + slice_index row o)

-- no step is left out
abbrev pub NoneLeft : ℕ → ℕ → Type 0
NoneLeft o k = ⊥

-- the steps to the rank r by the operators from i on
abbrev pub LeftFrom : ℕ → ℕ → ℕ → ℕ → Type 0
LeftFrom r i o k = (k ≡ r) × (i ≤ o)

-- no entry can be lowered any more
pub record Settled (P : Model) (row table : List ℕ) : Type 0 where
  pub long : length table ≡ product P.domains
  pub few : length table ≤ 65536
  pub small : (k : ℕ) → slice_index table k ≤ 4294967295
  pub goal : (s : List ℕ) → IsState P s → IsGoal P s → entry P table s ≡ 0
  pub step : (s : List ℕ) (o : ℕ) → IsState P s → Applies P s o → entry P table s ≤ entry P table (applied P s o) + slice_index row o
  pub sound : (k : ℕ) → k < length table → (slice_index table k ≢ 4294967295) → Witness P row k (slice_index table k)
