-- The projection, kind 2: what its calls do.
use Rattle.std.specs.Prelude.{◌≡◌, ℕ, zero, suc, ◌+◌, ◌*◌, ◌<◌, ◌≤◌, List, length, take, drop, Some, None, Ok, Err, Option, Result, slice_index}
use Rattle.tables.specs.declared.cause.Cause.{Cause}
use Rattle.tables.specs.declared.cause.Cause.TheVariants.{Row, Pattern, Table}
use Rattle.task.specs.Model.{Model, IsState, WellFormed}
use Rattle.estimator.specs.Price.{Offer}
use Rattle.estimator.specs.Laws.{Meaning}
use Rattle.estimator.specs.declared.fault.SetFault.{SetFault}
use Rattle.abstraction.specs.Patterns.{IsPattern, abstraction}
use Rattle.abstraction.specs.Projected.{sizes, projected}
use Rattle.abstraction.specs.Ranks.{product}
use Rattle.projection.specs.Distances.{distance, at, IsTable, HeldRow}
use Rattle.projection.specs.Saturating.{LeavesHeld}
use Rattle.projection.specs.declared.projection.Projection.{Projection}

-- how many ranks the pattern has
abbrev pub ranks : Projection → Model → ℕ
ranks s T = product (sizes T s.pattern.now)

-- the entries of the pattern's ranks
abbrev pub distances : Projection → Model → List ℕ
distances s T = take (ranks s T) s.table.now

-- at most 65,536 ranks, and a table, queue entries and queue places for each
pub record HasRoom (s : Projection) (T : Model) : Type 0 where
  pub few : ranks s T ≤ 65536
  pub table : ranks s T ≤ length s.table.now
  pub entries : ranks s T ≤ length s.entries.now
  pub places : ranks s T ≤ length s.places.now

-- the table has room for the pattern's ranks, and the weights are the products of the numbers of values of the later variables
pub record Serves (s : Projection) (T : Model) (weights : List ℕ) : Type 0 where
  pub pattern : IsPattern T s.pattern.now
  pub table : ranks s T ≤ length s.table.now
  pub weigh : (i : ℕ) → i < length s.pattern.now → slice_index weights i ≡ product (drop (i + 1) (sizes T s.pattern.now))

abbrev pub Unset : Projection → Type 0
Unset s = s.weights ≡ None

-- set on the task: the table has the distances at some prices, and the held prices are the largest differences of these
pub record Holds (s : Projection) (T : Model) (held : List ℕ) : Type 0 where
  pub weights : List ℕ
  pub ready : s.weights ≡ Some weights
  pub formed : WellFormed T
  pub serves : Serves s T weights
  pub offer : Offer T held
  pub row : List ℕ
  pub table : IsTable (projected T s.pattern.now) row (distances s T)
  pub prices : HeldRow (projected T s.pattern.now) (distances s T) held

-- the pattern, the table beyond its ranks and the lengths of the memory stay
pub record Kept (s s' : Projection) (T : Model) : Type 0 where
  pub pattern : s'.pattern.now ≡ s.pattern.now
  pub rest : drop (ranks s T) s'.table.now ≡ drop (ranks s T) s.table.now
  pub table : length s'.table.now ≡ length s.table.now
  pub entries : length s'.entries.now ≡ length s.entries.now
  pub places : length s'.places.now ≡ length s.places.now

-- refused: it is unset, and the row, the pattern and all of the memory stay
pub record Refused (s : Projection) (row left : List ℕ) (s' : Projection) : Type 0 where
  pub unset : Unset s'
  pub stays : left ≡ row
  pub pattern : s'.pattern.now ≡ s.pattern.now
  pub table : s'.table.now ≡ s.table.now
  pub entries : s'.entries.now ≡ s.entries.now
  pub places : s'.places.now ≡ s.places.now

-- accepted: the table has the distances at the prices offered, and what is left is what was offered less the held prices
pub record Accepted (s : Projection) (T : Model) (row left : List ℕ) (s' : Projection) : Type 0 where
  pub weights : List ℕ
  pub ready : s'.weights ≡ Some weights
  pub formed : WellFormed T
  pub kept : Kept s s' T
  pub serves : Serves s' T weights
  pub table : IsTable (projected T s'.pattern.now) row (distances s' T)
  pub long : length left ≡ length row
  pub leaves : LeavesHeld (projected T s'.pattern.now) (distances s' T) row left

-- what its test finds: it can be set on T with the row, or the first of the row, the pattern and the memory that forbids it
abbrev pub Tests : Projection → Model → List ℕ → Result (Unit {0}) Cause → Type 0
Tests s T row (Ok _) = Offer T row × IsPattern T s.pattern.now × HasRoom s T
Tests s T row (Err Row) = Offer T row → ⊥
Tests s T row (Err Pattern) = Offer T row × (IsPattern T s.pattern.now → ⊥)
Tests s T row (Err Table) = Offer T row × IsPattern T s.pattern.now × (HasRoom s T → ⊥)
Tests s T row (Err _) = ⊥

pub data Sets (s : Projection) (T : Model) (row : List ℕ) (n : ℕ) (r : Result (Unit {0}) SetFault) (left : List ℕ) (s' : Projection) : Type 0 where
  takes : Offer T row → IsPattern T s.pattern.now → HasRoom s T → r ≡ Ok tt → Accepted s T row left s' → Sets s T row n r left s'
  no_offer : (Offer T row → ⊥) → r ≡ Err (record { cause = Row; kind = 2; layer = n }) → Refused s row left s' → Sets s T row n r left s'
  no_pattern : Offer T row → (IsPattern T s.pattern.now → ⊥) → r ≡ Err (record { cause = Pattern; kind = 2; layer = n }) → Refused s row left s' → Sets s T row n r left s'
  no_room : Offer T row → IsPattern T s.pattern.now → (HasRoom s T → ⊥) → r ≡ Err (record { cause = Table; kind = 2; layer = n }) → Refused s row left s' → Sets s T row n r left s'

-- the sum of the first n pattern variables' values, each times its weight
abbrev pub weighed : List ℕ → List ℕ → List ℕ → ℕ → ℕ
weighed pattern weights state zero = 0
weighed pattern weights state (suc n) = weighed pattern weights state n + slice_index state (slice_index pattern n) * slice_index weights n

-- the rank that the weights give a row
abbrev pub rank_in : Projection → List ℕ → List ℕ → ℕ
rank_in s weights state = weighed s.pattern.now weights state (length s.pattern.now)

-- the row has a value for each of at most 8 pattern variables
pub record Known (pattern state : List ℕ) : Type 0 where
  pub few : length pattern ≤ 8
  pub each : (i : ℕ) → i < length pattern → slice_index pattern i < length state

pub record Inside (s : Projection) (weights state : List ℕ) : Type 0 where
  pub known : Known s.pattern.now state
  pub within : rank_in s weights state < length s.table.now

-- a state of the task that it is set on gets its distance, and every ask leaves all as it was; the answer to a set one about a
-- state of another task is what its weights lead to
pub data Answers (s : Projection) (T : Model) (state : List ℕ) (a : Option ℕ) (s' : Projection) : Type 0 where
  unset : Unset s → a ≡ Some 0 → s' ≡ s → Answers s T state a s'
  no_state : (IsState T state → ⊥) → a ≡ Some 0 → s' ≡ s → Answers s T state a s'
  asks : (weights : List ℕ) → s.weights ≡ Some weights → IsState T state → Inside s weights state → a ≡ distance (slice_index s.table.now (rank_in s weights state))
      → (Serves s T weights → a ≡ at (projected T s.pattern.now) (distances s T) (abstraction s.pattern.now state)) → s' ≡ s → Answers s T state a s'
  astray : (weights : List ℕ) → s.weights ≡ Some weights → IsState T state → (Inside s weights state → ⊥) → (Serves s T weights → ⊥) → a ≡ Some 0 → s' ≡ s → Answers s T state a s'

abbrev pub projection : Meaning Projection
projection = record { unset = Unset; holds = Holds; sets = Sets; answers = Answers }
