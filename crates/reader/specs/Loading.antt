-- What loading a task text answers, and the task that then stands.
use Rattle.std.specs.Prelude.{◌≡◌, ℕ, ◌<◌, ◌≤◌, ◌⊎◌, List, [], length, get_or, Ok, Err, Result, slice_index_or}
use Rattle.tables.specs.declared.cause.Cause.TheVariants as cause
use Rattle.tables.specs.declared.fault.Fault.{Fault}
use Rattle.task.specs.declared.task.Task.{Task}
use Rattle.task.specs.Model.{model}
use Rattle.task.specs.Names.{variable_name, value_name, operator_name}
use Rattle.format.specs.Whole.{Held, room_of, task_of}
use Rattle.reader.specs.Named.{NamedVariable, NamedOperator, NamedTask, Valid, model_of, all_entries}
use Rattle.reader.specs.Rendering.{render}

-- m variable, n operator and k entry records suffice for the task
pub record Enough (t : NamedTask) (m n k : ℕ) : Type 0 where
  pub variables : length t.variables ≤ m
  pub operators : length t.operators ≤ n
  pub entries : length (all_entries t) ≤ k

-- the task in memory is that of t, and hands out its names
pub record Shows (u : Task) (t : NamedTask) : Type 0 where
  pub model_is : model u ≡ model_of t
  pub variable_names : (v : ℕ) (d : NamedVariable) → v < length t.variables → variable_name u v ≡ (get_or t.variables v d).name
  pub value_names : (v x : ℕ) (d : NamedVariable) → v < length t.variables → x < length (get_or t.variables v d).values → value_name u v x ≡ slice_index_or (get_or t.variables v d).values x []
  pub operator_names : (i : ℕ) (d : NamedOperator) → i < length t.operators → operator_name u i ≡ (get_or t.operators i d).name

-- the reading does not stop before line n
abbrev pub NotBefore : ℕ → Result Held Fault → Type 0
NotBefore n (Ok h) = Unit {0}
NotBefore n (Err f) = n ≤ f.line

-- a reading g, and the reading h of the same text with more records: they are the same, or g stops with ROOM and h goes on
-- at least up to that line
abbrev pub SameOrRoom : Result Held Fault → Result Held Fault → Type 0
SameOrRoom g h = (g ≡ h) ⊎ ((f : Fault) × (g ≡ Err f) × (f.cause ≡ cause.Room) × NotBefore f.line h)

-- A text of at most 65,536 bytes is accepted exactly if it is the text of a valid task for which the records suffice, and
-- the answer is that task. Fewer records change nothing but that ROOM is said where one is lacking. A refusal is the text's first fault.
pub record Read (text : List ℕ) (m n k : ℕ) (r : Result Task Fault) : Type 0 where
  pub accepted : (u : Task) → r ≡ Ok u → (t : NamedTask) × Valid t × Enough t m n k × (length text ≤ 65536) × (text ≡ render t) × Shows u t
  pub accepts : (t : NamedTask) → Valid t → Enough t m n k → length text ≤ 65536 → text ≡ render t → (u : Task) × (r ≡ Ok u) × Shows u t
  pub wider : (m1 n1 k1 : ℕ) → m ≤ m1 → n ≤ n1 → k ≤ k1 → SameOrRoom (task_of text (room_of m n k)) (task_of text (room_of m1 n1 k1))
  pub refused : (f : Fault) → r ≡ Err f → task_of text (room_of m n k) ≡ Err f

-- The same, where the task that then stands is that task. Fewer records change nothing but that ROOM is said where one is lacking. A refusal leaves the task that stood before.
pub record Loaded (text : List ℕ) (m n k : ℕ) (r : Result (Unit {0}) Fault) (earlier after : Task) : Type 0 where
  pub accepted : r ≡ Ok tt → (t : NamedTask) × Valid t × Enough t m n k × (length text ≤ 65536) × (text ≡ render t) × Shows after t
  pub accepts : (t : NamedTask) → Valid t → Enough t m n k → length text ≤ 65536 → text ≡ render t → (r ≡ Ok tt) × Shows after t
  pub wider : (m1 n1 k1 : ℕ) → m ≤ m1 → n ≤ n1 → k ≤ k1 → SameOrRoom (task_of text (room_of m n k)) (task_of text (room_of m1 n1 k1))
  pub refused : (f : Fault) → r ≡ Err f → (task_of text (room_of m n k) ≡ Err f) × (after ≡ earlier)
