-- The reading of a whole task text: the records of its task, or its first fault.
use Rattle.std.specs.Prelude.{◌≡◌, ℕ, ◌+◌, ◌-◌, min, cond, List, [], ◌++◌, length, replicate, None, Ok, Err, codes, Result, ◌==◌, nat_le}
use Rattle.tables.specs.declared.cause.Cause.TheVariants as cause
use Rattle.tables.specs.declared.fault.Fault.{Fault}
use Rattle.tables.specs.declared.records.Variable.{Variable}
use Rattle.tables.specs.declared.records.Entry.{Entry}
use Rattle.tables.specs.declared.records.Operator.{Operator}
use Rattle.tables.specs.declared.records.Counts.{Counts}
use Rattle.tables.specs.Records.{zero_variable, zero_operator, zero_entry}
use Rattle.lines.specs.Reading.{Place, Step, refused, read, and_then, fault_next, word_of, number_from, below_from, top}
use Rattle.sections.specs.Variables.{variables_of, initials_of}
use Rattle.sections.specs.Entries.{fact_numbers, group_of}
use Rattle.sections.specs.Operators.{operators_of}

-- the records of a task
pub record Held : Type 0 where
  pub variables : List Variable
  pub goals : ℕ
  pub operators : List Operator
  pub entries : List Entry

-- how many records of each sort may be used
pub record Room : Type 0 where
  pub variables : ℕ
  pub operators : ℕ
  pub entries : ℕ

-- the lines before the number of variables
abbrev pub heading_of : Place → Step (Unit {0})
heading_of s =
    and_then (word_of (codes "begin_version") s) (λ _ s1.
    and_then (word_of (codes "3") s1) (λ _ s2.
    and_then (word_of (codes "end_version") s2) (λ _ s3.
    and_then (word_of (codes "begin_metric") s3) (λ _ s4.
    and_then (word_of (codes "1") s4) (λ _ s5.
    word_of (codes "end_metric") s5)))))

-- the number of mutex groups, and the initial state
abbrev pub state_of : List Variable → Place → Step (List Variable)
state_of vs s =
    and_then (word_of (codes "0") s) (λ _ s1.
    and_then (word_of (codes "begin_state") s1) (λ _ s2.
    and_then (initials_of [] vs s2) (λ ws s3.
    and_then (word_of (codes "end_state") s3) (λ _ s4. read ws s4))))

-- the goal
abbrev pub goal_of : List Variable → ℕ → Place → Step (List Entry)
goal_of vs room s =
    and_then (word_of (codes "begin_goal") s) (λ _ s1.
    and_then (below_from (length vs + 1) s1) (λ count s2.
    and_then (group_of fact_numbers vs room 0 count [] s2) (λ es s3.
    and_then (word_of (codes "end_goal") s3) (λ _ s4. read es s4))))

-- nothing after the last line (AFTER)
abbrev pub ended : {A : Type 0} → A → Place → Step A
ended a s = cond (length s.rest == 0) (read a s) (refused (fault_next s cause.After))

-- what follows the variables: the state, the goal, the operators, the number of axioms
abbrev pub body_of : List Variable → ℕ → ℕ → Place → Step Held
body_of vs rooms room s =
    and_then (state_of vs s) (λ ws s1.
    and_then (goal_of ws room s1) (λ gs s2.
    and_then (below_from 257 s2) (λ n s3.
    and_then (operators_of ws rooms room n gs s3) (λ b s4.
    and_then (word_of (codes "0") s4) (λ _ s5.
    ended (record { variables = ws; goals = length gs; operators = b.0; entries = b.1 }) s5)))))

-- the whole text
unfoldable pub whole_of : Room → Place → Step Held
whole_of room s =
    and_then (heading_of s) (λ _ s1.
    and_then (number_from 1 32 s1) (λ count s2.
    and_then (variables_of room.variables count s2) (λ vs s3.
    body_of vs room.operators room.entries s3)))

-- of the entries handed, at most the first 4,096 are used; of variables and operators no text needs more than 32 and 256
abbrev pub room_of : ℕ → ℕ → ℕ → Room
room_of vs os es = record { variables = vs; operators = os; entries = min es 4096 }

-- a step's value without its place
abbrev pub outcome : {A : Type 0} → Step A → Result A Fault
outcome (read a s) = Ok a
outcome (refused f) = Err f

-- the reading of a text: the task's records, or the first fault; a text of more than 65,536 bytes is LONG
unfoldable pub task_of : List ℕ → Room → Result Held Fault
task_of text room = cond (nat_le (length text) 65536) (outcome (whole_of room (top text))) (Err (record { cause = cause.Long; line = 0; operator = None }))

-- how many records are used
abbrev pub counts_of : Held → Counts
counts_of h = record { variables = length h.variables; goals = h.goals; operators = length h.operators; entries = length h.entries }

-- xs, and zeros up to n
abbrev pub filled : {X : Type 0} → List X → ℕ → X → List X
filled xs n zero = xs ++ replicate (n - length xs) zero

-- what a call answers, and what it leaves in m variable, n operator and k entry records:
-- the task's records and zeros after them, or zeros only
abbrev pub TaskRead : Result Held Fault → Result Counts Fault → ℕ → List Variable → ℕ → List Operator → ℕ → List Entry → Type 0
TaskRead (Ok h) r m vs n os k es = (r ≡ Ok (counts_of h)) × (vs ≡ filled h.variables m zero_variable) × (os ≡ filled h.operators n zero_operator) × (es ≡ filled h.entries k zero_entry)
TaskRead (Err f) r m vs n os k es = (r ≡ Err f) × (vs ≡ replicate m zero_variable) × (os ≡ replicate n zero_operator) × (es ≡ replicate k zero_entry)
