-- What calls of the reading answer, in the words of the format.
use Rattle.std.specs.Prelude.{ℕ, List, take, Ok, Err, Result}
use Rattle.tables.specs.declared.fault.Fault.{Fault}
use Rattle.tables.specs.declared.records.Variable.{Variable}
use Rattle.tables.specs.declared.records.Entry.{Entry}
use Rattle.tables.specs.declared.records.Operator.{Operator}
use Rattle.tables.specs.declared.records.Counts.{Counts}
use Rattle.lines.specs.declared.cursor.Cursor.{Cursor}
use Rattle.lines.specs.Reading.{Step, refused, read}
use Rattle.lines.specs.Views.{place_of}
use Rattle.format.specs.Whole.{Held}

-- an answer that is how many facts the goal has, with the entries then in use
abbrev pub answered_goal : Result ℕ Fault → List Entry → Cursor → Step (List Entry)
answered_goal (Ok n) es c = read es (place_of c)
answered_goal (Err f) es c = refused f

-- an answer that is how many records are used; every variable record is
abbrev pub answered_body : Result Counts Fault → List Variable → List Operator → List Entry → Cursor → Step Held
answered_body (Ok n) vs os es c = read (record { variables = vs; goals = n.goals; operators = take n.operators os; entries = take n.entries es }) (place_of c)
answered_body (Err f) vs os es c = refused f

-- the records that are used
abbrev pub held_by : Result Counts Fault → List Variable → List Operator → List Entry → Result Held Fault
held_by (Ok n) vs os es = Ok (record { variables = take n.variables vs; goals = n.goals; operators = take n.operators os; entries = take n.entries es })
held_by (Err f) vs os es = Err f

-- the same, with where the cursor then stands
abbrev pub answered_whole : Result Counts Fault → List Variable → List Operator → List Entry → Cursor → Step Held
answered_whole (Ok n) vs os es c = read (record { variables = take n.variables vs; goals = n.goals; operators = take n.operators os; entries = take n.entries es }) (place_of c)
answered_whole (Err f) vs os es c = refused f
