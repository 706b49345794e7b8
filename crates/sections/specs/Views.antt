-- What reading entries leaves as it was, and what reading operators answers, in the words of the format.
use Rattle.std.specs.Prelude.{◌≡◌, List, length, take, Ok, Err, Result}
use Rattle.tables.specs.declared.fault.Fault.{Fault}
use Rattle.tables.specs.declared.records.Entry.{Entry}
use Rattle.tables.specs.declared.records.Operator.{Operator}
use Rattle.lines.specs.declared.cursor.Cursor.{Cursor}
use Rattle.lines.specs.Reading.{Step, refused, read}
use Rattle.lines.specs.Views.{place_of}
use Rattle.sections.specs.declared.entries.Entries.{Entries}

-- the entries in use
abbrev pub entries_in : Entries → List Entry
entries_in es = take es.used es.records.now

-- q is p with the same variables, over the same lent records
pub record SameLender (p q : Entries) : Type 0 where
  pub variables : q.variables ≡ p.variables
  pub capacity : length q.records.now ≡ length p.records.now
  pub lender : q.records.ghost_name ≡ p.records.ghost_name

-- an answer that is an operator, with the entries then in use
abbrev pub answered_operator : Result Operator Fault → List Entry → Cursor → Step (Operator × List Entry)
answered_operator (Ok o) es c = read (o, es) (place_of c)
answered_operator (Err f) es c = refused f
