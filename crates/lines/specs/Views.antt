-- What slices and cursors hold, and what calls on a cursor answer, in the words of Reading.
use Rattle.std.specs.Prelude.{ℕ, List, Some, None, Ok, Err, Option, Result}
use Rattle.std.specs.Borrow.{Bor}
use Rattle.tables.specs.declared.fault.Fault.{Fault}
use Rattle.lines.specs.declared.cursor.Cursor.{Cursor}
use Rattle.lines.specs.declared.number.Number.{Number}
use Rattle.lines.specs.Reading.{Place, Step, refused, read}

-- a number and a part of a slice
abbrev pub number_and_part : Option (Number × Bor (List ℕ)) → Option (Number × List ℕ)
number_and_part None = None
number_and_part (Some p) = Some (p.0, p.1.now)

-- where a cursor stands
abbrev pub place_of : Cursor → Place
place_of c = record { rest = c.rest.now; at = c.at; line = c.line; operator = c.operator }

-- a call's answer, with where the cursor then stands
abbrev pub answered : {A : Type 0} → Result A Fault → Cursor → Step A
answered (Ok a) c = read a (place_of c)
answered (Err f) c = refused f

-- the same of an answer that is a part of the text
abbrev pub answered_part : Result (Bor (List ℕ)) Fault → Cursor → Step (List ℕ)
answered_part (Ok r) c = read r.now (place_of c)
answered_part (Err f) c = refused f

-- an answer that says only whether it was done, with what was made
abbrev pub answered_by : {A : Type 0} → Result (Unit {0}) Fault → A → Cursor → Step A
answered_by (Ok _) a c = read a (place_of c)
answered_by (Err f) a c = refused f
