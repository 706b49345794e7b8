-- The variables of a task text, read into records.
use Rattle.std.specs.Prelude.{ℕ, List, [], ◌∷◌, ◌++◌, length, codes, nat_lt}
use Rattle.tables.specs.declared.cause.Cause.TheVariants as cause
use Rattle.tables.specs.declared.records.Variable.{Variable}
use Rattle.lines.specs.Reading.{Place, Step, read, and_then, tested, word_of, number_from, below_from, name_of, turns, passed}

-- the lines of a variable after the first: its name, -1, how many values it has, their names, the last line
abbrev pub variable_of : Place → Step Variable
variable_of s =
    and_then (name_of s) (λ name s1.
    and_then (word_of (codes "-1") s1) (λ _ s2.
    and_then (number_from 1 255 s2) (λ domain s3.
    and_then (turns domain passed tt s3) (λ _ s4.
    and_then (word_of (codes "end_variable") s4) (λ _ s5.
    read (record { name = name; values = record { from = s3.at; to = s4.at }; domain = domain; initial = 0 }) s5)))))

-- one variable more, where a record is left for it (ROOM)
unfoldable pub variable_more : ℕ → List Variable → Place → Step (List Variable)
variable_more room vs s =
    and_then (word_of (codes "begin_variable") s) (λ _ s1.
    and_then (tested s1 (nat_lt (length vs) room) cause.Room) (λ _ s2.
    and_then (variable_of s2) (λ v s3. read (vs ++ v ∷ []) s3)))

abbrev pub variables_of : ℕ → ℕ → Place → Step (List Variable)
variables_of room count s = turns count (variable_more room) [] s

-- a variable with its initial value
abbrev pub with_initial : Variable → ℕ → Variable
with_initial v x = record { name = v.name; values = v.values; domain = v.domain; initial = x }

-- the lines of the initial state: a value of each variable
abbrev pub initials_of : List Variable → List Variable → Place → Step (List Variable)
initials_of done [] s = read done s
initials_of done (v ∷ vs) s = and_then (below_from v.domain s) (λ x s1. initials_of (done ++ with_initial v x ∷ []) vs s1)
