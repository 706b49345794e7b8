-- The operators of a task text, read into records, with their entries.
use Rattle.std.specs.Prelude.{ℕ, ◌+◌, List, [], ◌∷◌, ◌++◌, length, Some, None, codes, Option, nat_lt}
use Rattle.tables.specs.declared.cause.Cause.TheVariants as cause
use Rattle.tables.specs.declared.records.Variable.{Variable}
use Rattle.tables.specs.declared.records.Entry.{Entry}
use Rattle.tables.specs.declared.records.Operator.{Operator}
use Rattle.lines.specs.Reading.{Place, Step, read, and_then, tested, word_of, name_of, below_from, turns}
use Rattle.sections.specs.Entries.{fact_numbers, effect_numbers, group_of}

-- the lines of an operator after the first; its entries come after es, no variable twice among them
abbrev pub operator_of : List Variable → ℕ → List Entry → Place → Step (Operator × List Entry)
operator_of vs room es s =
    and_then (name_of s) (λ name s1.
    and_then (below_from (length vs + 1) s1) (λ conditions s2.
    and_then (group_of fact_numbers vs room (length es) conditions es s2) (λ es1 s3.
    and_then (below_from (length vs + 1) s3) (λ effects s4.
    and_then (group_of effect_numbers vs room (length es) effects es1 s4) (λ es2 s5.
    and_then (below_from 65536 s5) (λ price s6.
    and_then (word_of (codes "end_operator") s6) (λ _ s7.
    read (record { name = name; price = price; first = length es; conditions = conditions; effects = effects }, es2) s7)))))))

-- the same place in the lines of the operator o, or outside all
abbrev pub inside : Option ℕ → Place → Place
inside o s = record { rest = s.rest; at = s.at; line = s.line; operator = o }

-- one operator more, where a record is left for it (ROOM)
unfoldable pub operator_more : List Variable → ℕ → ℕ → List Operator × List Entry → Place → Step (List Operator × List Entry)
operator_more vs rooms room b s =
    and_then (word_of (codes "begin_operator") (inside (Some (length b.0)) s)) (λ _ s1.
    and_then (tested s1 (nat_lt (length b.0) rooms) cause.Room) (λ _ s2.
    and_then (operator_of vs room b.1 s2) (λ o s3. read (b.0 ++ o.0 ∷ [], o.1) s3)))

unfoldable pub operators_of : List Variable → ℕ → ℕ → ℕ → List Entry → Place → Step (List Operator × List Entry)
operators_of vs rooms room count es s =
    and_then (turns count (operator_more vs rooms room) ([], es) s) (λ b s1. read b (inside None s1))
