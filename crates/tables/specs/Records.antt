-- The zero value of each record, which is also what stands past the end of a row of records; and the parts of a row.
use Rattle.std.specs.Prelude.{ℕ, ◌+◌, ◌-◌, List, take, drop, None}
use Rattle.tables.specs.declared.records.Span.{Span}
use Rattle.tables.specs.declared.records.Variable.{Variable}
use Rattle.tables.specs.declared.records.Operator.{Operator}
use Rattle.tables.specs.declared.records.Entry.{Entry}

abbrev pub zero_span : Span
zero_span = record { from = 0; to = 0 }

abbrev pub zero_variable : Variable
zero_variable = record { name = zero_span; values = zero_span; domain = 0; initial = 0 }

abbrev pub zero_operator : Operator
zero_operator = record { name = zero_span; price = 0; first = 0; conditions = 0; effects = 0 }

abbrev pub zero_entry : Entry
zero_entry = record { variable = 0; required = None; value = 0 }

-- the elements from one place up to, and without, another
abbrev pub part : {X : Type 0} → List X → ℕ → ℕ → List X
part xs from to = take (to - from) (drop from xs)

-- the bytes of a span
abbrev pub spanned : List ℕ → Span → List ℕ
spanned text s = part text s.from s.to

-- where an operator's effects begin, and where they end
abbrev pub effects_at : Operator → ℕ
effects_at o = o.first + o.conditions

abbrev pub end_at : Operator → ℕ
end_at o = o.first + o.conditions + o.effects

-- an operator's conditions, its effects, and both together, among all entries
abbrev pub conditions_of : List Entry → Operator → List Entry
conditions_of es o = part es o.first (effects_at o)

abbrev pub effects_of : List Entry → Operator → List Entry
effects_of es o = part es (effects_at o) (end_at o)

abbrev pub entries_of : List Entry → Operator → List Entry
entries_of es o = part es o.first (end_at o)
