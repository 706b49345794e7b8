-- The rules that the records of every task keep.
use Rattle.std.specs.Prelude.{◌≡◌, ℕ, ◌<◌, ◌≤◌, List, length, get_or, Some, ◌≢◌}
use Rattle.tables.specs.declared.records.Span.{Span}
use Rattle.tables.specs.declared.records.Variable.{Variable}
use Rattle.tables.specs.declared.records.Operator.{Operator}
use Rattle.tables.specs.declared.records.Entry.{Entry}
use Rattle.tables.specs.Records.{zero_variable, zero_operator, zero_entry, end_at, entries_of}

-- a span lies inside a text of n bytes
abbrev pub SpanFits : ℕ → Span → Type 0
SpanFits n s = (s.from ≤ s.to) × (s.to ≤ n)

-- a variable has 1 to 255 values, the initial one among them, and names inside the text of n bytes
abbrev pub VariableFits : ℕ → Variable → Type 0
VariableFits n v = SpanFits n v.name × SpanFits n v.values × (v.initial < v.domain) × (v.domain ≤ 255)

-- each variable does
abbrev pub VariablesFit : ℕ → List Variable → Type 0
VariablesFit n vs = (k : ℕ) → k < length vs → VariableFits n (get_or vs k zero_variable)

-- an entry names a variable and one of its values
abbrev pub EntryFits : List Variable → Entry → Type 0
EntryFits vs e = (e.variable < length vs) × (e.value < (get_or vs e.variable zero_variable).domain)

-- each entry does
abbrev pub EntriesFit : List Variable → List Entry → Type 0
EntriesFit vs es = (k : ℕ) → k < length es → EntryFits vs (get_or es k zero_entry)

-- a value that an entry requires is one of its variable's
abbrev pub RequiredFits : List Variable → Entry → Type 0
RequiredFits vs e = (x : ℕ) → e.required ≡ Some x → x < (get_or vs e.variable zero_variable).domain

-- each entry's is
abbrev pub RequiredFit : List Variable → List Entry → Type 0
RequiredFit vs es = (k : ℕ) → k < length es → RequiredFits vs (get_or es k zero_entry)

-- no variable is named twice
abbrev pub Distinct : List Entry → Type 0
Distinct es = (i j : ℕ) → i < j → j < length es → (get_or es i zero_entry).variable ≢ (get_or es j zero_entry).variable

-- an operator has its name inside the text of n bytes, a price of at most 65,535, and its conditions and effects among m entries
abbrev pub OperatorFits : ℕ → ℕ → Operator → Type 0
OperatorFits n m o = SpanFits n o.name × (o.price ≤ 65535) × (end_at o ≤ m)

-- each operator does
abbrev pub OperatorsFit : ℕ → ℕ → List Operator → Type 0
OperatorsFit n m os = (k : ℕ) → k < length os → OperatorFits n m (get_or os k zero_operator)

-- no operator names a variable twice, in its conditions and effects together
abbrev pub OperatorsDistinct : List Entry → List Operator → Type 0
OperatorsDistinct es os = (k : ℕ) → k < length os → Distinct (entries_of es (get_or os k zero_operator))

-- goal facts, entries and the operators' entries keep the rules
pub record EntryRules (vs : List Variable) (goal : List Entry) (os : List Operator) (es : List Entry) : Type 0 where
  pub goal_fits : EntriesFit vs goal
  pub goal_distinct : Distinct goal
  pub entries_fit : EntriesFit vs es
  pub required_fit : RequiredFit vs es
  pub operators_distinct : OperatorsDistinct es os

-- text, variables, goal facts, operators and entries that state a task
pub record Rules (text : List ℕ) (vs : List Variable) (goal : List Entry) (os : List Operator) (es : List Entry) : Type 0 where
  pub some : 1 ≤ length vs
  pub few : length vs ≤ 32
  pub listed : length os ≤ 256
  pub stored : length es ≤ 4096
  pub variables_fit : VariablesFit (length text) vs
  pub operators_fit : OperatorsFit (length text) (length es) os
  pub entries : EntryRules vs goal os es

-- every entry's variable is below n
abbrev pub EntriesInside : List Entry → ℕ → Type 0
EntriesInside es n = (k : ℕ) → k < length es → (get_or es k zero_entry).variable < n
