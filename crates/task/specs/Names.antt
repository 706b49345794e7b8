-- The names of a task's variables, values and operators, and what a call that hands one out answers.
use Rattle.std.specs.Prelude.{◌≡◌, ℕ, ◌<◌, ◌≤◌, List, length, Some, None, Option, ◌≢◌, slice_index_or}
use Rattle.std.specs.Borrow.{Bor}
use Rattle.task.specs.declared.task.Task.{Task}
use Rattle.tables.specs.Records.{zero_variable, zero_operator, spanned}
use Rattle.tables.specs.Lines.{nth_line}

abbrev pub variable_name : Task → ℕ → List ℕ
variable_name t v = spanned t.text.now (slice_index_or t.variables.now v zero_variable).name

-- value x of a variable is named by line x of the variable's value lines
abbrev pub value_name : Task → ℕ → ℕ → List ℕ
value_name t v x = nth_line x (spanned t.text.now (slice_index_or t.variables.now v zero_variable).values)

abbrev pub operator_name : Task → ℕ → List ℕ
operator_name t i = spanned t.text.now (slice_index_or t.operators.now i zero_operator).name

-- a variable that the task has answers its name, any other number nothing
abbrev pub VariableName : Task → ℕ → Option (Bor (List ℕ)) → Type 0
VariableName t v None = length t.variables.now ≤ v
VariableName t v (Some s) = (v < length t.variables.now) × (s.now ≡ variable_name t v)

abbrev pub OperatorName : Task → ℕ → Option (Bor (List ℕ)) → Type 0
OperatorName t i None = length t.operators.now ≤ i
OperatorName t i (Some s) = (i < length t.operators.now) × (s.now ≡ operator_name t i)

-- a value that the variable has answers its name, any other number nothing
abbrev pub ValueName : Task → ℕ → ℕ → Option (Bor (List ℕ)) → Type 0
ValueName t v x None = x < (slice_index_or t.variables.now v zero_variable).domain → ⊥
ValueName t v x (Some s) = (x < (slice_index_or t.variables.now v zero_variable).domain) × (s.now ≡ value_name t v x)

-- the first operator of that name; none where no operator has it
abbrev pub OperatorNamed : Task → List ℕ → Option ℕ → Type 0
OperatorNamed t name None = (k : ℕ) → k < length t.operators.now → operator_name t k ≢ name
OperatorNamed t name (Some i) = (i < length t.operators.now) × (operator_name t i ≡ name) × ((k : ℕ) → k < i → operator_name t k ≢ name)
