-- The text of a plan: a line `(name)` for each operator, and a last line with the cost.
use Rattle.std.specs.Prelude.{ℕ, List, [], ◌∷◌, ◌++◌}
use Rattle.task.specs.declared.task.Task.{Task}
use Rattle.task.specs.Names.{operator_name}
use Rattle.text.specs.Lines.{line, cost_line}

-- the lines of operators by number, given their names
abbrev pub lines : (ℕ → List ℕ) → List ℕ → List ℕ
lines name [] = []
lines name (i ∷ is) = line (name i) ++ lines name is

-- the text of a plan at its cost
abbrev pub plan_text : Task → List ℕ → ℕ → List ℕ
plan_text t is c = lines (operator_name t) is ++ cost_line c
