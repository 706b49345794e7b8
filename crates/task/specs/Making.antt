-- What making a task answers, and the task that then stands.
use Rattle.std.specs.Prelude.{◌≡◌, ℕ, ◌≤◌, List, [], ◌∷◌, length, take, None, Ok, Err, Result}
use Rattle.tables.specs.declared.cause.Cause.TheVariants as cause
use Rattle.tables.specs.declared.fault.Fault.{Fault}
use Rattle.tables.specs.declared.records.Counts.{Counts}
use Rattle.tables.specs.declared.records.Variable.{Variable}
use Rattle.tables.specs.declared.records.Operator.{Operator}
use Rattle.tables.specs.declared.records.Entry.{Entry}
use Rattle.task.specs.declared.task.Task.{Task}
use Rattle.tables.specs.Rules.{Rules}
use Rattle.task.specs.Model.{Model, model, stated}

-- the built-in task: one variable of one value, an empty goal and no operators
abbrev pub single : Model
single = record { domains = 1 ∷ []; initial = 0 ∷ []; goal = []; operators = [] }

-- the counts lie within the records, and the records so counted keep the rules
pub record Accepts (text : List ℕ) (vs : List Variable) (os : List Operator) (es : List Entry) (n : Counts) : Type 0 where
  pub variables : n.variables ≤ length vs
  pub operators : n.operators ≤ length os
  pub entries : n.entries ≤ length es
  pub goals : n.goals ≤ n.entries
  pub rules : Rules text (take n.variables vs) (take n.goals es) (take n.operators os) (take n.entries es)

-- the task has this text and the records so counted, so its model is the one that they state
pub record MadeOf (text : List ℕ) (vs : List Variable) (os : List Operator) (es : List Entry) (n : Counts) (t : Task) : Type 0 where
  pub text_is : t.text.now ≡ text
  pub variables_are : t.variables.now ≡ take n.variables vs
  pub goal_is : t.goal.now ≡ take n.goals es
  pub operators_are : t.operators.now ≡ take n.operators os
  pub entries_are : t.entries.now ≡ take n.entries es
  pub model_is : model t ≡ stated (take n.variables vs) (take n.goals es) (take n.operators os) (take n.entries es)

-- a refusal: RANGE, line 0
abbrev pub out_of_range : Fault
out_of_range = record { cause = cause.Range; line = 0; operator = None }

-- accepted exactly if the records keep the rules, and else refused
abbrev pub Made : List ℕ → List Variable → List Operator → List Entry → Counts → Result Task Fault → Type 0
Made text vs os es n (Ok t) = Accepts text vs os es n × MadeOf text vs os es n t
Made text vs os es n (Err f) = (Accepts text vs os es n → ⊥) × (f ≡ out_of_range)

-- the same, in the place of a task, which stays where it is refused
abbrev pub Put : List ℕ → List Variable → List Operator → List Entry → Counts → Result (Unit {0}) Fault → Task → Task → Type 0
Put text vs os es n (Ok _) t u = Accepts text vs os es n × MadeOf text vs os es n u
Put text vs os es n (Err f) t u = (Accepts text vs os es n → ⊥) × (f ≡ out_of_range) × (u ≡ t)
