-- A planning task with the names of its variables, values and operators, and what makes one valid.
use Rattle.std.specs.Prelude.{◌≡◌, ℕ, ◌<◌, ◌≤◌, true, List, ◌++◌, map, length, Some, None, Option, slice_index}
use Rattle.std.specs.List.{flat_map, AllByRecursion}
use Rattle.tables.specs.declared.records.Entry.{Entry}
use Rattle.tables.specs.Rules.{Distinct}
use Rattle.task.specs.Model.{Model, Action}
use Rattle.lines.specs.Printable.{printable}

-- a variable: its name, its values' names in their order, and the number of its value in the initial state
pub record NamedVariable : Type 0 where
  pub name : List ℕ
  pub values : List (List ℕ)
  pub initial : ℕ

-- an operator: its name, and its conditions, effects and price
pub record NamedOperator : Type 0 where
  pub name : List ℕ
  pub action : Action

-- a task: variables, goal facts, operators in their order
pub record NamedTask : Type 0 where
  pub variables : List NamedVariable
  pub goal : List Entry
  pub operators : List NamedOperator

-- how many values each variable has
abbrev pub domains_of : List NamedVariable → List ℕ
domains_of vs = map (λ v. length v.values) vs

-- the task without its names
abbrev pub model_of : NamedTask → Model
model_of t = record {
  domains = domains_of t.variables;
  initial = map (λ v. v.initial) t.variables;
  goal = t.goal;
  operators = map (λ o. o.action) t.operators;
}

-- the conditions and effects of an operator
abbrev pub entries_of : NamedOperator → List Entry
entries_of o = o.action.conditions ++ o.action.effects

-- each goal fact, condition and effect of a task
abbrev pub all_entries : NamedTask → List Entry
all_entries t = t.goal ++ flat_map entries_of t.operators

-- names are printable, there are 1 to 255 values, and the initial one is among them
pub record ValidVariable (v : NamedVariable) : Type 0 where
  pub name : printable v.name ≡ true
  pub names : AllByRecursion (λ n. printable n ≡ true) v.values
  pub many : length v.values ≤ 255
  pub initial : v.initial < length v.values

-- a required value lies below the number of values, or none is required
abbrev pub RequiredBelow : ℕ → Option ℕ → Type 0
RequiredBelow d None = Unit {0}
RequiredBelow d (Some x) = x < d

-- an effect names a variable and values that it has
pub record EffectFits (domains : List ℕ) (e : Entry) : Type 0 where
  pub variable : e.variable < length domains
  pub required : RequiredBelow (slice_index domains e.variable) e.required
  pub value : e.value < slice_index domains e.variable

-- a fact names a variable and a value that it has; as an entry it requires that value
pub record FactFits (domains : List ℕ) (e : Entry) : Type 0 where
  pub variable : e.variable < length domains
  pub required : e.required ≡ Some e.value
  pub value : e.value < slice_index domains e.variable

-- conditions are facts, effects fit, no variable stands twice among both, and the price is at most 65,535
pub record ValidOperator (domains : List ℕ) (o : NamedOperator) : Type 0 where
  pub name : printable o.name ≡ true
  pub conditions : AllByRecursion (FactFits domains) o.action.conditions
  pub effects : AllByRecursion (EffectFits domains) o.action.effects
  pub few_conditions : length o.action.conditions ≤ length domains
  pub few_effects : length o.action.effects ≤ length domains
  pub distinct : Distinct (entries_of o)
  pub price : o.action.price ≤ 65535

-- 1 to 32 variables, at most 256 operators and 4,096 entries, all valid; the goal is a set of facts, no variable twice
pub record Valid (t : NamedTask) : Type 0 where
  pub some : 1 ≤ length t.variables
  pub few : length t.variables ≤ 32
  pub variables : AllByRecursion ValidVariable t.variables
  pub goal : AllByRecursion (FactFits (domains_of t.variables)) t.goal
  pub few_goals : length t.goal ≤ length t.variables
  pub distinct : Distinct t.goal
  pub listed : length t.operators ≤ 256
  pub operators : AllByRecursion (ValidOperator (domains_of t.variables)) t.operators
  pub stored : length (all_entries t) ≤ 4096
