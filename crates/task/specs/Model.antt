-- A planning task as mathematics has it: its states, what operators do, plans and their cost, and reachable states.
use Rattle.std.specs.Prelude.{◌≡◌, ℕ, ◌+◌, ◌<◌, max, List, [], ◌∷◌, map, length, Some, None, Option, slice_index, slice_index_or, slice_set}
use Rattle.tables.specs.declared.records.Variable.{Variable}
use Rattle.tables.specs.declared.records.Operator.{Operator}
use Rattle.tables.specs.declared.records.Entry.{Entry}
use Rattle.task.specs.declared.task.Task.{Task}
use Rattle.tables.specs.Records.{part, effects_at, end_at}

-- what an operator asks of a state, what it changes, and its price
pub record Action : Type 0 where
  pub price : ℕ
  pub conditions : List Entry
  pub effects : List Entry

-- a task: how many values each variable has, the initial state, the goal facts, and the operators in file order
pub record Model : Type 0 where
  pub domains : List ℕ
  pub initial : List ℕ
  pub goal : List Entry
  pub operators : List Action

-- the action of an operator record over the entries
abbrev pub action : List Entry → Operator → Action
action es o = record { price = o.price; conditions = part es o.first (effects_at o); effects = part es (effects_at o) (end_at o) }

-- the task that records state
abbrev pub stated : List Variable → List Entry → List Operator → List Entry → Model
stated vs goal os es = record {
  domains = map (λ v. v.domain) vs;
  initial = map (λ v. v.initial) vs;
  goal = goal;
  operators = map (action es) os;
}

-- the mathematical task of a task in memory
abbrev pub model : Task → Model
model t = stated t.variables.now t.goal.now t.operators.now t.entries.now

-- the price of each operator
abbrev pub prices : Model → List ℕ
prices T = map (λ o. o.price) T.operators

-- a state gives each variable one of its values
pub record IsState (T : Model) (s : List ℕ) : Type 0 where
  pub long : length s ≡ length T.domains
  pub within : (v : ℕ) → v < length s → slice_index s v < slice_index T.domains v

-- every fact holds: its variable has its value
abbrev pub AllHold : List ℕ → List Entry → Type 0
AllHold s [] = Unit {0}
AllHold s (e ∷ es) = (slice_index s e.variable ≡ e.value) × AllHold s es

-- a value that an effect admits: the required one, or any where none is required
abbrev pub Admits : ℕ → Option ℕ → Type 0
Admits x None = Unit {0}
Admits x (Some y) = x ≡ y

-- every effect admits its variable's value
abbrev pub AllAdmit : List ℕ → List Entry → Type 0
AllAdmit s [] = Unit {0}
AllAdmit s (e ∷ es) = Admits (slice_index s e.variable) e.required × AllAdmit s es

-- the state after the effects
abbrev pub updated : List ℕ → List Entry → List ℕ
updated s [] = s
updated s (e ∷ es) = updated (slice_set s e.variable e.value) es

-- past the last operator stands one that asks nothing and changes nothing
abbrev pub idle : Action
idle = record { price = 0; conditions = []; effects = [] }

abbrev pub operator : Model → ℕ → Action
operator T i = slice_index_or T.operators i idle

-- a goal state has every goal fact
unfoldable pub IsGoal : Model → List ℕ → Type 0
IsGoal T s = AllHold s T.goal

-- operator i applies to a state that has its conditions and required values
unfoldable pub Applies : Model → List ℕ → ℕ → Type 0
Applies T s i = (i < length T.operators) × AllHold s (operator T i).conditions × AllAdmit s (operator T i).effects

-- the state that operator i leads to
unfoldable pub applied : Model → List ℕ → ℕ → List ℕ
applied T s i = updated s (operator T i).effects

-- a plan from s: operators, by number, that apply one after another and end in a goal state
abbrev pub Plan : Model → List ℕ → List ℕ → Type 0
Plan T s [] = IsGoal T s
Plan T s (i ∷ p) = Applies T s i × Plan T (applied T s i) p

-- the operators apply one after another from s, and end in u
abbrev pub Leads : Model → List ℕ → List ℕ → List ℕ → Type 0
Leads T s [] u = s ≡ u
Leads T s (i ∷ p) u = Applies T s i × Leads T (applied T s i) p u

-- operators, perhaps none, lead from the initial state to u
abbrev pub Reachable : Model → List ℕ → Type 0
Reachable T u = (p : List ℕ) × Leads T T.initial p u

-- what a list of operators costs at a price row, which has one price an operator
abbrev pub Cost : List ℕ → List ℕ → ℕ
Cost row [] = 0
Cost row (i ∷ p) = slice_index row i + Cost row p

-- what it costs at the task's own prices
abbrev pub cost : Model → List ℕ → ℕ
cost T p = Cost (prices T) p

-- the highest price of a row, 0 for an empty one
abbrev pub dearest : List ℕ → ℕ
dearest [] = 0
dearest (p ∷ ps) = max p (dearest ps)

-- the initial state is a state, and every operator leads from states to states
pub record WellFormed (T : Model) : Type 0 where
  pub starts : IsState T T.initial
  pub stays : (s : List ℕ) (i : ℕ) → IsState T s → Applies T s i → IsState T (applied T s i)
