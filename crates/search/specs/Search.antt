-- The plain search that a core stands for.
use Rattle.std.specs.Prelude.{◌≡◌, ℕ, ◌<◌, Bool, true, false, length, Ok, Err, Result}
use Rattle.task.specs.Model.{Model}
use Rattle.plain.specs.Plain as plain
use Rattle.plain.specs.Plain.{Kind, Plain, Expands, Expansions, Finds, Overflows, Queued}
use Rattle.search.specs.declared.inner.Core.{Core}
use Rattle.search.specs.declared.answer.GoAhead.{GoAhead}
use Rattle.search.specs.declared.answer.Find.{Find}
use Rattle.search.specs.declared.inner.Status.{Status}
use Rattle.search.specs.declared.inner.Status.TheVariants as statuses
use Rattle.search.specs.declared.inner.Event.{Event}
use Rattle.search.specs.declared.inner.Event.TheVariants.{Expanded, Goal, Empty, Overflow}
use Rattle.tables.specs.declared.cause.Cause.TheVariants as cause
use Rattle.plain.specs.declared.fault.Fault.{Fault}
use Rattle.search.specs.declared.answer.Progress.{Progress}
use Rattle.search.specs.declared.answer.Refused.{Refused}
use Rattle.search.specs.declared.answer.Progress.TheVariants as words
use Rattle.memory.specs.Rows.{nodes_of, Consistent}
use Rattle.memory.specs.Steps.{WithinLimits}
use Rattle.memory.specs.Trees.{ParentTree}

abbrev pub status_of : Status → plain.Status
status_of statuses.Fresh = plain.fresh
status_of statuses.Running = plain.running
status_of (statuses.Found f) = plain.found f.node
status_of statuses.NoPlan = plain.none
status_of statuses.Full = plain.full

abbrev pub plain_of : Core → Plain
plain_of s = record { status = status_of s.status; nodes = nodes_of s.memory; bound = s.bound; total = s.total }

abbrev pub find_of : Find → plain.Find
find_of f = record { node = f.node; cost = f.cost }

-- what a start says, and whether a go-ahead is handed out
abbrev pub start_outcome : Result GoAhead Fault → plain.Outcome
start_outcome (Ok g) = plain.started
start_outcome (Err f) = plain.refused f

abbrev pub start_go_ahead : Result GoAhead Fault → Bool
start_go_ahead (Ok g) = true
start_go_ahead (Err f) = false

-- what an advance says, and whether the go-ahead comes back
abbrev pub outcome_of : Result Progress Refused → plain.Outcome
outcome_of (Ok (words.More g)) = plain.more
outcome_of (Ok (words.Found f)) = plain.found_plan (find_of f)
outcome_of (Ok words.NoPlan) = plain.no_plan
outcome_of (Ok words.Full) = plain.out_of_room
outcome_of (Err r) = plain.refusal r.cause

abbrev pub go_ahead_of : Result Progress Refused → Bool
go_ahead_of (Ok (words.More g)) = true
go_ahead_of (Ok (words.Found f)) = false
go_ahead_of (Ok words.NoPlan) = false
go_ahead_of (Ok words.Full) = false
go_ahead_of (Err r) = true

-- the search with another status
abbrev pub ended : plain.Status → Plain → Plain
ended st p = record { status = st; nodes = p.nodes; bound = p.bound; total = p.total }

module _ {E : Type 0} (est : Kind E) (t : Model) (N : ℕ) where
  -- one turn, before the status is changed
  abbrev pub Stepped : Plain → E → Event → Plain → E → Type 0
  Stepped p e Expanded p' e' = Expands est t N p e p' e'
  Stepped p e (Goal f) p' e' = Finds est t N p f.node (ended (plain.found f.node) p') × (f.cost ≡ (plain.node p.nodes f.node).g) × (e' ≡ e)
  Stepped p e Empty p' e' = ((k h : ℕ) → ¬ Queued p.nodes k h) × (p' ≡ p) × (e' ≡ e)
  Stepped p e Overflow p' e' = Overflows est t N p e (ended plain.full p') e'

  -- an event that ends the search
  abbrev pub Stops : Event → Type 0
  Stops Expanded = ⊥
  Stops (Goal f) = Unit {0}
  Stops Empty = Unit {0}
  Stops Overflow = Unit {0}

  -- up to n turns, before the status is changed
  pub data Ran (n : ℕ) (p : Plain) (e : E) (event : Event) (p' : Plain) (e' : E) : Type 0 where
    whole : event ≡ Expanded → Expansions est t N n p e p' e' → Ran n p e event p' e'
    stopped : (m : ℕ) (q : Plain) (d : E) → Stops event → m < n → Expansions est t N m p e q d → Stepped q d event p' e' → Ran n p e event p' e'

-- the status that an event leads to
abbrev pub with_status : Core → Status → Core
with_status s st = record { memory = s.memory; status = st; bound = s.bound; total = s.total }

-- a running search goes on to the status of the event; any other refuses and stays
abbrev pub Concludes : Core → Status → Event → Result Progress Refused → Core → Type 0
Concludes s statuses.Running Expanded r s' = (s' ≡ s) × (outcome_of r ≡ plain.more) × (go_ahead_of r ≡ true)
Concludes s statuses.Running (Goal f) r s' = (s' ≡ with_status s (statuses.Found f)) × (outcome_of r ≡ plain.found_plan (find_of f)) × (go_ahead_of r ≡ false)
Concludes s statuses.Running Empty r s' = (s' ≡ with_status s statuses.NoPlan) × (outcome_of r ≡ plain.no_plan) × (go_ahead_of r ≡ false)
Concludes s statuses.Running Overflow r s' = (s' ≡ with_status s statuses.Full) × (outcome_of r ≡ plain.out_of_room) × (go_ahead_of r ≡ false)
Concludes s statuses.Fresh event r s' = (s' ≡ s) × (outcome_of r ≡ plain.refusal cause.Order) × (go_ahead_of r ≡ true)
Concludes s (statuses.Found x) event r s' = (s' ≡ s) × (outcome_of r ≡ plain.refusal cause.Order) × (go_ahead_of r ≡ true)
Concludes s statuses.NoPlan event r s' = (s' ≡ s) × (outcome_of r ≡ plain.refusal cause.Order) × (go_ahead_of r ≡ true)
Concludes s statuses.Full event r s' = (s' ≡ s) × (outcome_of r ≡ plain.refusal cause.Order) × (go_ahead_of r ≡ true)

-- while it runs, the costs and the count keep to their limits, and paths lead back to node 0; while it is fresh, nothing was done
abbrev pub Standing : Model → Core → Status → Type 0
Standing t s statuses.Fresh = (s.memory.held ≡ 0) × (s.bound ≡ 0) × (s.total ≡ 0)
Standing t s statuses.Running = WithinLimits t s.memory.capacity s.total (nodes_of s.memory) × ParentTree (nodes_of s.memory)
Standing t s (statuses.Found f) = (f.node < s.memory.held) × ((plain.node (nodes_of s.memory) f.node).g ≡ f.cost) × ParentTree (nodes_of s.memory)
Standing t s statuses.NoPlan = Unit {0}
Standing t s statuses.Full = Unit {0}

-- what stands of a search before and after each call
pub record Valid (t : Model) (s : Core) : Type 0 where
  pub consistent : Consistent s.memory
  pub variables : s.memory.variables ≡ length t.domains
  pub stands : Standing t s s.status
