-- The meaning of an estimator: what its two calls owe when it is unset, and when it is set on a task with a held price row.
use Rattle.std.specs.Prelude.{◌≡◌, ℕ, List, Some, Ok, Err, Option, Result}
use Rattle.task.specs.Model.{Model, IsState}
use Rattle.estimator.specs.Price.{Offer, Shares, Admissible}
use Rattle.estimator.specs.declared.fault.SetFault.{SetFault}

-- set on a task with a held price row
abbrev pub HoldsT : Type 0 → Type 1
HoldsT E = E → Model → List ℕ → Type 0

-- a set: entry, task, row offered, layer number, result, row left, exit
abbrev pub SetsT : Type 0 → Type 1
SetsT E = E → Model → List ℕ → ℕ → Result (Unit {0}) SetFault → List ℕ → E → Type 0

-- an ask: entry, task, row, answer, exit
abbrev pub AnswersT : Type 0 → Type 1
AnswersT E = E → Model → List ℕ → Option ℕ → E → Type 0

-- what an estimator in a state of E is, and what it does
pub record Meaning (E : Type 0) : Type 1 where
  -- it is unset
  pub unset : E → Type 0
  -- it is set on the task, and holds that price row
  pub holds : HoldsT E
  -- what a set does
  pub sets : SetsT E
  -- what an ask does
  pub answers : AnswersT E

-- Spoilt is neither unset nor set: an ask about a task that a set estimator is not set on may lead there, and the next
-- set leads out. Such an ask and any ask while spoilt owe nothing, except that no ask makes the estimator unset.
pub record Laws {E : Type 0} (m : Meaning E) : Type 0 where
  -- it is not both unset and set
  pub apart : {s : E} {T : Model} {held : List ℕ} → m.unset s → m.holds s T held → ⊥
  -- what it holds is a price row of the task
  pub priced : {s : E} {T : Model} {held : List ℕ} → m.holds s T held → Offer T held
  -- a set that is accepted: it is set on the task, and held and left prices add up to those offered
  pub accepts : {s s' : E} {T : Model} {row left : List ℕ} {n : ℕ} → m.sets s T row n (Ok tt) left s' → (held : List ℕ) × m.holds s' T held × Shares row held left
  -- a set that is refused: it is unset, and the row stands
  pub refuses : {s s' : E} {T : Model} {row left : List ℕ} {n : ℕ} {f : SetFault} → m.sets s T row n (Err f) left s' → m.unset s' × (left ≡ row)
  -- an ask about the task that it is set on: of a state the answer is admissible at held prices, of any other row it is 0, and the meaning stays
  pub admits : {s s' : E} {T : Model} {held state : List ℕ} {a : Option ℕ} → m.holds s T held → IsState T state → m.answers s T state a s' → Admissible T held state a
  pub passes : {s s' : E} {T : Model} {held row : List ℕ} {a : Option ℕ} → m.holds s T held → (IsState T row → ⊥) → m.answers s T row a s' → a ≡ Some 0
  pub keeps : {s s' : E} {T : Model} {held row : List ℕ} {a : Option ℕ} → m.holds s T held → m.answers s T row a s' → m.holds s' T held
  -- an ask while it is unset, about any task and row: the answer is 0, and it stays unset
  pub idles : {s s' : E} {T : Model} {row : List ℕ} {a : Option ℕ} → m.unset s → m.answers s T row a s' → (a ≡ Some 0) × m.unset s'
  -- no ask makes it unset
  pub unsets : {s s' : E} {T : Model} {row : List ℕ} {a : Option ℕ} → m.answers s T row a s' → m.unset s' → m.unset s
