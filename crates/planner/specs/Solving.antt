-- What solving a task answers, in words of plans and their cost.
use Rattle.std.specs.Prelude.{◌≡◌, ℕ, ◌<◌, ◌≤◌, ◌≢◌, ◌⊎◌, List, ◌++◌, length, drop, Ok, Err, Result}
use Rattle.tables.specs.declared.cause.Cause.{Cause}
use Rattle.tables.specs.declared.cause.Cause.TheVariants as cause
use Rattle.task.specs.Model.{Model, prices, Plan, cost}
use Rattle.estimator.specs.Laws.{SetsT}
use Rattle.plain.specs.declared.fault.Fault.{Fault}
use Rattle.plain.specs.declared.fault.Fault.TheVariants.{Own, Set}
use Rattle.plain.specs.Plain.{Node}
use Rattle.plain.specs.Runs.{MemoryFull}
use Rattle.planner.specs.declared.solve.Solution.{Solution}
use Rattle.planner.specs.declared.solve.Solution.TheVariants as solution

-- a plan of the task, and none costs less
pub record Cheapest (T : Model) (p : List ℕ) : Type 0 where
  pub plan : Plan T T.initial p
  pub least : (q : List ℕ) → Plan T T.initial q → cost T p ≤ cost T q

-- the buffer was too short for the text of a cheapest plan
abbrev pub TooShort : Model → (List ℕ → ℕ → List ℕ) → List ℕ → Cause → Type 0
TooShort T text buffer c = (c ≡ cause.Short) × ((p : List ℕ) × Cheapest T p × (length buffer < length (text p (cost T p))))

-- what a search that was started came to: the text of a cheapest plan stands at the front of the buffer, whose other bytes
-- stay; there is no plan; N different reachable states are held, and an operator leads from one of them to yet another; or
-- the buffer is too short. Only a plan changes the buffer.
abbrev pub Ended : Model → ℕ → (List ℕ → ℕ → List ℕ) → List ℕ → Result Solution Fault → List ℕ → Type 0
Ended T N text buffer (Ok (solution.Plan n)) after = (p : List ℕ) × Cheapest T p × (n ≡ length (text p (cost T p))) × (after ≡ text p (cost T p) ++ drop n buffer)
Ended T N text buffer (Ok solution.NoPlan) after = ((p : List ℕ) → Plan T T.initial p → ⊥) × (after ≡ buffer)
Ended T N text buffer (Ok solution.Full) after = ((ns : List Node) × MemoryFull T N ns) × (after ≡ buffer)
Ended T N text buffer (Err (Own c)) after = TooShort T text buffer c × (after ≡ buffer)
Ended T N text buffer (Err (Set f)) after = ⊥

-- why a start of a search just opened is refused: no room for a node, a price row of another length, or the estimator's own fault
abbrev pub StartRefused : {E : Type 0} → SetsT E → Model → ℕ → List ℕ → E → Fault → Type 0
StartRefused sets T N row e (Own c) = ((c ≡ cause.Room) × (N ≡ 0)) ⊎ ((c ≡ cause.Row) × (length row ≢ length T.operators))
StartRefused {E} sets T N row e (Set f) = (left : List ℕ) × (e' : E) × sets e T (prices T) 1 (Err f) left e'

-- the same of a whole solving, which a refused start ends
abbrev pub Solved : {E : Type 0} → SetsT E → Model → ℕ → (List ℕ → ℕ → List ℕ) → List ℕ → E → List ℕ → Result Solution Fault → List ℕ → Type 0
Solved sets T N text row e buffer r after = Ended T N text buffer r after ⊎ ((f : Fault) × (r ≡ Err f) × StartRefused sets T N row e f × (after ≡ buffer))
