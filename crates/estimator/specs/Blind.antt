-- The blind estimator, kind 1: it holds 0 for every operator and answers 0.
use Rattle.std.specs.Prelude.{◌≡◌, ℕ, true, false, List, length, replicate, Some, Ok, Err, Option, Result}
use Rattle.task.specs.Model.{Model}
use Rattle.tables.specs.declared.cause.Cause.TheVariants.{Row}
use Rattle.estimator.specs.Price.{Offer}
use Rattle.estimator.specs.Laws.{Meaning}
use Rattle.estimator.specs.declared.fault.SetFault.{SetFault}
use Rattle.estimator.specs.declared.blind.Blind.{Blind}

abbrev pub Unset : Blind → Type 0
Unset s = s.ready ≡ false

-- once it is set it serves every task
abbrev pub Holds : Blind → Model → List ℕ → Type 0
Holds s T held = (s.ready ≡ true) × (held ≡ replicate (length T.operators) 0)

-- a price row is accepted, any other refused; the row stands
pub data Sets (s : Blind) (T : Model) (row : List ℕ) (n : ℕ) (r : Result (Unit {0}) SetFault) (left : List ℕ) (s' : Blind) : Type 0 where
  takes : Offer T row → r ≡ Ok tt → left ≡ row → s'.ready ≡ true → Sets s T row n r left s'
  no_offer : (Offer T row → ⊥) → r ≡ Err (record { cause = Row; kind = 1; layer = n }) → left ≡ row → s'.ready ≡ false → Sets s T row n r left s'

abbrev pub Answers : Blind → Model → List ℕ → Option ℕ → Blind → Type 0
Answers s T row a s' = (a ≡ Some 0) × (s' ≡ s)

abbrev pub blind : Meaning Blind
blind = record { unset = Unset; holds = Holds; sets = Sets; answers = Answers }
