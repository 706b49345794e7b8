-- A leaf that takes every price it is offered or refuses every set with TABLE, and answers 0.
use Rattle.std.specs.Prelude.{◌≡◌, ℕ, true, false, List, length, replicate, Some, Ok, Err, Option, Result}
use Rattle.task.specs.Model.{Model}
use Rattle.tables.specs.declared.cause.Cause.TheVariants.{Row, Table}
use Rattle.estimator.specs.Price.{Offer}
use Rattle.estimator.specs.Laws.{Meaning}
use Rattle.estimator.specs.declared.fault.SetFault.{SetFault}
use Rattle.layers_tests.specs.declared.leaf.Leaf.{Leaf}

abbrev pub Unset : Leaf → Type 0
Unset s = s.ready ≡ false

-- 0 is admissible at any prices
abbrev pub Holds : Leaf → Model → List ℕ → Type 0
Holds s T held = (s.ready ≡ true) × Offer T held

pub data Sets (s : Leaf) (T : Model) (row : List ℕ) (n : ℕ) (r : Result (Unit {0}) SetFault) (left : List ℕ) (s' : Leaf) : Type 0 where
  no_offer : (Offer T row → ⊥) → r ≡ Err (record { cause = Row; kind = 9; layer = n }) → left ≡ row → s' ≡ record { refuses = s.refuses; ready = false } → Sets s T row n r left s'
  stubborn : Offer T row → s.refuses ≡ true → r ≡ Err (record { cause = Table; kind = 9; layer = n }) → left ≡ row → s' ≡ record { refuses = s.refuses; ready = false } → Sets s T row n r left s'
  takes : Offer T row → s.refuses ≡ false → r ≡ Ok tt → left ≡ replicate (length row) 0 → s' ≡ record { refuses = s.refuses; ready = true } → Sets s T row n r left s'

abbrev pub Answers : Leaf → Model → List ℕ → Option ℕ → Leaf → Type 0
Answers s T row a s' = (a ≡ Some 0) × (s' ≡ s)

abbrev pub leaf : Meaning Leaf
leaf = record { unset = Unset; holds = Holds; sets = Sets; answers = Answers }
