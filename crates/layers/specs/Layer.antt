-- A layer over two estimators, on the terms of a rule.
use Rattle.std.specs.Prelude.{◌≡◌, ℕ, true, false, List, Some, None, Ok, Err, Option, Result}
use Rattle.task.specs.Model.{Model}
use Rattle.tables.specs.declared.cause.Cause.TheVariants.{Row}
use Rattle.estimator.specs.Laws.{Meaning}
use Rattle.estimator.specs.Price.{Offer, joined}
use Rattle.estimator.specs.declared.fault.SetFault.{SetFault}
use Rattle.layers.specs.Below.{below}
use Rattle.layers.specs.Terms.{Terms}
use Rattle.layers.specs.declared.layer.Layer.{Layer}

abbrev pub Unset : {R F G : Type 0} → Layer R F G → Type 0
Unset s = s.ready ≡ false

-- both are set on the task, and the prices that they hold, taken together, are held, a price row; so it is spoilt as soon as one of them is
pub record Holds {R F G : Type 0} (t : Terms) (f : Meaning F) (g : Meaning G) (s : Layer R F G) (T : Model) (held : List ℕ) : Type 0 where
  pub ready : s.ready ≡ true
  pub first : List ℕ
  pub second : List ℕ
  pub by_first : f.holds s.first T first
  pub by_second : g.holds s.second T second
  pub is : held ≡ joined t.price first second
  pub priced : Offer T held

-- a row that is no price row is refused before either is set; else the first is set at layer 2n, then, if it accepts,
-- the second at layer 2n + 1; the fault of the one that refuses is passed on; what the price table holds is free
pub data Sets {R F G : Type 0} (kind : ℕ) (t : Terms) (f : Meaning F) (g : Meaning G) (s : Layer R F G) (T : Model) (row : List ℕ) (n : ℕ) (r : Result (Unit {0}) SetFault) (left : List ℕ) (s' : Layer R F G) : Type 0 where
  no_offer : (Offer T row → ⊥) → r ≡ Err (record { cause = Row; kind = kind; layer = n }) → left ≡ row
      → s'.first ≡ s.first → s'.second ≡ s.second → s'.ready ≡ false → Sets kind t f g s T row n r left s'
  first_refuses : (fault : SetFault) → Offer T row → f.sets s.first T row (below n 0) (Err fault) left s'.first → r ≡ Err fault → left ≡ row
      → s'.second ≡ s.second → s'.ready ≡ false → Sets kind t f g s T row n r left s'
  second_refuses : (fault : SetFault) (one : List ℕ) → Offer T row → f.sets s.first T row (below n 0) (Ok tt) one s'.first
      → g.sets s.second T (t.passed row one) (below n 1) (Err fault) (t.passed row one) s'.second → r ≡ Err fault → left ≡ row → s'.ready ≡ false → Sets kind t f g s T row n r left s'
  takes : (one two : List ℕ) → Offer T row → f.sets s.first T row (below n 0) (Ok tt) one s'.first
      → g.sets s.second T (t.passed row one) (below n 1) (Ok tt) two s'.second → r ≡ Ok tt → left ≡ t.left one two → s'.ready ≡ true → Sets kind t f g s T row n r left s'

-- two answers taken together, absent where either is
abbrev pub both : (ℕ → ℕ → ℕ) → Option ℕ → Option ℕ → Option ℕ
both f None b = None
both f (Some a) None = None
both f (Some a) (Some b) = Some (f a b)

-- an unset one answers 0 and asks neither; any other asks each of the two once
pub data Answers {R F G : Type 0} (t : Terms) (f : Meaning F) (g : Meaning G) (s : Layer R F G) (T : Model) (state : List ℕ) (a : Option ℕ) (s' : Layer R F G) : Type 0 where
  idle : s.ready ≡ false → a ≡ Some 0 → s' ≡ s → Answers t f g s T state a s'
  asks : (one two : Option ℕ) → s.ready ≡ true → f.answers s.first T state one s'.first → g.answers s.second T state two s'.second
      → a ≡ both t.answer one two → s'.ready ≡ true → Answers t f g s T state a s'

abbrev pub layer : {R F G : Type 0} → ℕ → Terms → Meaning F → Meaning G → Meaning (Layer R F G)
layer kind t f g = record { unset = Unset; holds = Holds t f g; sets = Sets kind t f g; answers = Answers t f g }
