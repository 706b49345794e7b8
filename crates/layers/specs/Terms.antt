-- The terms on which a layer puts two estimators together, and what they owe so that a layer keeps the laws of estimators.
use Rattle.std.specs.Prelude.{◌≡◌, ℕ, ◌≤◌, List, length, Ok, Err}
use Rattle.task.specs.Model.{Model, Cost}
use Rattle.estimator.specs.Price.{Shares, joined}
use Rattle.estimator.specs.Laws.{Meaning}
use Rattle.estimator.specs.declared.fault.SetFault.{SetFault}

pub record Terms : Type 0 where
  -- what the second is offered, of the row offered and the row that the first leaves
  pub passed : List ℕ → List ℕ → List ℕ
  -- what is left, of the rows that the two leave
  pub left : List ℕ → List ℕ → List ℕ
  -- the price held, of the prices that the two hold for an operator
  pub price : ℕ → ℕ → ℕ
  -- the number answered, of the numbers that the two answer
  pub answer : ℕ → ℕ → ℕ

pub record TermsLaws (t : Terms) : Type 0 where
  -- where each of the two takes its part out of what it is offered, the prices held and left add up to those offered
  pub shares : (row one two first second : List ℕ) → Shares row first one → Shares (t.passed row one) second two → Shares row (joined t.price first second) (t.left one two)
  -- no plan costs less than is answered, at the prices held, where none costs less than the two answer at theirs
  pub bounds : (first second p : List ℕ) (m n : ℕ) → length first ≡ length second → m ≤ Cost first p → n ≤ Cost second p → t.answer m n ≤ Cost (joined t.price first second) p
  -- two answers of 0 give 0
  pub idle : t.answer 0 0 ≡ 0

-- the second was set on what is passed to it of the row offered to the layer and of the row that the first left
pub record SecondTakes {G : Type 0} (t : Terms) (g : Meaning G) (entry : G) (T : Model) (row one : List ℕ) (n : ℕ) (left : List ℕ) (exit : G) : Type 0 where
  pub two : List ℕ
  pub was_set : g.sets entry T (t.passed row one) n (Ok tt) two exit
  pub leaves : left ≡ t.left one two

-- the second refused with this fault, and the row is that offered to the layer
pub record SecondRefuses {G : Type 0} (t : Terms) (g : Meaning G) (entry : G) (T : Model) (row one : List ℕ) (n : ℕ) (fault : SetFault) (left : List ℕ) (exit : G) : Type 0 where
  pub was_refused : g.sets entry T (t.passed row one) n (Err fault) (t.passed row one) exit
  pub stands : left ≡ row
