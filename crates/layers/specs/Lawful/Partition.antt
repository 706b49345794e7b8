-- The terms of the partition keep their laws.
use Rattle.std.specs.Prelude.{◌≡◌, ℕ, ◌+◌, ◌≤◌, min, List, [], ◌∷◌, length, refl}
use Rattle.std.proofs.Common.{sym, ◌∙◌, arith}
use Rattle.task.specs.Model.{Cost}
use Rattle.estimator.specs.Price.{Shares, joined}
use Rattle.estimator.specs.Lawful.Rows.{length-joined, get_or-joined}
use Rattle.layers.specs.Terms.{TermsLaws}
use Rattle.layers.specs.Partition.{sum}

-- the sum of two price rows, operator by operator
abbrev pub sums : List ℕ → List ℕ → List ℕ
sums = joined (λ x y. x + y)

shares-law : (row one two first second : List ℕ) → Shares row first one → Shares one second two → Shares row (sums first second) two
shares-law row one two first second a b =
    let held : length first ≡ length second = a.long_held ∙ sym (b.long_held ∙ a.long_left) in
    record {
      long_held = length-joined (λ x y. x + y) first second held ∙ a.long_held;
      long_left = b.long_left ∙ a.long_left;
      each = λ k.
          let x = a.each k in
          let y = b.each k in
          let h = get_or-joined (λ x y. x + y) refl first second held k in
          omega arith;
    }

-- what a plan costs at the sum of two price rows
pub cost-sum : (first second p : List ℕ) → length first ≡ length second → Cost (sums first second) p ≡ Cost first p + Cost second p
cost-sum first second [] e = refl
cost-sum first second (o ∷ p) e = let h = get_or-joined (λ x y. x + y) refl first second e o in let i = cost-sum first second p e in omega arith

bounds-law : (first second p : List ℕ) (m n : ℕ) → length first ≡ length second → m ≤ Cost first p → n ≤ Cost second p → min (m + n) 4294967295 ≤ Cost (sums first second) p
bounds-law first second p m n e x y = let c = cost-sum first second p e in omega arith

pub sum-laws : TermsLaws sum
sum-laws = record { shares = shares-law; bounds = bounds-law; idle = refl }
