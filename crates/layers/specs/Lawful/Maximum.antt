-- The terms of the maximum keep their laws.
use Rattle.std.specs.Prelude.{◌≡◌, ℕ, ◌≤◌, min, max, List, length, refl}
use Rattle.std.proofs.Common.{sym, ◌∙◌, arith}
use Rattle.task.specs.Model.{Model, Cost}
use Rattle.estimator.specs.Price.{Offer, Shares, joined}
use Rattle.estimator.specs.Lawful.Rows.{length-joined, get_or-joined, cost-le}
use Rattle.layers.specs.Terms.{TermsLaws}
use Rattle.layers.specs.Maximum.{mins, greater}

-- the greater of two price rows is a price row
pub offer-max : (T : Model) (first second : List ℕ) → Offer T first → Offer T second → Offer T (joined max first second)
offer-max T first second a b =
    let level : length first ≡ length second = a.long ∙ sym b.long in
    let long : length (joined max first second) ≡ length first = length-joined max first second level in
    record {
      long = long ∙ a.long;
      low = λ k i.
          let h = get_or-joined max refl first second level k in
          let x = a.low k (omega arith) in
          let y = b.low k (omega arith) in
          omega arith;
    }

shares-law : (row one two first second : List ℕ) → Shares row first one → Shares row second two → Shares row (joined max first second) (mins one two)
shares-law row one two first second a b =
    let held : length first ≡ length second = a.long_held ∙ sym b.long_held in
    let over : length one ≡ length two = a.long_left ∙ sym b.long_left in
    record {
      long_held = length-joined max first second held ∙ a.long_held;
      long_left = length-joined min one two over ∙ a.long_left;
      each = λ k.
          let x = a.each k in
          let y = b.each k in
          let h = get_or-joined max refl first second held k in
          let m = get_or-joined min refl one two over k in
          omega arith;
    }

bounds-law : (first second p : List ℕ) (m n : ℕ) → length first ≡ length second → m ≤ Cost first p → n ≤ Cost second p → max m n ≤ Cost (joined max first second) p
bounds-law first second p m n e x y =
    let f : Cost first p ≤ Cost (joined max first second) p = cost-le _ _ p (λ k. let h = get_or-joined max refl first second e k in omega arith) in
    let g : Cost second p ≤ Cost (joined max first second) p = cost-le _ _ p (λ k. let h = get_or-joined max refl first second e k in omega arith) in
    omega arith

pub greater-laws : TermsLaws greater
greater-laws = record { shares = shares-law; bounds = bounds-law; idle = refl }
