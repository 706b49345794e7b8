-- A step done n times, by the turns of a loop.
use Rattle.std.proofs.Common.{◌≡◌, ℕ, suc, ◌+◌, ◌-◌, ◌<◌, ◌≤◌, arith}
use Rattle.lines.specs.Reading.{Place, Step, read, and_then, turns}

module _ {B : Type 0} (step : B → Place → Step B) (b : B) (s : Place) (n i : ℕ) where
  pub turns_more : i < n → turns (n - i) step b s ≡ and_then (step b s) (λ b1 s1. turns (n - (i + 1)) step b1 s1)
  unfolding turns
  turns_more h = let e : n - i ≡ suc (n - (i + 1)) = omega arith in rw e

  pub turns-all : n ≤ i → turns (n - i) step b s ≡ read b s
  unfolding turns
  turns-all h = let e : n - i ≡ 0 = omega arith in rw e
