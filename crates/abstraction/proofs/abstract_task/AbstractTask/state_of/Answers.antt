-- Each digit is the quotient by the weight of its place, and what is left is the rank of the later places.
use Rattle.std.proofs.Common.{◌≡◌, ℕ, ◌+◌, ◌/◌, ◌%◌, ◌<◌, length, get_or, take, drop, set, Fits, w8, sym, ◌∙◌, subst, arith, length-set, length-take, get_or-take}
use Rattle.abstraction.specs.declared.place.Place.{Place}
use Rattle.abstraction.specs.Standing.{unused}
use Rattle.abstraction.specs.Ranks.{product}
use Rattle.abstraction.specs.AbstractTasks.{abstract_of}
use Rattle.abstraction.proofs.Made.{below_set}
use Rattle.abstraction.proofs.Places.{places, domain-low, digit-of}
use Rattle.abstraction.proofs.Ranks.{lead, lead-same, rank-lead, product-end, digit-written}
use Rattle.abstraction.proofs.abstract_task.AbstractTask.state_of.Goals as goal

pub overflow_cast-state : goal.overflow_cast-state
overflow_cast-state c =
    let A = c.args.self.now in
    let n = length A.pattern.now in
    let i = c.loop-index.index in
    let test = c.loop-index-test.true in
    let h : i < n = omega (arith, length-take n A.places) in
    let d = (digit-of A i c.loop-index.rest h c.loop-index.invariant.2).low in
    let l = domain-low A i h in
    subst (λ (z : Place). Fits w8 (c.loop-index.rest / z.weight)) (sym (get_or-take n A.places i unused h)) (omega arith)

pub loop-index-preserved : goal.loop-index-preserved
loop-index-preserved c =
    let A = c.args.self.now in
    let n = length A.pattern.now in
    let ds = (abstract_of A).domains in
    let i = c.loop-index.index in
    let rest = c.loop-index.rest in
    let xs = c.loop-index.state in
    let long = c.loop-index.invariant.0 in
    let few = A.stands.pattern.few in
    let test = c.loop-index-test.true in
    let h : i < n = omega (arith, length-take n A.places) in
    let w = (get_or A.places i unused).weight in
    let d = digit-of A i rest h c.loop-index.invariant.2 in
    let r = digit-written ds xs i rest c.args.rank w (omega arith) (A.stands.places i h).weight d.some c.loop-index.invariant.1 in
    let Kept : ℕ → Type 0 = λ w. (length (set xs i (rest / w)) ≡ 8) × (lead ds (set xs i (rest / w)) (i + 1) + rest % w ≡ c.args.rank) × (rest % w < product (drop (i + 1) ds))
    × ((k : ℕ) → k < i + 1 → get_or (set xs i (rest / w)) k 0 < get_or ds k 0) in
    subst (λ (z : Place). Kept z.weight) (sym (get_or-take n A.places i unused h)) (
      length-set xs i (rest / w) ∙ long,
      r.0,
      r.1,
      below_set (λ k x. x < get_or ds k 0) xs i (rest / w) 0 (omega arith) c.loop-index.invariant.3 d.low,
    )

pub returns : goal.returns
returns c =
    let A = c.args.self.now in
    let ds = (abstract_of A).domains in
    let n = length A.pattern.now in
    let few = A.stands.pattern.few in
    let long = places A in
    let xs = c.loop-index.state in
    let i = c.loop-index.index in
    let cut = length-take n xs in
    let shown = length-take n A.places in
    let eight = A.stands.long_places in
    let i8 = c.loop-index.invariant.0 in
    let end = c.loop-index-test.false in
    let so-far = c.loop-index.auto.index-end in
    let last : i ≡ n = omega arith in
    let sum = c.loop-index.invariant.1 in
    let low = c.loop-index.invariant.2 in
    let one = product-end ds i (omega arith) in
    let lead-take = lead-same ds (take n xs) xs i (λ k h. get_or-take n xs k 0 (omega arith)) in
    let whole = rank-lead ds (take n xs) i (omega arith) (omega arith) in
    record {
      state = record {
        long = omega arith;
        within = λ i h. subst (λ z. z < get_or ds i 0) (sym (get_or-take n xs i 0 (omega arith))) (c.loop-index.invariant.3 i (omega arith));
      };
      ranked = (omega arith);
    }
