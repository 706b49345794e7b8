use Rattle.std.proofs.Common.{◌≡◌, ◌+◌, ◌*◌, ◌^◌, ◌≤◌, true, ◌&&◌, leb, get_or, drop, ◌∙◌, pow-suc, add-one, arith}
use native.Mathlib.Nat.{pow-le-pow_right}
use Rattle.std.proofs.lemmas.List.{at_drop_more, at_drop_all}
use Rattle.std.proofs.lemmas.Bool.Decides.{nat_tests}
use Rattle.lines.specs.Numbers.{all_digits, value_after}
use Rattle.lines.proofs.number.value.Goals as goal

pub overflow_mul-value : goal.overflow_mul-value
overflow_mul-value c =
    let i = c.loop-b.b-index in
    let h : i ≤ 8 = omega arith in
    let k : 10 ^ i ≤ 10 ^ 8 = pow-le-pow_right (omega arith) h in
    omega (arith, c.loop-b.invariant.1)

pub overflow_sub-b : goal.overflow_sub-b
overflow_sub-b c =
    let s = c.args.digits.now in
    let i = c.loop-b.b-index in
    let e : all_digits (drop i s) ≡ ((leb 48 (get_or s i 0) && leb (get_or s i 0) 57) && all_digits (drop (i + 1) s)) = at_drop_more all_digits s i 0 (omega arith) in
    let d = c.loop-b.invariant.2 in
    grind (arith, nat_tests)

pub overflow_add-value : goal.overflow_add-value
overflow_add-value c =
    let i = c.loop-b.b-index in
    let h : i ≤ 8 = omega arith in
    let k : 10 ^ i ≤ 10 ^ 8 = pow-le-pow_right (omega arith) h in
    omega (arith, c.loop-b.invariant.1)

pub loop-b-preserved : goal.loop-b-preserved
loop-b-preserved c =
    let s = c.args.digits.now in
    let i = c.loop-b.b-index in
    let e : all_digits (drop i s) ≡ ((leb 48 (get_or s i 0) && leb (get_or s i 0) 57) && all_digits (drop (i + 1) s)) = at_drop_more all_digits s i 0 (omega arith) in
    let d = c.loop-b.invariant.2 in
    let low : 48 ≤ get_or s i 0 = grind (arith, nat_tests) in
    let high : get_or s i 0 ≤ 57 = grind (arith, nat_tests) in
    let rest : all_digits (drop (i + 1) s) ≡ true = grind (arith, nat_tests) in
    let v = at_drop_more (value_after c.loop-b.value) s i 0 (omega arith) in
    let p : 10 ^ (i + 1) ≡ 10 ^ i * 10 = rw add-one (pow-suc 10 i) in
    (c.loop-b.invariant.0 ∙ (v ∙ rw c.from.ensures), omega (arith, c.loop-b.invariant.1), rest)

pub returns : goal.returns
returns c = c.loop-b.invariant.0 ∙ at_drop_all (value_after c.loop-b.value) c.args.digits.now c.loop-b.b-index (omega arith)
