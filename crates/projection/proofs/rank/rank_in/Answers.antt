-- Eight values below 256 times weights of 32 bits stay below 2^64.
use Rattle.std.proofs.Common.{◌≡◌, ℕ, ◌+◌, ◌*◌, ◌<◌, ◌≤◌, length, get_or, [], ◌∷◌, ◌++◌, sym, ap, ◌∙◌, subst, ap₂, mul-le-mul_right, mul-le-mul_left, add-one, arith, rules, w8, w32, Fits, below_more}
use Rattle.std.proofs.lemmas.List.{length-append}
use Rattle.std.proofs.lemmas.Slice.Zip.{zip_turn, zip_end}
use Rattle.projection.specs.Projection.{weighed}
use Rattle.projection.proofs.rank.rank_in.Goals as goal

term : (a b : ℕ) → Fits w8 a → Fits w32 b → a * b ≤ 1095216660225
term a b h l =
    let x : b ≤ 4294967295 = omega arith in
    let y : a ≤ 255 = omega arith in
    let p = mul-le-mul_left a x in
    let q = mul-le-mul_right 4294967295 y in
    omega arith

pub overflow_add-rank : goal.overflow_add-rank
overflow_add-rank c =
    let i = length c.loop-variable.yielded in
    let state = c.args.state.now in
    let turn = zip_turn c.args.pattern.now c.args.weights.now c.loop-variable.yielded c.into_iter-variable-iterator.result c.loop-variable.variable-iterator c.next.new.self c.next.result (search rules) (search rules) c.loop-variable.yielded_by _ c.in-Some.is c.next.ensures.steps in
    let variable = turn.2 0 in
    let weight = turn.3 0 in
    let value : c.from-in-loop-variable.result ≡ get_or state (get_or c.args.pattern.now i 0) 0 = search rules in
    let s = c.type_inv.state (get_or c.args.pattern.now i 0) in
    let w = c.type_inv.weights i in
    let m = term _ _ s w in
    let by = c.from-in-loop-variable-2.ensures ∙ weight in
    let product : c.from-in-loop-variable.result * c.from-in-loop-variable-2.result ≡ get_or state (get_or c.args.pattern.now i 0) 0 * get_or c.args.weights.now i 0 = ap₂ (λ a b. a * b) value by in
    let r = c.loop-variable.invariant.3 in
    let few = c.if-pattern-gt8.false in
    omega (arith, turn.0)

pub loop-variable-preserved : goal.loop-variable-preserved
loop-variable-preserved c =
    let i = length c.loop-variable.yielded in
    let P = c.args.pattern.now in
    let state = c.args.state.now in
    let weights = c.args.weights.now in
    let turn = zip_turn c.args.pattern.now c.args.weights.now c.loop-variable.yielded c.into_iter-variable-iterator.result c.loop-variable.variable-iterator c.next.new.self c.next.result (search rules) (search rules) c.loop-variable.yielded_by _ c.in-Some.is c.next.ensures.steps in
    let variable = turn.2 0 in
    let weight = turn.3 0 in
    let value : c.from-in-loop-variable.result ≡ get_or state (get_or P i 0) 0 = search rules in
    let inside : get_or P i 0 < length state = search rules in
    let s = c.type_inv.state (get_or P i 0) in
    let w = c.type_inv.weights i in
    let m = term _ _ s w in
    let by = c.from-in-loop-variable-2.ensures ∙ weight in
    let product : c.from-in-loop-variable.result * c.from-in-loop-variable-2.result ≡ get_or state (get_or P i 0) 0 * get_or weights i 0 = ap₂ (λ a b. a * b) value by in
    let r = c.loop-variable.invariant.3 in
    let e = c.loop-variable.invariant.2 in
    let more : i + 1 ≡ length (c.loop-variable.yielded ++ (c.in-Some.field-0-0, c.in-Some.field-0-1) ∷ []) = sym (length-append _ _) in
    let sum : weighed P weights state (i + 1) ≡ weighed P weights state i + get_or state (get_or P i 0) 0 * get_or weights i 0 = ap (weighed P weights state) (add-one i) in
    let rank = c.loop-variable.rank + c.from-in-loop-variable.result * c.from-in-loop-variable-2.result in (
      c.loop-variable.invariant.0,
      c.loop-variable.invariant.1,
      subst (λ z. rank ≡ weighed P weights state z) more (omega arith),
      subst (λ z. rank ≤ z * 1095216660225) more (omega arith),
      subst (λ z. (k : ℕ) → k < z → get_or P k 0 < length state) more (below_more (λ k. get_or P k 0 < length state) i c.loop-variable.invariant.4 inside),
    )

pub returns : goal.returns
returns c =
    let few = c.if-pattern-gt8.false in
    let n = length c.loop-variable.yielded in
    let end = zip_end c.args.pattern.now c.args.weights.now c.loop-variable.yielded c.into_iter-variable-iterator.result c.loop-variable.variable-iterator c.next.new.self c.next.result (search rules) (search rules) c.loop-variable.yielded_by c.in-None.is c.next.ensures.steps in
    let eight = c.requires in
    let last : n ≡ length c.args.pattern.now = omega arith in (
      record { few = few; each = λ i h. c.loop-variable.invariant.4 i (omega arith) },
      c.loop-variable.invariant.2 ∙ ap (weighed c.args.pattern.now c.args.weights.now c.args.state.now) last,
    )
