-- No held price is above the price offered, so each can be taken off.
use Rattle.std.proofs.Common.{◌≡◌, ◌-◌, ◌<◌, ◌≤◌, ◌≢◌, length, get_or, set, sym, ◌∙◌, subst, ⊎_elim, arith, get_or-set_other, get_or-set_same}
use Rattle.std.proofs.lemmas.Bool.{cases_eq}
use Rattle.abstraction.specs.AbstractTasks.{abstract_of}
use Rattle.projection.specs.Distances.{IsHeld}
use Rattle.projection.proofs.Saturation.{held_low}
use Rattle.projection.proofs.saturate.saturate.Goals as goal

pub overflow_sub-price : goal.overflow_sub-price
overflow_sub-price c =
    let r = c.requires.row in
    let t = c.loop-operator-test.true in
    let o = c.loop-operator.operator in
    let h = held_low (abstract_of c.args.abstract_task.now) c.args.row.now c.args.table.now o _ c.requires.settled (c.fill_held.ensures o (omega arith)) in
    let s = c.loop-operator.invariant.0 o (omega arith) in
    omega arith

pub loop-operator-preserved : goal.loop-operator-preserved
loop-operator-preserved c =
    let P = abstract_of c.args.abstract_task.now in
    let t = c.args.table.now in
    let o = c.loop-operator.operator in
    let row = c.loop-operator.row in
    let first = c.args.row.now in
    let r = c.requires.row in
    let k = c.loop-operator.auto.row in
    let test = c.loop-operator-test.true in
    let held = get_or c.fill_held.new.held o 0 in
    let is : IsHeld P t o held = c.fill_held.ensures o (omega arith) in
    let h = held_low P first t o held c.requires.settled is in
    let s = c.loop-operator.invariant.0 o (omega arith) in
    let lt : o < length row = omega arith in
    let new = get_or row o 0 - held in
    let same = get_or-set_same row o new 0 lt in (
      (λ i l. let ne : i ≢ o = omega arith in get_or-set_other row o i new 0 ne ∙ c.loop-operator.invariant.0 i (omega arith)),
      λ i l. ⊎_elim
          (λ (e : i ≡ o). subst (λ z. (get_or (set row o new) z 0 ≤ get_or first z 0) × IsHeld P t z (get_or first z 0 - get_or (set row o new) z 0)) (sym e)
          (omega arith, subst (IsHeld P t o) (omega arith) is))
          (λ (ne : i ≡ o → ⊥). subst (λ z. (z ≤ get_or first i 0) × IsHeld P t i (get_or first i 0 - z)) (sym (get_or-set_other row o i new 0 ne)) (c.loop-operator.invariant.1 i (omega arith)))
          (cases_eq i o),
    )

pub returns : goal.returns
returns c = λ o h. c.loop-operator.invariant.1 o (let t = c.loop-operator-test.false in omega arith)
