-- Each operator is what the call for its number gave, and past the last nothing is asked but eight parts.
use Rattle.std.proofs.Common.{◌≡◌, ◌<◌, length, get_or, set, ap, ◌∙◌, sym, subst, ⊎_elim, arith, get_or-set_other, get_or-set_same}
use Rattle.std.proofs.lemmas.List.{length-set}
use Rattle.std.proofs.lemmas.Bool.{cases_lt, cases_eq}
use Rattle.abstraction.specs.declared.part.AbstractOperator.{AbstractOperator}
use Rattle.abstraction.specs.Standing.{no_operator}
use Rattle.abstraction.specs.Filling.{OperatorAt}
use Rattle.abstraction.proofs.Made.{below_set}
use Rattle.abstraction.proofs.fill.fill_operators.Goals as goal

pub loop-operator-init : goal.loop-operator-init
loop-operator-init c = (c.requires.room, (λ o l. absurd (omega arith)), c.requires.long)

pub loop-operator-preserved : goal.loop-operator-preserved
loop-operator-preserved c =
    let i = c.loop-operator.invariant in
    let os = c.loop-operator.operators in
    let k = c.loop-operator.operator in
    let y = c.abstract_operator.result in
    let inside : k < length os = omega (arith, i.0, c.loop-operator-test.true, c.args.task.now.listed) in (
      length-set os k y ∙ i.0,
      below_set (OperatorAt c.args.task.now c.args.pattern.now) os k y no_operator inside i.1 c.abstract_operator.ensures,
      λ o l. ⊎_elim
          (λ (same : o ≡ k). subst (λ z. length (get_or (set os k y) z no_operator).parts ≡ 8) (sym same) (ap (λ (z : AbstractOperator). length z.parts) (get_or-set_same os k y no_operator inside) ∙ c.abstract_operator.ensures.long))
          (λ other. ap (λ (z : AbstractOperator). length z.parts) (get_or-set_other os k o y no_operator other) ∙ i.2 o l)
          (cases_eq o k),
    )

pub returns-clause-room : goal.returns-clause-room
returns-clause-room c = c.loop-operator.invariant.0

pub returns-clause-operators : goal.returns-clause-operators
returns-clause-operators c = λ o l. ⊎_elim
    (λ here. c.loop-operator.invariant.1 o (omega arith))
    (λ past. record { long = c.loop-operator.invariant.2 o l; parts = λ i h. record { is = λ in_task in_pattern. absurd (omega arith) } })
    (cases_lt o (length c.args.task.now.operators.now))
