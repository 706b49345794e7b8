-- An effect on the variable is the part, and without one the condition on it is.
use Rattle.std.proofs.Common.{sym, ap, ◌∙◌}
use Rattle.abstraction.specs.Parts.{value_on, effect_on}
use Rattle.abstraction.proofs.TaskParts.{part-effect, part-condition}
use Rattle.abstraction.proofs.cut.operator_part.Goals as goal

pub returns-in-Some : goal.returns-in-Some
returns-in-Some c =
    let on = ap (effect_on c.args.variable) (sym c.effects_in.ensures) ∙ sym c.effect_on.ensures in
    part-effect c.args.task.now c.args.operator c.args.variable _ c.requires (on ∙ c.in-Some.is)

pub returns : goal.returns
returns c =
    let on = ap (effect_on c.args.variable) (sym c.effects_in.ensures) ∙ sym c.effect_on.ensures in
    part-condition c.args.task.now c.args.operator c.args.variable c.value_on.result c.requires (on ∙ c.in_default.is) (c.value_on.ensures ∙ ap (value_on c.args.variable) c.conditions_in.ensures)
