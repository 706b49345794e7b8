-- Each turn makes the first effect that is left; none is left at the end.
use Rattle.std.proofs.Common.{◌<◌, ◌≤◌, length, sym, ap, ◌∙◌, add-one, arith, drop_of_length-le, drop-cons}
use Rattle.tables.specs.Records.{zero_entry}
use Rattle.task.specs.Model.{updated}
use Rattle.task.proofs.apply.update.Goals as goal

pub loop-effect-preserved : goal.loop-effect-preserved
loop-effect-preserved c =
    let h : c.loop-effect.effect-index < length c.args.effects.now = omega arith in
    rw add-one (sym (ap (λ z. updated c.loop-effect.row z) (drop-cons c.args.effects.now c.loop-effect.effect-index zero_entry h)) ∙ c.loop-effect.invariant)

pub returns : goal.returns
returns c =
    let h : length c.args.effects.now ≤ c.loop-effect.effect-index = omega arith in
    sym (ap (λ z. updated c.loop-effect.row z) (drop_of_length-le c.args.effects.now h)) ∙ c.loop-effect.invariant
