-- The goal names no variable twice, so the first fact on it is all that the goal says of it.
use Rattle.std.proofs.Common.{sym, subst}
use Rattle.task.specs.Model.{Admits}
use Rattle.abstraction.proofs.Parts.{value-needed, value-enough}
use Rattle.abstraction.proofs.cut.goal_part.Goals as goal

pub returns : goal.returns
returns c =
    let v = c.args.variable in
    let goal = c.args.task.now.goal.now in
    record {
      needed = λ x h. subst (Admits x) (sym c.value_on.ensures) (value-needed v x goal h);
      enough = λ x h. value-enough v x goal c.args.task.now.goal_distinct (subst (Admits x) c.value_on.ensures h);
    }
