-- That there is room for each line.
use Rattle.std.proofs.Common.{◌+◌, ◌++◌, ◌≤◌, length, sym, ap, ◌∙◌, subst}
use Rattle.task.specs.Names.{operator_name}
use Rattle.memory.proofs.Lining.{room-more}
use Rattle.memory.proofs.memory.Memory.lines_back.Goals as goal

pub line-requires : goal.line-requires
line-requires c =
    let v = c.loop-operator.invariant in
    let w = v.2 in
    let step = ap (λ z. c.loop-operator.yielded ++ z) (sym c.in-Some.ensures.steps) ∙ w.2 in
    subst (λ z. length z + 3 ≤ c.loop-operator.tail.at) (sym c.name_of.ensures) (room-more (operator_name c.args.task.now) c.loop-operator.yielded _ w.0 c.in-Some.operator c.loop-operator.tail.at c.args.tail.now.at step (c.requires.fits w.0 w.1) v.3.at)
