-- The effects that are left lead to the same row.
use Rattle.std.proofs.Common.{◌≡◌, drop}
use Rattle.task.specs.Model.{updated}
use Rattle.task.proofs.apply.update.Given as goal

abbrev pub invariant-loop-effect : goal.invariant-loop-effect
invariant-loop-effect l = updated l.row (drop l.effect-index l.effects) ≡ updated l.initial.row l.effects
