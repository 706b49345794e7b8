-- The operators before the index lead to the row at their cost.
use Rattle.std.proofs.Common.{◌≡◌, ◌-◌, ◌^◌, min, take}
use Rattle.task.specs.Model.{model, IsState, Leads, cost}
use Rattle.task.proofs.task.Task.take_steps.Given as goal

abbrev pub invariant-loop-steps : goal.invariant-loop-steps
invariant-loop-steps l = Leads (model l.self) l.initial.row (take l.steps l.operators) l.row
    × (l.cost ≡ min (cost (model l.self) (take l.steps l.operators)) (2 ^ 32 - 1))
    × (IsState (model l.self) l.initial.row → IsState (model l.self) l.row)
    × ((IsState (model l.self) l.initial.row → ⊥) → l.steps ≡ 0)
