-- The search is of the task that was read, and has all the memory of the workspace.
use Rattle.std.proofs.Common.{◌≤◌, length, inl, inr}
use Rattle.std.proofs.lemmas.List.{length-map}
use Rattle.task.specs.Model.{model}
use Rattle.planner.proofs.Planned.{all_states, not_both, solution_planned}
use Rattle.planner.proofs.plan.plan_in.Goals as goal

pub returns : goal.returns
returns c = λ made.
    let t = c.in_ok-task.task in
    let few : length (model t).domains ≤ 32 = simp length-map t.few in
    let search = made.search in
    let capacity = rw (search.nodes, search.states, search.index, search.waiting, search.places) at c.open-search.ensures.capacity in
    let room = all_states _ _ few capacity in
    elim (c.solve.ensures c.open-search.ensures.fresh) [
      | inl ends ↦ solution_planned c.read.ensures c.in_ok-task.was c.open-search.ensures.task room ends c.in_ok-solve.was
      | inr refused ↦ absurd (not_both c.in_ok-solve.was refused.1)
    ]
