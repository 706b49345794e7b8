-- The goal facts are tested in a row of one byte a variable.
use Rattle.std.proofs.Common.{Bool, true, false, MatchBool, sym, ◌∙◌}
use lib.ListN.{length-map}
use Rattle.task.specs.Model.{IsGoal}
use Rattle.task.proofs.task.Task.has_goal.Goals as goal

-- a test whose first part holds is its second part
with_first : (A B : Type 0) (r : Bool) → A → MatchBool r B (B → ⊥) → MatchBool r (A × B) (A × B → ⊥)
with_first A B true a h = (a, h)
with_first A B false a h = λ p. h p.1

pub returns-then-row-self : goal.returns-then-row-self
unfolding IsGoal
returns-then-row-self c =
    let e = c.if-row-self.true ∙ sym (length-map c.args.self.now.variables.now (λ v. v.domain)) in
    with_first _ _ c.all_hold.result e c.all_hold.ensures
