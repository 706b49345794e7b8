-- The operator's own entries decide whether it applies, and make the change.
use Rattle.std.proofs.Common.{◌≡◌, ◌<◌, ◌≤◌, length, get_or, refl, arith, rules, tests}
use lib.ListN.{length-map}
use Rattle.tables.specs.Records.{zero_operator}
use Rattle.task.specs.Model.{model, operator, action, Applies, applied}
use Rattle.task.proofs.Actions.{action-at}
use Rattle.task.proofs.task.Task.apply_to_row.Goals as goal
use Rattle.task.proofs.task.Task.apply_to_row.Goals.{then-not-all_hold-via-then-not-all_hold, then-not-all_hold-via-else-not-all_hold+then-not-all_admit}

pub returns-in_default : goal.returns-in_default
unfolding Applies
returns-in_default c =
    let os = c.args.self.now.operators.now in
    let past : length os ≤ c.args.operator = search (rules, tests) in
    (λ p. let l = length-map os (action c.args.self.now.entries.now) in let a = p.1.0 in omega arith, refl)

pub returns-then-not-all_hold : goal.returns-then-not-all_hold
unfolding Applies
returns-then-not-all_hold c =
    let t = c.args.self.now in
    let i = c.args.operator in
    let own : c.in-Some.record.now ≡ get_or t.operators.now i zero_operator = search rules in
    let same : operator (model t) i ≡ action t.entries.now c.in-Some.record.now = rw own (action-at t.entries.now t.operators.now i (search (rules, tests))) in
    let conditions : c.conditions_in-conditions.result.now ≡ (operator (model t) i).conditions = rw same c.conditions_in-conditions.ensures in
    let effects : c.effects_in-effects.result.now ≡ (operator (model t) i).effects = rw same c.effects_in-effects.ensures in
    elim c.then-not-all_hold.branch [
      | then-not-all_hold-via-then-not-all_hold w ↦ (λ p. w.if-not-all_hold.ensures (rw conditions p.1.1), refl)
      | then-not-all_hold-via-else-not-all_hold+then-not-all_admit w ↦ (λ p. w.if-not-all_admit.ensures (rw effects p.1.2), refl)
    ]

pub returns : goal.returns
unfolding Applies applied
returns c =
    let t = c.args.self.now in
    let i = c.args.operator in
    let own : c.in-Some.record.now ≡ get_or t.operators.now i zero_operator = search rules in
    let inside : i < length t.operators.now = search (rules, tests) in
    let same : operator (model t) i ≡ action t.entries.now c.in-Some.record.now = rw own (action-at t.entries.now t.operators.now i inside) in
    let conditions : c.conditions_in-conditions.result.now ≡ (operator (model t) i).conditions = rw same c.conditions_in-conditions.ensures in
    let effects : c.effects_in-effects.result.now ≡ (operator (model t) i).effects = rw same c.effects_in-effects.ensures in
    let l = length-map t.operators.now (action t.entries.now) in
    let n = length-map t.variables.now (λ v. v.domain) in
    (omega arith, (omega arith, rw conditions at c.if-not-all_hold.ensures, rw effects at c.if-not-all_admit.ensures), rw effects at c.update.ensures)
