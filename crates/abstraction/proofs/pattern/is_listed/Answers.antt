-- The variables are as many as their numbers of values.
use Rattle.std.proofs.Common.{◌<◌, ◌≤◌, length, MatchBool, true, false, arith, rules}
use borrow.Author.Tests.{tests}
use lib.ListN.{length-map}
use Rattle.std.proofs.lemmas.Iterator.{YieldsList-from_slice, cases_from_all}
use Rattle.std.specs.List.{AllWithin, HoldsAt}
use Rattle.task.specs.Model.{model}
use Rattle.abstraction.specs.Patterns.{Listed}
use Rattle.abstraction.proofs.pattern.is_listed.Goals as goal

pub returns : goal.returns
returns c =
    let P = c.args.pattern.now in
    let T = model c.args.task.now in
    let n = length c.args.task.now.variables.now in
    let l = length-map c.args.task.now.variables.now (λ v. v.domain) in
    let ran = cases_from_all _ _ c.all.result (λ x. x < n) (λ x. n ≤ x) c.all.ensures.ran (YieldsList-from_slice P cc) (λ x q k. search (rules, tests)) (λ x q k. search (rules, tests)) in
    elim c.all.result as (λ b. MatchBool b (AllWithin (λ x. x < n) P 0 (length P)) ((k : _) × (k < length P) × HoldsAt (λ x. n ≤ x) P k) → MatchBool b (Listed T P) (Listed T P → ⊥)) [
      | true ↦ λ h i m. let w = h i 0 (omega arith) m in omega arith
      | false ↦ λ h all. let w = h.2 0 in let v = all h.0 h.1 in omega arith
    ] ran
