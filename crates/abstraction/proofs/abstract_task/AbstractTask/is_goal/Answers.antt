-- Each place has the goal's value.
use Rattle.std.proofs.Common.{ℕ, ◌<◌, length, MatchBool, true, false, subst, arith, rules}
use borrow.Author.Tests.{tests}
use Rattle.std.specs.List.{AllWithin, HoldsAt, zip}
use Rattle.std.proofs.lemmas.Iterator.{YieldsList-from_slice, YieldsList-from_zip, cases_from_all}
use Rattle.std.proofs.lemmas.Slice.Zip.{length-zip, get_or-zip}
use Rattle.task.specs.Model.{Admits, IsGoal}
use Rattle.abstraction.specs.declared.place.Place.{Place}
use Rattle.abstraction.specs.Standing.{unused}
use Rattle.abstraction.specs.AbstractTasks.{abstract_of}
use Rattle.abstraction.proofs.Places.{places, goal-each, goal-at}
use Rattle.abstraction.proofs.abstract_task.AbstractTask.is_goal.Goals as goal

pub returns : goal.returns
returns c =
    let A = c.args.self.now in
    let s = c.args.state.now in
    let pairs = zip A.places s in
    let n = places A in
    let l = c.requires.long in
    let few = A.stands.pattern.few in
    let eight = A.stands.long_places in
    let long = length-zip A.places s in
    let Yes : Place × ℕ → Type 0 = λ p. Admits p.1 p.0.goal in
    let No : Place × ℕ → Type 0 = λ p. Admits p.1 p.0.goal → ⊥ in
    let ran = cases_from_all c.all.new.self _ c.all.result Yes No c.all.ensures.ran (YieldsList-from_zip (YieldsList-from_slice A.places cc) (YieldsList-from_slice s cc)) (λ x q k. search (rules, tests)) (λ x q k. search (rules, tests)) in
    elim c.all.result as (λ b. MatchBool b (AllWithin Yes pairs 0 (length pairs)) ((k : ℕ) × (k < length pairs) × HoldsAt No pairs k) → MatchBool b (IsGoal (abstract_of A) s) (IsGoal (abstract_of A) s → ⊥)) [
      | true ↦ λ h. goal-each A s (λ i m. subst Yes (get_or-zip A.places s i (unused, 0) (omega arith) (omega arith)) (h i (unused, 0) (omega arith) (omega arith)))
      | false ↦ λ h g. subst No (get_or-zip A.places s h.0 (unused, 0) (let k = h.1 in omega arith) (let k = h.1 in omega arith)) (h.2 (unused, 0)) (goal-at A s h.0 (let k = h.1 in omega arith) g)
    ] ran
