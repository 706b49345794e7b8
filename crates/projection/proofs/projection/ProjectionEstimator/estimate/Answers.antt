-- The answer is the entry at the rank that the weights give the state.
use Rattle.std.proofs.Common.{◌≡◌, get_or, refl, ap, ◌∙◌, arith}
use Rattle.task.specs.Model.{model}
use Rattle.projection.specs.Distances.{distance}
use Rattle.projection.specs.Projection.{rank_in, asks, astray}
use Rattle.projection.proofs.Answering.{served, own-answer}
use Rattle.projection.proofs.projection.ProjectionEstimator.estimate.Goals as goal

pub returns-in_default-rank_in : goal.returns-in_default-rank_in
returns-in_default-rank_in c =
    let s = c.args.self.now in
    let T = model c.args.task.now in
    let st = c.if-not-is_state.ensures in
    let none = c.in_default-rank_in.ensures in
    astray c.in-Some.weights c.in-Some.is st (λ i. none i.known) (λ v. none (served s T c.in-Some.weights c.args.state.now st v).inside.known) refl refl

pub returns-then-rank-self : goal.returns-then-rank-self
returns-then-rank-self c =
    let s = c.args.self.now in
    let T = model c.args.task.now in
    let st = c.if-not-is_state.ensures in
    let r = c.in-Some-rank_in.ensures.1 in
    let far = c.if-rank-self.true in
    astray c.in-Some.weights c.in-Some.is st (λ i. let w = i.within in omega arith) (λ v. let w = (served s T c.in-Some.weights c.args.state.now st v).inside.within in omega arith) refl refl

pub returns : goal.returns
returns c =
    let s = c.args.self.now in
    let T = model c.args.task.now in
    let w = c.in-Some.weights in
    let state = c.args.state.now in
    let st = c.if-not-is_state.ensures in
    let r = c.in-Some-rank_in.ensures in
    let same = r.1 in
    let near = c.if-rank-self.false in
    let is : c.distance.result ≡ distance (get_or s.table.now (rank_in s w state) 0) = c.distance.ensures ∙ ap (λ z. distance (get_or s.table.now z 0)) same in
    asks w c.in-Some.is st (record { known = r.0; within = omega arith }) is (λ v. is ∙ own-answer s T w state st v) refl
