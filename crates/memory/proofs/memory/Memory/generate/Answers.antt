-- What each path of a try comes to.
use Rattle.std.proofs.Common.{◌+◌, length, sym, ap, ◌∙◌}
use lib.ListN.{length-map}
use Rattle.std.proofs.lemmas.Result.{err_from_is_err_and}
use Rattle.task.specs.Model.{model}
use Rattle.memory.specs.Rows.{nodes_of, record_at}
use Rattle.memory.proofs.Held.{state-long}
use Rattle.memory.proofs.Tried.{skip-generate, reach-generate, full-generate}
use Rattle.memory.proofs.memory.Memory.generate.Goals as goal

pub returns-then-not-apply_to_row-clause-tried : goal.returns-then-not-apply_to_row-clause-tried
returns-then-not-apply_to_row-clause-tried g c =
    let m = c.args.self.now in
    let t = model c.args.task.now in
    let est = g.E.Estimator.meaning in
    let x = c.args.node in
    let i = c.args.operator in
    let n = c.if-not-apply_to_row.ensures in
    let wide = ap length c.requires.row ∙ state-long m c.requires.consistent x c.requires.inside ∙ c.requires.variables ∙ sym (length-map c.args.task.now.variables.now (λ v. v.domain)) in
    skip-generate est t m.capacity m x i c.requires.inside c.args.row.now c.requires.row c.args.estimator.now (λ a. n.0 (wide, a))

pub returns-in_err-reach-clause-tried : goal.returns-in_err-reach-clause-tried
returns-in_err-reach-clause-tried g c =
    let m = c.args.self.now in
    let t = model c.args.task.now in
    let est = g.E.Estimator.meaning in
    let x = c.args.node in
    let i = c.args.operator in
    let went = c.if-not-apply_to_row.ensures in
    let f = c.in_err-reach.ensures.reached in
    let p = err_from_is_err_and c.from_residual.result c.from_residual.ensures.1 in
    rw (p.1, p.2) (f.0, full-generate est t m.capacity m x i c.requires.inside c.args.row.now c.requires.row c.apply_to_row.new.row went.1 went.2 _ (ap (λ p. (record_at m x).g + p) c.price.ensures.is) f.1 f.2, f.3, f.4)

pub returns-clause-tried : goal.returns-clause-tried
returns-clause-tried g c =
    let m = c.args.self.now in
    let t = model c.args.task.now in
    let est = g.E.Estimator.meaning in
    let x = c.args.node in
    let i = c.args.operator in
    let went = c.if-not-apply_to_row.ensures in
    reach-generate est t m.capacity m x i c.requires.inside c.args.row.now c.requires.row c.apply_to_row.new.row went.1 went.2 ((record_at m x).g + c.price.result) (ap (λ p. (record_at m x).g + p) c.price.ensures.is)
    c.args.estimator.now c.reach.new.estimator (nodes_of c.reach.new.self) c.in_ok-reach.ensures.reached
