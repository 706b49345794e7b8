-- Each way out of a set of a layer is one of the four that its relation has.
use Rattle.std.proofs.Common.{◌≡◌, length, take, Err, refl, ap, ◌∙◌, rules}
use Rattle.std.proofs.lemmas.Result.{err_from_is_err_and}
use Rattle.layers.specs.Layer.{first_refuses, second_refuses, takes}
use Rattle.layers.proofs.layer.LayerEstimator.set.Goals as goal

pub returns-in_err-set : goal.returns-in_err-set
returns-in_err-set g c =
    let p = err_from_is_err_and c.from_residual.result c.from_residual.ensures.1 in
    let x = rw c.below.ensures at c.in_err-set.ensures in
    first_refuses _ c.if-not-is_offer.ensures.cases x (p.1 ∙ ap Err p.2) (g.F.Estimator.laws.refuses x).1 (refl {a = c.args.self.now.second}) refl

pub returns-in_err-set_second : goal.returns-in_err-set_second
returns-in_err-set_second g c =
    let p = err_from_is_err_and c.from_residual-in_err-set_second.result c.from_residual-in_err-set_second.ensures.1 in
    let same : length c.set.new.row ≡ length c.args.row.now = search rules in
    let offered = ap (λ n. take n c.keep.new.self.prices) same ∙ c.keep.ensures in
    let second = rw (offered, c.below-2.ensures) at c.in_err-set_second.ensures in
    second_refuses _ c.set.new.row c.if-not-is_offer.ensures.cases
    (rw c.below.ensures at c.in_ok-set.ensures)
    second.was_refused (p.1 ∙ ap Err p.2) second.stands refl

pub returns : goal.returns
returns g c =
    let same : length c.set.new.row ≡ length c.args.row.now = search rules in
    let offered = ap (λ n. take n c.keep.new.self.prices) same ∙ c.keep.ensures in
    let second = rw (offered, c.below-2.ensures) at c.in_ok-set_second.ensures in
    takes c.set.new.row second.two c.if-not-is_offer.ensures.cases
    (rw c.below.ensures at c.in_ok-set.ensures)
    second.was_set refl second.leaves refl
