-- What was set and then asked is a bound by the laws.
use Rattle.estimator.proofs.Bounds.{bound-by-laws}
use Rattle.estimator.proofs.bound.lower_bound.Goals as goal

pub returns : goal.returns
returns g c = bound-by-laws g.E.Estimator.laws c.in_ok-set.ensures c.estimate.ensures
