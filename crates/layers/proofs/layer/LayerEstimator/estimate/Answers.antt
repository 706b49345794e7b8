-- Each of the two is asked once, and what their answers give by the rule is answered.
use Rattle.layers.specs.Layer.{asks}
use Rattle.layers.proofs.layer.LayerEstimator.estimate.Goals as goal

pub returns : goal.returns
returns g c = asks _ _ c.if-not-self.false c.estimate-first.ensures c.estimate-second.ensures c.joined.ensures c.if-not-self.false
