-- The partition of two estimators, kind 4: the second is offered what the first leaves and what it leaves is left, and the sum of their prices is held and the sum of their answers, cut at 4,294,967,295, answered.
use Rattle.std.specs.Prelude.{◌+◌, min}
use Rattle.estimator.specs.Laws.{Meaning}
use Rattle.layers.specs.Terms.{Terms}
use Rattle.layers.specs.Layer.{layer}
use Rattle.layers.specs.declared.layer.Layer.{Layer}

abbrev pub sum : Terms
sum = record { passed = λ row one. one; left = λ one two. two; price = λ x y. x + y; answer = λ a b. min (a + b) 4294967295 }

-- what a partition of two estimators means
abbrev pub partition : {R F G : Type 0} → Meaning F → Meaning G → Meaning (Layer R F G)
partition f g = layer 4 sum f g
