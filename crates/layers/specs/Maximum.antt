-- The maximum of two estimators, kind 3: both are offered the same row, the lesser of the prices they leave is left, and the greater of their prices is held and the greater of their answers answered.
use Rattle.std.specs.Prelude.{ℕ, min, max, List}
use Rattle.estimator.specs.Price.{joined}
use Rattle.estimator.specs.Laws.{Meaning}
use Rattle.layers.specs.Terms.{Terms}
use Rattle.layers.specs.Layer.{layer}
use Rattle.layers.specs.declared.layer.Layer.{Layer}

-- the lesser of two price rows, operator by operator
abbrev pub mins : List ℕ → List ℕ → List ℕ
mins = joined min

abbrev pub greater : Terms
greater = record { passed = λ row one. row; left = mins; price = max; answer = max }

-- what a maximum of two estimators means
abbrev pub maximum : {R F G : Type 0} → Meaning F → Meaning G → Meaning (Layer R F G)
maximum f g = layer 3 greater f g
