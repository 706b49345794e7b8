-- It is unset, and the definitions that its calls keep to have one meaning and give the worked example's numbers.
use Rattle.std.proofs.Common.{refl}
use Rattle.projection.proofs.Settling.{one-meaning}
use Rattle.projection.proofs.Example.{sofa-numbers}
use Rattle.projection.proofs.projection.Projection.new.Goals as goal

pub returns : goal.returns
returns c = record { unset = refl; pattern = refl; table = refl; entries = refl; places = refl; meaning = one-meaning; example = sofa-numbers }
