-- That the three pieces make the cost line.
use Rattle.text.proofs.Backs.{prepends-both}
use Rattle.text.proofs.Tail.cost.Goals as goal

pub returns : goal.returns
returns c = prepends-both _ _ _ _ _ (prepends-both _ _ _ _ _ c.put.ensures c.digits.ensures) c.put-2.ensures
