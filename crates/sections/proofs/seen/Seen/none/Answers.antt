use Rattle.sections.proofs.Marks.{unmarked}
use Rattle.sections.proofs.seen.Seen.none.Goals as goal

pub returns : goal.returns
returns c v h = unmarked 32 v
