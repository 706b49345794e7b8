use Rattle.std.proofs.Common.{arith}
use Rattle.sections.proofs.Marks.{marked-push}
use Rattle.sections.proofs.seen.Seen.add.Goals as goal

pub returns : goal.returns
returns c group marked v h = marked-push c.args.self.now.marks group c.args.entry (omega arith) v (marked v h)
