-- That the way back is the path, from the end.
use Rattle.memory.proofs.Ways.{way-short, way-back}
use Rattle.memory.proofs.memory.Memory.way_back.Goals as goal

pub returns : goal.returns
returns c = let m = c.args.self.now in record { path = way-back m c.requires.consistent c.requires.tree c.args.node c.requires.inside; short = way-short m.nodes.now m.held c.args.node }
