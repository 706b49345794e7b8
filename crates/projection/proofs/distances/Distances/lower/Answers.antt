-- The rank is one that the queue takes, so its entry is queued.
use Rattle.std.proofs.Common.{refl, arith}
use Rattle.queue.specs.declared.entries.RankEntry.{RankEntry}
use Rattle.queue.specs.Entries.{rank_item}
use Rattle.queue.proofs.Uses.{put-done}
use Rattle.projection.proofs.Lowering.{relaxed-put}
use Rattle.projection.proofs.distances.Distances.lower.Goals as goal

pub returns-clause-relaxed : goal.returns-clause-relaxed
returns-clause-relaxed c =
    let D = c.args.self.now in
    let e : RankEntry = record { distance = c.args.distance; rank = c.args.rank } in
    let a = put-done rank_item D.queue c.put.new.self e c.put.result c.put.ensures.put (D.«open».takes c.args.rank c.requires) in
    let len = a.resized in
    relaxed-put D _ c.args.rank c.args.distance c.requires (omega arith) refl refl a.changed (omega arith)
