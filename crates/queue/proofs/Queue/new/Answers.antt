-- A queue of no entries holds nothing, whatever its rows hold.
use Rattle.std.proofs.Common.{rules, arith}
use Rattle.queue.specs.Heap.{Indexed}
use Rattle.queue.proofs.Held.{held_none}
use Rattle.queue.proofs.Queue.new.Goals as goal

pub returns-clause-empty : goal.returns-clause-empty
returns-clause-empty g c =
    let ix : Indexed g.T.QueueEntry.item_of c.args.entries.now c.args.places.now 0 = search rules in
    λ k. held_none ix k (λ i d l e. omega arith)
