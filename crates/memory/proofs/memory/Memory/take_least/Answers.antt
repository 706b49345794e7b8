-- That the queue's first entry is the least of the open list.
use Rattle.std.proofs.Common.{refl}
use Rattle.memory.proofs.Changes.{Kept, kept-untouched, taken-done}
use Rattle.memory.proofs.memory.Memory.take_least.Goals as goal

pub returns : goal.returns
returns c =
    let m = c.args.self.now in
    let kept : Kept m (record { nodes = m.nodes; states = m.states; index = m.index; queue = c.take.new.self; variables = m.variables; capacity = m.capacity; held = m.held }) =
    record { variables = refl; capacity = refl; held = refl; states = refl; index = refl } in
    let d = taken-done m _ c.take.result c.requires kept refl c.take.ensures.rows c.take.ensures.taken in
    record { consistent = d.0; untouched = kept-untouched m _ kept refl (λ _ _. refl); held = refl; taken = d.1 }
