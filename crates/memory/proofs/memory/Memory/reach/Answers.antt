-- What each way of reaching a state comes to.
use Rattle.std.proofs.Common.{refl, ap, ◌∙◌, arith}
use lib.ListN as lib
use Rattle.plain.specs.Plain as plain
use Rattle.memory.specs.Rows.{nodes_of}
use Rattle.memory.specs.Steps.{Reaches.keeps, Reaches.reopens, Reaches.adds}
use Rattle.memory.proofs.Held.{count_of, g-is}
use Rattle.memory.proofs.memory.Memory.reach.Goals as goal

pub offset_bounds-self-node : goal.offset_bounds-self-node
offset_bounds-self-node g c = omega (arith, c.in-Held.ensures.0, count_of c.args.self.now, c.requires.consistent.within, c.requires.consistent.lent.small)

pub bounds-self-node : goal.bounds-self-node
bounds-self-node g c = omega (arith, c.in-Held.ensures.0, count_of c.args.self.now, c.requires.consistent.within, c.requires.consistent.lent.nodes)

pub set_node-requires-clause-inside : goal.set_node-requires-clause-inside
set_node-requires-clause-inside g c = omega (arith, c.in-Held.ensures.0, count_of c.args.self.now)

pub returns-in-Held-clause-reached : goal.returns-in-Held-clause-reached
returns-in-Held-clause-reached g c =
    let m = c.args.self.now in
    let h = c.in-Held.ensures in
    keeps c.in-Held.node h (omega (arith, c.if-self-node.true, g-is m c.in-Held.node (omega (arith, h.0, count_of m)))) refl refl

pub returns-in-Held-2-clause-reached : goal.returns-in-Held-2-clause-reached
returns-in-Held-2-clause-reached g c =
    let m = c.args.self.now in
    let k = c.in-Held.node in
    let h = c.in-Held.ensures in
    reopens k c.estimate-estimate.result h (omega (arith, c.if-self-node.false, g-is m k (omega (arith, h.0, count_of m)))) c.estimate-estimate.ensures
    (c.set_node.ensures.nodes ∙ ap (λ s. lib.set (nodes_of m) k (plain.new_node s c.args.new.g c.args.new.parent c.args.new.operator c.estimate-estimate.result)) h.1)

pub returns-in-Free-clause-reached : goal.returns-in-Free-clause-reached
returns-in-Free-clause-reached g c =
    let m = c.args.self.now in
    adds c.estimate-estimate-in-Free.result c.in-Free.ensures.0 (omega (arith, c.if-self.true, count_of m)) c.estimate-estimate-in-Free.ensures c.add.ensures.nodes
