-- That a node is added, and nothing beyond it is touched.
use Rattle.std.proofs.Common.{◌<◌, sym, refl, arith, rules}
use Rattle.std.proofs.lemmas.List.{places}
use Rattle.memory.proofs.Held.{count_of}
use Rattle.memory.proofs.Changes.{Added, add_done, add-untouched, add-settle, untouched-both}
use Rattle.memory.proofs.memory.Memory.add.Goals as goal
use Rattle.memory.specs.Rows.{nodes_of}

pub set_node-requires : goal.set_node-requires
set_node-requires c =
    let m = c.args.self.now in
    let l : m.held < m.capacity = c.requires.capacity in
    record {
      consistent = (add_done m _ c.args.at c.args.state.now c.requires.consistent l c.requires.width c.requires.vacant (record { variables = refl; capacity = refl; held = refl; nodes = refl; index = refl; queue = refl; long = search rules; inside = λ j l. search (rules, places); before = λ j l. search (rules, places); beyond = λ j l. search (rules, places) })).0;
      inside = omega arith;
    }

pub returns : goal.returns
returns c =
    let m = c.args.self.now in
    let l : m.held < m.capacity = c.requires.capacity in
    let a : Added m _ c.args.at c.args.state.now = record { variables = refl; capacity = refl; held = refl; nodes = refl; index = refl; queue = refl; long = search rules; inside = λ j l. search (rules, places); before = λ j l. search (rules, places); beyond = λ j l. search (rules, places) } in
    let d = add_done m _ c.args.at c.args.state.now c.requires.consistent l c.requires.width c.requires.vacant a in
    record {
      consistent = c.set_node.ensures.consistent;
      untouched = untouched-both m _ c.set_node.new.self (add-untouched m _ c.args.at c.args.state.now c.requires.consistent l c.requires.width c.requires.vacant a) c.set_node.ensures.untouched;
      held = c.set_node.ensures.held;
      nodes = add-settle (nodes_of m) _ (nodes_of c.set_node.new.self) m.held _ _ _ _ _ (sym (count_of m)) d.1 c.set_node.ensures.nodes;
    }
