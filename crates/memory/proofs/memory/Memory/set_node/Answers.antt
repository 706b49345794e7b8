-- That a held node gets another record, and its entry of the open list follows.
use Rattle.std.proofs.Common.{◌≡◌, ◌+◌, Some, None, sym, refl, ap, ◌∙◌, subst, arith}
use lib.ListN as lib
use Rattle.queue.proofs.First.{some-none}
use Rattle.queue.proofs.Uses.{put-done}
use Rattle.queue.specs.Content.{Takes}
use Rattle.queue.specs.Entries.{search_item}
use Rattle.queue.specs.declared.entries.SearchEntry.{SearchEntry}
use Rattle.plain.specs.Plain as plain
use Rattle.memory.specs.Rows.{nodes_of}
use Rattle.memory.proofs.Changes.{Improved, improve-done}
use Rattle.memory.proofs.memory.Memory.set_node.Goals as goal

pub returns-in-Some : goal.returns-in-Some
returns-in-Some c =
    let m = c.args.self.now in
    let k = c.args.node in
    let f = c.requires.consistent in
    let e : SearchEntry = record { f = c.args.new.g + c.in-Some.estimate; estimate = c.in-Some.estimate; node = k } in
    let takes : Takes m.queue k = record { in_entries = omega (arith, f.lent.entries, f.within); in_places = omega (arith, f.lent.places, f.within) } in
    let i : Improved m _ k c.args.new (Some e) = record {
      kept = record { variables = refl; capacity = refl; held = refl; states = refl; index = refl };
      nodes = refl;
      rows = c.put.ensures.rows;
      changed = (put-done search_item m.queue c.put.new.self e c.put.result c.put.ensures.put takes).changed;
      entry = λ y q. let z : e ≡ y = cc in subst (λ x. (x.f ≡ c.args.new.g + x.estimate) × (x.node ≡ k)) z (refl, refl);
    } in
    let d = improve-done m _ k c.args.new (Some e) f c.requires.inside i in
    record { consistent = d.0; untouched = d.1; held = refl; nodes = d.2 ∙ ap (λ w. lib.set (nodes_of m) k (plain.new_node (plain.node (nodes_of m) k).state c.args.new.g c.args.new.parent c.args.new.operator w)) (sym c.in-Some.is) }

pub returns-in-None : goal.returns-in-None
returns-in-None c =
    let m = c.args.self.now in
    let k = c.args.node in
    let i : Improved m _ k c.args.new None = record {
      kept = record { variables = refl; capacity = refl; held = refl; states = refl; index = refl };
      nodes = refl;
      rows = c.drop_item.ensures.rows;
      changed = c.drop_item.ensures.dropped;
      entry = λ y q. absurd (some-none None y q refl);
    } in
    let d = improve-done m _ k c.args.new None c.requires.consistent c.requires.inside i in
    record { consistent = d.0; untouched = d.1; held = refl; nodes = d.2 ∙ ap (λ w. lib.set (nodes_of m) k (plain.new_node (plain.node (nodes_of m) k).state c.args.new.g c.args.new.parent c.args.new.operator w)) (sym c.in-None.is) }
