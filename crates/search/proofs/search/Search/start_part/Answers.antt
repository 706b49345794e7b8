-- That a start with a part of the row is the plain search's start with that part.
use Rattle.std.proofs.Common.{refl, subst, arith}
use Rattle.task.specs.Model.{model}
use Rattle.plain.specs.Plain as plain
use Rattle.plain.specs.Plain.{reports}
use Rattle.search.specs.Search.{plain_of, start_outcome, start_go_ahead}
use Rattle.search.specs.Replay.{part_of}
use Rattle.search.proofs.Parts.{part_cut, with-cut}
use Rattle.search.proofs.search.Search.start_part.Goals as goal

pub returns-clause-does : goal.returns-clause-does
returns-clause-does g c =
    let s = c.args.self.now in
    let s' = c.start.new.self in
    let est = g.E.Estimator.meaning in
    let r = c.start.result in
    let p = c.args.part in
    let xs = c.args.row.now in
    let left = c.start.new.row in
    let a = reports (start_outcome r) left (start_go_ahead r) (plain_of s'.core) in
    let places = c.within-places.ensures in
    let cut = part_cut p xs c.within-places.result.start _ places.from (omega arith) in
    λ buffer. record {
      step = record { call = plain.start (part_of p xs); answer = a };
      asked = (refl, with-cut p xs c.within-places.result.start _ places.from (omega arith) left, refl);
      says = c.into.ensures;
      does = subst (λ z. plain.Starts est (model s.task) s.core.memory.capacity z (plain_of s.core) c.args.estimator.now a (plain_of s'.core) c.start.new.estimator) cut c.start.ensures.does;
    }
