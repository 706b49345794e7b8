-- That each call given as data is one call of the plain search.
use Rattle.std.proofs.Common.{false, Some, [], refl, ap, ◌∙◌}
use Rattle.plain.specs.Plain as plain
use Rattle.plain.specs.Plain.{reports}
use Rattle.search.specs.Search.{plain_of, outcome_of, go_ahead_of}
use Rattle.search.specs.Replay.{part_of}
use Rattle.search.proofs.search.Search.make.Goals as goal

pub returns-in-Start-clause-does : goal.returns-in-Start-clause-does
returns-in-Start-clause-does g c = rw c.in-Start.is (c.start_part.ensures.does c.args.buffer.now)

pub returns-in-Advance-clause-does : goal.returns-in-Advance-clause-does
returns-in-Advance-clause-does g c =
    let a = c.advance.result in
    let x = c.advance.ensures in
    let w = c.into.ensures in
    rw c.in-Advance.is (record {
      step = record { call = plain.advance c.in-Advance.count; answer = reports (outcome_of a.progress) [] (go_ahead_of a.progress) (plain_of c.advance.new.self.core) };
      asked = (refl, refl);
      says = record { says = w.says; hands = w.hands; bounds = w.bounds ∙ ap Some x.tells.0; totals = w.totals ∙ ap Some x.tells.1 };
      does = x.does;
    })

pub returns-in-Write-clause-does : goal.returns-in-Write-clause-does
returns-in-Write-clause-does g c =
    let x = c.write_part.ensures in
    rw c.in-Write.is (record {
      step = record { call = plain.write (record { node = c.in-Write.node; cost = c.in-Write.cost }) (part_of c.in-Write.part c.args.buffer.now); answer = x.0 };
      asked = (refl, refl, x.3);
      says = x.2;
      does = (x.1, refl, refl);
    })

pub returns-in-Read-clause-does : goal.returns-in-Read-clause-does
returns-in-Read-clause-does g c = rw c.in-Read.is (record {
  step = record { call = plain.read; answer = reports plain.bound_read [] false (plain_of c.args.self.now.core) };
  asked = (refl, refl);
  says = record { says = refl; hands = refl; bounds = ap Some c.bound.ensures; totals = refl };
  does = (refl, refl, refl);
})
