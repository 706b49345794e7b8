-- A set that is accepted and then an ask bound the cost at offered prices, by the laws of any estimator.
use Rattle.std.proofs.Common.{ℕ, List, Ok, Option}
use Rattle.task.specs.Model.{Model}
use Rattle.estimator.specs.Laws.{Meaning, Laws}
use Rattle.estimator.specs.Bound.{Bound}
use Rattle.estimator.specs.Lawful.Rows.{at-offer}

pub bound-by-laws : {E : Type 0} {m : Meaning E} {entry between exit : E} {T : Model} {offered left row : List ℕ} {a : Option ℕ}
    → Laws m → m.sets entry T offered 1 (Ok tt) left between → m.answers between T row a exit → Bound m entry T offered left row a exit
bound-by-laws {between = between} {T = T} {offered = offered} {left = left} {row = row} {a = a} laws x y =
    let taken = laws.accepts x in
    record {
      between = between;
      was_set = x;
      was_asked = y;
      held = taken.0;
      is_set = laws.keeps taken.1 y;
      shares = taken.2;
      at_held = λ state. laws.admits taken.1 state y;
      at_offered = λ state. at-offer T offered taken.0 left row a taken.2 (laws.admits taken.1 state y);
      no_state = λ alien. laws.passes taken.1 alien y;
    }
