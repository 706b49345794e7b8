-- Past its test all is computed.
use Rattle.std.proofs.Common.{◌≡◌, length, refl, arith}
use Rattle.task.proofs.Actions.{task-well-formed}
use Rattle.projection.specs.Projection.{takes}
use Rattle.projection.proofs.projection.ProjectionEstimator.set.Goals as goal

pub returns : goal.returns
returns c =
    let t : length c.compute-weights.new.table ≡ length c.args.self.now.table.now = c.compute-weights.auto.table in
    let fit = c.in_default.ensures in
    let room = fit.2 in
    let ranks = room.table in
    takes fit.0 fit.1 (record { few = room.few; table = room.table; entries = room.entries; places = room.places }) refl
    (record {
      weights = c.compute-weights.result;
      ready = refl;
      formed = task-well-formed c.args.task.now;
      kept = record { pattern = refl; rest = c.compute-weights.ensures.rest; table = t; entries = c.compute-weights.auto.entries; places = c.compute-weights.auto.places };
      serves = record { pattern = fit.1; table = omega arith; weigh = c.compute-weights.ensures.weights };
      table = c.compute-weights.ensures.table;
      long = c.compute-weights.auto.row;
      leaves = c.compute-weights.ensures.held;
    })
