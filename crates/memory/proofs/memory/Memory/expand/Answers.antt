-- That the loop generates the operators in order.
use Rattle.std.proofs.Common.{◌<◌, mul-le-mul_right, arith}
use Rattle.task.specs.Model.{model, prices, dearest}
use Rattle.task.proofs.Actions.{dearest-low}
use Rattle.plain.proofs.Budget.{dearest-le}
use Rattle.memory.specs.Rows.{nodes_of}
use Rattle.memory.proofs.Held.{count_of, g-is}
use Rattle.memory.proofs.Changes.{untouched-both}
use Rattle.memory.proofs.Tried.{low-generate, one_more}
use Rattle.memory.proofs.memory.Memory.expand.Goals as goal

pub generate-requires-clause-fits : goal.generate-requires-clause-fits
generate-requires-clause-fits g c =
    let m = c.loop-operator.self in
    let t = model c.args.task.now in
    let v = c.loop-operator.invariant in
    let x = c.args.node in
    let top : x < 65535 = omega (arith, v.consistent.within, v.consistent.lent.small) in
    omega (arith, v.low x (omega (arith, count_of m)), g-is m x v.inside, dearest-le (prices t) c.loop-operator.operator, dearest-low c.args.task.now, mul-le-mul_right (dearest (prices t)) top)

pub loop-operator-preserved : goal.loop-operator-preserved
loop-operator-preserved g c =
    let m = c.loop-operator.self in
    let n = c.generate.new.self in
    let t = model c.args.task.now in
    let v = c.loop-operator.invariant in
    let o = c.in_ok-generate.ensures in
    let est = g.E.Estimator.meaning in
    let z = low-generate est t m.capacity c.args.node c.loop-operator.operator (nodes_of m) (nodes_of n) c.loop-operator.estimator c.generate.new.estimator (omega (arith, count_of m, v.inside)) v.low o.tried in
    record {
      consistent = o.consistent;
      untouched = untouched-both c.args.self.now m n v.untouched o.untouched;
      inside = omega (arith, z.1, count_of m, count_of n, v.inside);
      row = o.row;
      low = z.0;
      generated = one_more est t c.args.self.now.capacity m.capacity c.args.node c.loop-operator.operator (nodes_of c.args.self.now) (nodes_of m) (nodes_of n) c.args.estimator.now c.loop-operator.estimator c.generate.new.estimator
          v.generated v.untouched.capacity o.tried;
    }
