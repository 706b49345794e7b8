use Rattle.std.proofs.Common.{◌≡◌, length, ◌∙◌, arith, rules}
use Rattle.std.proofs.lemmas.Result.{err_from_is_err_and}
use Rattle.std.proofs.lemmas.List.{length-take-le}
use Rattle.lines.specs.Views.{place_of}
use Rattle.lines.proofs.Turns.{turns_more, turns-all}
use Rattle.sections.specs.Operators.{operator_more, operators_of}
use Rattle.sections.specs.Held.{held, capacity}
use Rattle.sections.specs.Views.{entries_in}
use Rattle.sections.proofs.operators.operator_list.Goals as goal

pub returns-in_err-word-clause-reads : goal.returns-in_err-word-clause-reads
unfolding operator_more operators_of
returns-in_err-word-clause-reads c =
    let p = err_from_is_err_and c.from_residual.result c.from_residual.ensures.1 in
    let r = c.loop-i.room in
    let es = c.loop-i.entries in
    let t = turns_more (operator_more es.variables.now (capacity r) (length es.records.now)) (held r, entries_in es) (place_of c.loop-i.cursor) c.args.count c.loop-i.i (omega arith) in
    let len : length (held r) ≡ c.loop-i.i = omega (arith, length-take-le r.used r.records.now r.inside) in
    rw (c.loop-i.invariant.0, t, len, c.in_err-word.ensures, p.1, p.2)

pub returns-then-is_full-clause-reads : goal.returns-then-is_full-clause-reads
unfolding operator_more operators_of
returns-then-is_full-clause-reads c =
    let r = c.loop-i.room in
    let es = c.loop-i.entries in
    let t = turns_more (operator_more es.variables.now (capacity r) (length es.records.now)) (held r, entries_in es) (place_of c.loop-i.cursor) c.args.count c.loop-i.i (omega arith) in
    let len : length (held r) ≡ c.loop-i.i = omega (arith, length-take-le r.used r.records.now r.inside) in
    let full = rw len at c.if-is_full.ensures in
    rw (c.loop-i.invariant.0, t, len, c.in_ok-word.ensures, full, c.fault.ensures)

pub returns-in_err-operator-clause-reads : goal.returns-in_err-operator-clause-reads
unfolding operator_more operators_of
returns-in_err-operator-clause-reads c =
    let p = err_from_is_err_and c.from_residual-in_err-operator.result c.from_residual-in_err-operator.ensures.1 in
    let r = c.loop-i.room in
    let es = c.loop-i.entries in
    let t = turns_more (operator_more es.variables.now (capacity r) (length es.records.now)) (held r, entries_in es) (place_of c.loop-i.cursor) c.args.count c.loop-i.i (omega arith) in
    let len : length (held r) ≡ c.loop-i.i = omega (arith, length-take-le r.used r.records.now r.inside) in
    let free = rw len at c.if-is_full.ensures in
    rw (c.loop-i.invariant.0, t, len, c.in_ok-word.ensures, free, c.in_err-operator.ensures.reads, p.1, p.2)

pub loop-i-preserved : goal.loop-i-preserved
unfolding operator_more
loop-i-preserved c =
    let r = c.loop-i.room in
    let es = c.loop-i.entries in
    let t = turns_more (operator_more es.variables.now (capacity r) (length es.records.now)) (held r, entries_in es) (place_of c.loop-i.cursor) c.args.count c.loop-i.i (omega arith) in
    let len : length (held r) ≡ c.loop-i.i = omega (arith, length-take-le r.used r.records.now r.inside) in
    let free = rw len at c.if-is_full.ensures in
    let same = c.in_ok-operator.ensures.same in
    let before = c.loop-i.invariant.1 in
    let k = c.push.ensures.same in (
      c.loop-i.invariant.0 ∙ (t ∙ rw (len, c.in_ok-word.ensures, free, c.in_ok-operator.ensures.reads, c.push.ensures.held, k.capacity, same.variables, same.capacity)),
      record { variables = same.variables ∙ before.variables; capacity = same.capacity ∙ before.capacity; lender = same.lender ∙ before.lender },
      record { capacity = k.capacity ∙ c.loop-i.invariant.2.capacity; lender = k.lender ∙ c.loop-i.invariant.2.lender },
      omega arith,
    )

pub returns-clause-reads : goal.returns-clause-reads
unfolding operators_of
returns-clause-reads c =
    let r = c.loop-i.room in
    let es = c.loop-i.entries in
    let e : r.used ≡ c.args.count = omega arith in
    let t = turns-all (operator_more es.variables.now (capacity r) (length es.records.now)) (held r, entries_in es) (place_of c.loop-i.cursor) c.args.count c.loop-i.i (omega arith) in
    rw (c.loop-i.invariant.0, t, e) (search rules)
