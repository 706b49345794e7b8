use Rattle.std.proofs.Common.{◌≡◌, ◌∙◌, arith, rules}
use Rattle.std.proofs.lemmas.Result.{err_from_is_err_and}
use Rattle.lines.specs.Views.{place_of}
use Rattle.lines.proofs.Turns.{turns_more, turns-all}
use Rattle.sections.specs.Variables.{variable_more}
use Rattle.sections.specs.Held.{held, capacity}
use Rattle.sections.proofs.variables.variable_list.Goals as goal

pub returns-in_err-word-clause-reads : goal.returns-in_err-word-clause-reads
unfolding variable_more
returns-in_err-word-clause-reads c =
    let p = err_from_is_err_and c.from_residual.result c.from_residual.ensures.1 in
    let r = c.loop.room in
    c.loop.invariant.0 ∙ (turns_more (variable_more (capacity r)) (held r) (place_of c.loop.cursor) c.args.count c.loop.counter (omega arith) ∙ rw (c.in_err-word.ensures, p.1, p.2))

pub returns-then-is_full-clause-reads : goal.returns-then-is_full-clause-reads
unfolding variable_more
returns-then-is_full-clause-reads c =
    let r = c.loop.room in
    c.loop.invariant.0 ∙ (turns_more (variable_more (capacity r)) (held r) (place_of c.loop.cursor) c.args.count c.loop.counter (omega arith) ∙ rw (c.in_ok-word.ensures, c.if-is_full.ensures, c.fault.ensures))

pub returns-in_err-variable-clause-reads : goal.returns-in_err-variable-clause-reads
unfolding variable_more
returns-in_err-variable-clause-reads c =
    let p = err_from_is_err_and c.from_residual-in_err-variable.result c.from_residual-in_err-variable.ensures.1 in
    let r = c.loop.room in
    c.loop.invariant.0 ∙ (turns_more (variable_more (capacity r)) (held r) (place_of c.loop.cursor) c.args.count c.loop.counter (omega arith) ∙ rw (c.in_ok-word.ensures, c.if-is_full.ensures, c.in_err-variable.ensures, p.1, p.2))

pub loop-preserved : goal.loop-preserved
unfolding variable_more
loop-preserved c =
    let r = c.loop.room in
    let t = turns_more (variable_more (capacity r)) (held r) (place_of c.loop.cursor) c.args.count c.loop.counter (omega arith) in
    let k = c.push.ensures.same in
    (c.loop.invariant.0 ∙ (t ∙ rw (c.in_ok-word.ensures, c.if-is_full.ensures, c.in_ok-variable.ensures, c.push.ensures.held, k.capacity)), record { capacity = k.capacity ∙ c.loop.invariant.1.capacity; lender = k.lender ∙ c.loop.invariant.1.lender }, omega arith)

pub returns-clause-reads : goal.returns-clause-reads
returns-clause-reads c =
    let e : c.loop.room.used ≡ c.args.count = omega arith in
    rw (c.loop.invariant.0, turns-all (variable_more (capacity c.loop.room)) (held c.loop.room) (place_of c.loop.cursor) c.args.count c.loop.counter (omega arith), e) (search rules)
