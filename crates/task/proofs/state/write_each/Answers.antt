-- Each turn writes one number, and leaves those before it.
use Rattle.std.proofs.Common.{sym, refl, arith, below_more, get_or-set_other, get_or-set_same}
use Rattle.std.proofs.lemmas.Fn.{says_at}
use Rattle.std.proofs.lemmas.List.{get_or_read}
use Rattle.task.proofs.state.write_each.Goals as goal

pub loop-i-preserved : goal.loop-i-preserved
loop-i-preserved g c =
    let row = c.loop-i.row in
    let i = c.loop-i.i in
    let n = c.number.result in
    below_more _ _
    (λ k l d e. rw (get_or-set_other row i k n e (omega arith)) (c.loop-i.invariant k l d e))
    (λ d e. rw (get_or-set_same row i n e (omega arith), sym (get_or_read c.args.records.now i c.index-records-i.result (omega arith) c.index-records-i.is d)) (says_at g.F.Fn c.number.ensures refl))

pub returns-clause-each : goal.returns-clause-each
returns-clause-each g c = λ k l d e. c.loop-i.invariant k (omega arith) d e
