-- Each turn passes over one line; where none is left, every further line is empty.
use Rattle.std.proofs.Common.{◌+◌, ◌-◌, sym, ap, ◌∙◌, arith}
use Rattle.tables.specs.Lines.{after_line, nth_line}
use Rattle.tables.proofs.NthLines.{nth-empty, nth-more}
use Rattle.tables.proofs.line.nth_line.Goals as goal

pub returns-in_default : goal.returns-in_default
returns-in_default c =
    let m = nth-more c.args.index c.loop-i._i c.loop-i.rest.now (omega arith) in
    let e = ap (λ z. nth_line (c.args.index - (c.loop-i._i + 1)) (after_line z)) c.in_default.ensures.halves in
    sym (c.loop-i.invariant ∙ (m ∙ (e ∙ nth-empty (c.args.index - (c.loop-i._i + 1)))))

pub loop-i-preserved : goal.loop-i-preserved
loop-i-preserved c =
    let m = nth-more c.args.index c.loop-i._i c.loop-i.rest.now (omega arith) in
    let e = ap (λ z. nth_line (c.args.index - (c.loop-i._i + 1)) (after_line z)) c.in-Some.ensures.halves in
    c.loop-i.invariant ∙ (m ∙ e)
