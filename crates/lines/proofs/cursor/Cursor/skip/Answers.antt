use Rattle.std.proofs.Common.{◌∙◌, arith}
use Rattle.std.proofs.lemmas.Result.{err_from_is_err_and}
use Rattle.lines.specs.Reading.{passed}
use Rattle.lines.specs.Views.{place_of}
use Rattle.lines.proofs.Turns.{turns_more, turns-all}
use Rattle.lines.proofs.cursor.Cursor.skip.Goals as goal

pub returns-in_err-line : goal.returns-in_err-line
returns-in_err-line c =
    let p = err_from_is_err_and c.from_residual.result c.from_residual.ensures.1 in
    c.loop.invariant ∙ (turns_more passed tt (place_of c.loop.self) c.args.count c.loop.counter (omega arith) ∙ rw (p.1, p.2, c.in_err-line.ensures))

pub loop-preserved : goal.loop-preserved
loop-preserved c =
    c.loop.invariant ∙ (turns_more passed tt (place_of c.loop.self) c.args.count c.loop.counter (omega arith) ∙ rw c.in_ok-line.ensures)

pub returns : goal.returns
returns c = c.loop.invariant ∙ turns-all passed tt (place_of c.loop.self) c.args.count c.loop.counter (omega arith)
