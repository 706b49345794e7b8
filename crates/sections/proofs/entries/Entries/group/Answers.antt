use Rattle.std.proofs.Common.{length, ◌∙◌, arith}
use Rattle.std.proofs.lemmas.List.{take_more_set, length-set}
use Rattle.std.proofs.lemmas.Result.{err_from_is_err_and}
use Rattle.lines.specs.Views.{place_of}
use Rattle.lines.proofs.Turns.{turns_more, turns-all}
use Rattle.sections.specs.Entries.{entry_more}
use Rattle.sections.specs.Views.{entries_in}
use Rattle.sections.proofs.entries.Entries.group.Goals as goal

pub returns-in_err-entry-clause-reads : goal.returns-in_err-entry-clause-reads
unfolding entry_more
returns-in_err-entry-clause-reads g c =
    let p = err_from_is_err_and c.from_residual.result c.from_residual.ensures.1 in
    let es = c.loop.self in
    let step = entry_more g.S.Shape.numbers_of es.variables.now (length es.records.now) es.first in
    c.loop.invariant.0 ∙ (turns_more step (entries_in es) (place_of c.loop.cursor) c.args.count c.loop.counter (omega arith) ∙ rw (c.in_err-entry.ensures.reads, p.1, p.2))

pub loop-preserved : goal.loop-preserved
unfolding entry_more
loop-preserved g c =
    let es = c.loop.self in
    let e = c.in_ok-entry.entry in
    let step = entry_more g.S.Shape.numbers_of es.variables.now (length es.records.now) es.first in
    let t = turns_more step (entries_in es) (place_of c.loop.cursor) c.args.count c.loop.counter (omega arith) in
    let more = take_more_set es.records.now es.used e c.in_ok-entry.ensures.room in
    let k = length-set es.records.now es.used e in
    let same = c.loop.invariant.1 in (
      c.loop.invariant.0 ∙ (t ∙ rw (c.in_ok-entry.ensures.reads, more, k)),
      record { variables = same.variables; capacity = k ∙ same.capacity; lender = same.lender },
      c.loop.invariant.2,
      omega arith,
    )

pub returns-clause-reads : goal.returns-clause-reads
returns-clause-reads g c =
    let es = c.loop.self in
    let step = entry_more g.S.Shape.numbers_of es.variables.now (length es.records.now) es.first in
    c.loop.invariant.0 ∙ turns-all step (entries_in es) (place_of c.loop.cursor) c.args.count c.loop.counter (omega arith)
