use Rattle.std.proofs.Common.{◌≡◌, ◌≤◌, drop, List, ◌++◌, length, IfOk, Ok, Err, Result, sym, refl, arith}
use Rattle.std.proofs.lemmas.Result.{err_from_is_err_and, IfOk-weaker}
use Rattle.format.specs.Whole.{whole_of}
use Rattle.std.proofs.lemmas.List.{take_at, length-append}
use Rattle.tables.specs.declared.fault.Fault.{Fault}
use Rattle.lines.specs.declared.cursor.Cursor.{Cursor}
use Rattle.tables.specs.declared.records.Variable.{Variable}
use Rattle.tables.specs.declared.records.Entry.{Entry}
use Rattle.tables.specs.declared.records.Operator.{Operator}
use Rattle.tables.specs.declared.records.Counts.{Counts}
use Rattle.format.specs.Views.{answered_body, answered_whole}
use Rattle.format.proofs.reading.read_whole.Goals as goal

pub returns-in_err-heading : goal.returns-in_err-heading
unfolding whole_of
returns-in_err-heading c =
    let p = err_from_is_err_and c.from_residual.result c.from_residual.ensures.1 in
    record { reads = rw (p.1, p.2, c.in_err-heading.ensures); room = rw p.1 tt }

pub returns-in_err-count : goal.returns-in_err-count
unfolding whole_of
returns-in_err-count c =
    let p = err_from_is_err_and c.from_residual-in_err-count.result c.from_residual-in_err-count.ensures.1 in
    record { reads = rw (p.1, p.2, c.in_ok-heading.ensures, c.in_err-count.ensures.reads); room = rw p.1 tt }

pub returns-in_err-variable_list : goal.returns-in_err-variable_list
unfolding whole_of
returns-in_err-variable_list c =
    let p = err_from_is_err_and c.from_residual-in_err-variable_list.result c.from_residual-in_err-variable_list.ensures.1 in
    record { reads = rw (p.1, p.2, c.in_ok-heading.ensures, c.in_ok-count.ensures.reads, c.in_err-variable_list.ensures.reads); room = rw p.1 tt }

whole-from-body : (r : Result Counts Fault) (vs more : List Variable) (os : List Operator) (es : List Entry) (l : Cursor) → IfOk r (λ n. (n.variables ≡ length vs) × (n.operators ≤ length os) × (n.entries ≤ length es)) → answered_body r vs os es l ≡ answered_whole r (vs ++ more) os es l
whole-from-body (Ok n) vs more os es l h = let t = take_at vs more n.variables (sym h.0) in rw t
whole-from-body (Err f) vs more os es l h = refl

pub returns : goal.returns
unfolding whole_of
returns c =
    let read = c.body.ensures in
    let new = c.body.new in
    let more = drop c.in_ok-count.count c.variable_list.new.records in
    record {
      reads = rw (c.in_ok-heading.ensures, c.in_ok-count.ensures.reads, c.in_ok-variable_list.ensures.reads, read.reads) (whole-from-body c.body.result new.variables more new.operators new.entries new.cursor read.room);
      room = IfOk-weaker c.body.result _ _ (λ n h. (simp length-append (omega (arith, h.0)), h.1, h.2)) read.room;
    }
