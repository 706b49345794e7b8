use Rattle.std.proofs.Common.{◌≡◌, ◌≤◌, drop, min, true, leb, List, ◌++◌, length, take, IfOk, Ok, Err, Result, refl, arith}
use Rattle.std.proofs.lemmas.List.{length-take, take-append-le, length-append}
use Rattle.std.proofs.lemmas.Result.{IfOk-weaker}
use Rattle.std.proofs.lemmas.Bool.{le-leb}
use Rattle.tables.specs.declared.fault.Fault.{Fault}
use Rattle.lines.specs.declared.cursor.Cursor.{Cursor}
use Rattle.tables.specs.declared.records.Variable.{Variable}
use Rattle.tables.specs.declared.records.Entry.{Entry}
use Rattle.tables.specs.declared.records.Operator.{Operator}
use Rattle.tables.specs.declared.records.Counts.{Counts}
use Rattle.format.specs.Whole.{task_of, outcome}
use Rattle.format.specs.Views.{answered_whole, held_by}
use Rattle.format.proofs.reading.read_limited.Goals as goal

-- what a reading answers, with the records past the entries that it may use
outcome-held : (r : Result Counts Fault) (vs : List Variable) (os : List Operator) (es more : List Entry) (l : Cursor) → IfOk r (λ n. (n.variables ≤ length vs) × (n.operators ≤ length os) × (n.entries ≤ length es)) → outcome (answered_whole r vs os es l) ≡ held_by r vs os (es ++ more)
outcome-held (Ok n) vs os es more l h = rw (take-append-le n.entries es more h.2)
outcome-held (Err f) vs os es more l h = refl

pub returns : goal.returns
unfolding task_of
returns c =
    let fits : leb (length c.args.text.now) 65536 ≡ true = le-leb _ _ (omega arith) in
    let k : length (take c.min-room.result c.args.entries.now) ≡ min (length c.args.entries.now) 4096 = simp length-take (omega (arith, c.min-room.ensures)) in
    let read = c.read_whole.ensures in
    let more = drop c.min-room.result c.args.entries.now in
    record {
      reads = rw (fits, ← k, ← c.new-cursor.ensures, read.reads) (outcome-held c.read_whole.result c.read_whole.new.variables c.read_whole.new.operators c.read_whole.new.entries more c.read_whole.new.cursor read.room);
      room = IfOk-weaker c.read_whole.result _ _ (λ n h. (h.0, h.1, simp length-append (omega (arith, h.2)))) read.room;
    }
