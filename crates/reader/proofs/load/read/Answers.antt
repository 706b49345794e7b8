use Rattle.std.proofs.Common.{length}
use Rattle.std.proofs.lemmas.Result.{err_from_is_err_and}
use Rattle.reader.proofs.Loads.{read-refused, read-accepted}
use Rattle.reader.proofs.load.read.Goals as goal

pub returns-in_err-counts : goal.returns-in_err-counts
returns-in_err-counts c =
    let p = err_from_is_err_and c.from_residual.result c.from_residual.ensures.1 in
    rw (p.1, p.2) (read-refused c.args.text.now (length c.args.variables.now) (length c.args.operators.now) (length c.args.entries.now) c.in_err-counts.field-0.0
    c.read_task.new.variables c.read_task.new.operators c.read_task.new.entries c.in_err-counts.ensures)

pub returns : goal.returns
returns c =
    read-accepted c.args.text.now (length c.args.variables.now) (length c.args.operators.now) (length c.args.entries.now) c.in_ok-counts.counts
    c.read_task.new.variables c.read_task.new.operators c.read_task.new.entries c.new.result c.in_ok-counts.ensures c.new.ensures
