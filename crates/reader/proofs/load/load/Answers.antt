use Rattle.std.proofs.Common.{length}
use Rattle.std.proofs.lemmas.Result.{err_from_is_err_and}
use Rattle.reader.proofs.Loads.{loaded-refused, loaded-accepted}
use Rattle.reader.proofs.load.load.Goals as goal

pub returns-in_err-task : goal.returns-in_err-task
returns-in_err-task c =
    let p = err_from_is_err_and c.from_residual.result c.from_residual.ensures.1 in
    rw (p.1, p.2) (loaded-refused c.args.text.now (length c.args.variables.now) (length c.args.operators.now) (length c.args.entries.now) c.in_err-task.field-0.0 c.args.task.now c.in_err-task.ensures)

pub returns : goal.returns
returns c =
    loaded-accepted c.args.text.now (length c.args.variables.now) (length c.args.operators.now) (length c.args.entries.now) c.args.task.now c.in_ok-task.field-0 c.in_ok-task.ensures
