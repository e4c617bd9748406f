use Rattle.std.proofs.lemmas.Result.{err_from_is_err_and}
use Rattle.task_script.specs.Reader.{draft}
use Rattle.task_script.proofs.ReadLines.{line-fails, line-adds}
use Rattle.task_script.proofs.reader.Reader.read_text.Goals as goal

pub returns-in_err-command : goal.returns-in_err-command
returns-in_err-command c =
    let p = err_from_is_err_and c.from_residual.result c.from_residual.ensures.1 in
    rw (p.1, p.2) (line-fails c.in_err-command.field-0.0 (draft c.args.self.now) c.args.line.now c.in_err-command.ensures)

pub returns : goal.returns
returns c = rw (line-adds (draft c.args.self.now) c.args.line.now c.in_ok-command.command c.in_ok-command.ensures) c.take.ensures
