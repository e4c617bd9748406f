use Rattle.std.proofs.Common.{ap, ◌∙◌, Ok}
use Rattle.std.proofs.lemmas.Result.{err_from_is_err_and}
use Rattle.task_reply.proofs.Standing.{bad_turns, reply_turns, skip_turns}
use Rattle.task_reply.proofs.held.Held.read_line.Goals as goal

pub returns-in_err-reply : goal.returns-in_err-reply
returns-in_err-reply c = λ script replies stands.
    let p = err_from_is_err_and c.from_residual.result c.from_residual.ensures.1 in
    rw p.1 (bad_turns p.0 script replies c.args.self.now c.args.line.now (rw p.2 c.in_err-reply.ensures))

pub returns-in-Some : goal.returns-in-Some
returns-in-Some c = λ script replies stands.
    reply_turns c.add.result script replies c.args.self.now c.add.new.self c.in-Some.reply c.args.line.now stands
    (c.in_ok-reply.ensures ∙ ap Ok c.in-Some.is) c.add.ensures

pub returns-in-None : goal.returns-in-None
returns-in-None c = λ script replies stands. skip_turns script replies c.args.self.now c.args.line.now stands (c.in_ok-reply.ensures ∙ ap Ok c.in-None.is)
