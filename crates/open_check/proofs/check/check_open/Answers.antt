use Rattle.std.proofs.Common.{true, false, sym, ◌∙◌}
use Rattle.open_check.proofs.Following.{verdict_nowhere, verdict_there}
use Rattle.open_check.proofs.check.check_open.Goals as goal

pub returns-in-Err : goal.returns-in-Err
returns-in-Err c = λ plan stands. verdict_there plan c.args.log.now c.in-Err.stop.place (c.in-Err.ensures plan stands).first

pub returns-then-is_quiet : goal.returns-then-is_quiet
returns-then-is_quiet c = λ plan stands.
    let followed = c.in_default.ensures plan stands in
    verdict_nowhere plan c.args.log.now true followed.0 (sym (c.is_quiet.ensures plan c.args.log.now followed.1) ∙ c.if-is_quiet.true)

pub returns : goal.returns
returns c = λ plan stands.
    let followed = c.in_default.ensures plan stands in
    verdict_nowhere plan c.args.log.now false followed.0 (sym (c.is_quiet.ensures plan c.args.log.now followed.1) ∙ c.if-is_quiet.false)
