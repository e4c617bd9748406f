use Rattle.open_check.proofs.Following.{prefix_verdict}
use Rattle.std.proofs.Common.{Some, None}
use Rattle.open_check.proofs.check.check_open_prefix.Goals as goal

pub returns-in-Ok : goal.returns-in-Ok
returns-in-Ok c = λ plan stands. prefix_verdict plan c.args.log.now None (c.in-Ok.ensures plan stands).0

pub returns-in-Err : goal.returns-in-Err
returns-in-Err c = λ plan stands. prefix_verdict plan c.args.log.now (Some c.in-Err.stop.place) (c.in-Err.ensures plan stands).first
