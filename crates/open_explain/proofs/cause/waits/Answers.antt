use Rattle.std.proofs.Common.{inl, inr}
use Rattle.open_explain.proofs.Causes.{waits_for_idle}
use Rattle.open_explain.proofs.cause.waits.Goals as goal

pub returns-in-Cancelled : goal.returns-in-Cancelled
returns-in-Cancelled c = λ plan past e lacks. let l = rw c.in-Cancelled.is at lacks in (inl (c.in-Cancelled.is, l.0), l.1)

pub returns-in-Joined : goal.returns-in-Joined
returns-in-Joined c = λ plan past e lacks. let l = rw c.in-Joined.is at lacks in (inr (c.in-Joined.is, l.0), l.1)

pub returns-in_default : goal.returns-in_default
returns-in_default c = λ plan past e lacks. (
  waits_for_idle plan past c.args.call c.args.not_yet lacks c.in_default.not-Cancelled c.in_default.not-Joined,
  lacks,
)
