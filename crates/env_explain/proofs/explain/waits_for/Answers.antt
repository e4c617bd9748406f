use Rattle.std.proofs.Common.{subst}
use Rattle.env_step.specs.Steps.{WaitsFor}
use Rattle.env_explain.proofs.explain.waits_for.Goals as goal

pub unreachable-requires : goal.unreachable-requires
unreachable-requires c = c.requires c.in-NoSource.is

pub returns-in-Over : goal.returns-in-Over
returns-in-Over c script past seat kind waits = subst (λ w. WaitsFor w script past seat) c.in-Over.is waits

pub returns-in-NotIdle : goal.returns-in-NotIdle
returns-in-NotIdle c script past seat kind waits = subst (λ w. WaitsFor w script past seat) c.in-NotIdle.is waits

pub returns-in-Inside : goal.returns-in-Inside
returns-in-Inside c script past seat kind waits = subst (λ w. WaitsFor w script past seat) c.in-Inside.is waits

pub returns-in-Blocked : goal.returns-in-Blocked
returns-in-Blocked c script past seat kind waits = subst (λ w. WaitsFor w script past seat) c.in-Blocked.is waits
