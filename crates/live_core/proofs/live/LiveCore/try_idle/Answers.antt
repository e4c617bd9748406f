use Rattle.std.proofs.Common.{refl, true}
use Rattle.std.proofs.lemmas.Bool.{and_parts, false≢true}
use Rattle.task_base.specs.declared.entry.Kind.TheVariants as kinds
use Rattle.live_core.proofs.May.{idle_may}
use Rattle.live_core.proofs.Moved.{none_moved}
use Rattle.live_core.proofs.Quiet.{idle_is_quiet, none_ready}
use Rattle.live_core.proofs.Serving.{served}
use Rattle.live_core.proofs.live.LiveCore.try_idle.Goals as goal

pub returns-in-Ok : goal.returns-in-Ok
returns-in-Ok c = λ plan past can.
    let fit = and_parts _ _ can.may.fit in
    let idle = (c.in-Ok.ensures.ok plan past can.stands.pool).0 (refl {a = true}) in
    none_moved plan past _ c.args.self.now kinds.Idle can.stands refl refl refl (record { scope = tt; job = tt; task = tt }) tt
    (idle_may plan past (served plan past kinds.Idle can.stands.opened can.stands.legal fit.0 refl)
    (idle_is_quiet plan past can.stands.legal (and_parts _ _ fit.0).1 idle.0) (none_ready plan past idle.1))

pub returns-in-Err : goal.returns-in-Err
returns-in-Err c = λ plan past can.
    let told = c.in-Err.ensures.not_yet plan past can.stands.pool in
    record { lacks = (λ idle. false≢true ((c.in-Err.ensures.ok plan past can.stands.pool).1 idle), told.0, told.1); stands = can.stands }
