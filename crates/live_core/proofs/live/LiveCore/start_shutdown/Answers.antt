use Rattle.live_core.proofs.Asks.{in_order, not_started}
use Rattle.call_laws.proofs.Plain.{plain_may_come}
use Rattle.live_core.proofs.Moved.{pool_moved}
use Rattle.live_core.proofs.Serving.{served}
use Rattle.std.proofs.Common.{refl}
use Rattle.std.proofs.lemmas.Bool.{and_parts}
use Rattle.task_base.specs.declared.entry.Kind.TheVariants as kinds
use Rattle.live_core.proofs.live.LiveCore.start_shutdown.Goals as goal

pub start_shutdown-requires : goal.start_shutdown-requires
start_shutdown-requires c = (_, _, not_started c.requires.2)

pub returns : goal.returns
returns c = λ plan past can.
    let fit = and_parts _ _ can.may.fit in
    pool_moved plan past _ c.args.self.now kinds.Shutdown _ can.stands refl refl (record { scope = tt; job = tt; task = tt }) tt
    (plain_may_come plan past 0 kinds.Shutdown refl (served plan past kinds.Shutdown can.stands.opened can.stands.legal fit.0 (in_order can)))
    (c.start_shutdown.ensures plan past 0 (not_started can))
