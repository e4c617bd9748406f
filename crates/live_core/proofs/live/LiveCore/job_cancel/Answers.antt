use Rattle.std.proofs.Common.{refl}
use Rattle.std.proofs.lemmas.Bool.{and_parts}
use Rattle.task_base.specs.declared.entry.Kind.TheVariants as kinds
use Rattle.live_core.proofs.Asks.{can_cancel, cancel_in_order}
use Rattle.call_laws.proofs.Plain.{plain_may_come}
use Rattle.live_core.proofs.Moved.{pool_moved}
use Rattle.live_core.proofs.Serving.{served}
use Rattle.live_core.proofs.live.LiveCore.job_cancel.Goals as goal

pub job_cancel-requires : goal.job_cancel-requires
job_cancel-requires c = (_, _, can_cancel c.requires.2)

pub returns : goal.returns
returns c = λ plan past can.
    let kind = kinds.JobCancel c.args.job in
    pool_moved plan past _ c.args.self.now kind _ can.stands refl refl (record { scope = tt; job = (can_cancel can).declared; task = tt }) refl
    (plain_may_come plan past 0 kind refl (served plan past kind can.stands.opened can.stands.legal (and_parts _ _ can.may.fit).0 (cancel_in_order can)))
    (c.job_cancel.ensures plan past 0 (can_cancel can))
