use Rattle.live_core.proofs.Asks.{can_fence}
use Rattle.call_laws.proofs.Plain.{plain_may_come}
use Rattle.live_core.proofs.Moved.{main_moved}
use Rattle.live_core.proofs.Serving.{served}
use Rattle.std.proofs.Common.{refl}
use Rattle.std.proofs.lemmas.Bool.{and_parts}
use Rattle.task_base.specs.declared.entry.Kind.TheVariants as kinds
use Rattle.live_core.proofs.live.LiveCore.fence.Goals as goal

pub fence-requires : goal.fence-requires
fence-requires c = (_, _, can_fence c.requires.2)

pub returns : goal.returns
returns c = λ plan past can.
    let kind = kinds.Fence c.args.queue c.args.at in
    let fit = and_parts _ _ can.may.fit in
    main_moved plan past _ c.args.self.now kind _ can.stands refl refl (record { scope = tt; job = tt; task = tt }) (refl, refl)
    (plain_may_come plan past 0 kind refl (served plan past kind can.stands.opened can.stands.legal fit.0 fit.1))
    (c.fence.ensures plan past 0 (can_fence can))
