use Rattle.live_core.proofs.Asks.{can_close}
use Rattle.call_laws.proofs.Plain.{plain_may_come}
use Rattle.live_core.proofs.Moved.{main_moved}
use Rattle.live_core.proofs.Serving.{served}
use Rattle.std.proofs.Common.{refl}
use Rattle.std.proofs.lemmas.Bool.{and_parts}
use Rattle.task_base.specs.declared.entry.Kind.TheVariants as kinds
use Rattle.live_core.proofs.live.LiveCore.close_queue.Goals as goal

pub close-requires : goal.close-requires
close-requires c = (_, _, can_close c.requires.2)

pub returns : goal.returns
returns c = λ plan past can.
    let kind = kinds.Close c.args.queue in
    let fit = and_parts _ _ can.may.fit in
    main_moved plan past _ c.args.self.now kind _ can.stands refl refl (record { scope = tt; job = tt; task = tt }) refl
    (plain_may_come plan past 0 kind refl (served plan past kind can.stands.opened can.stands.legal fit.0 fit.1))
    (c.close.ensures plan past 0 (can_close can))
