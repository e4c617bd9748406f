use Rattle.std.proofs.Common.{refl, true}
use Rattle.std.proofs.lemmas.Bool.{and_parts, false_from_ne_true, false≢true}
use Rattle.task_base.specs.declared.entry.Kind.TheVariants as kinds
use Rattle.live_core.proofs.Asks.{may_ask}
use Rattle.live_core.proofs.May.{cancelled_may}
use Rattle.live_core.proofs.Moved.{none_moved}
use Rattle.live_core.proofs.Serving.{served}
use Rattle.live_core.proofs.live.LiveCore.try_cancelled.Goals as goal

pub cancelled-requires : goal.cancelled-requires
cancelled-requires c = (_, _, (may_ask c.requires.2).0)

pub returns-in-Ok : goal.returns-in-Ok
returns-in-Ok c = λ plan past can.
    let kind = kinds.Cancelled c.args.job in
    let ask = may_ask can in
    none_moved plan past _ c.args.self.now kind can.stands refl refl refl (record { scope = tt; job = tt; task = tt }) refl
    (cancelled_may plan past c.args.job (served plan past kind can.stands.opened can.stands.legal (and_parts _ _ can.may.fit).0 refl) ask.1
    ((c.in-Ok.ensures.ok plan past ask.0).0 (refl {a = true})))

pub returns-in-Err : goal.returns-in-Err
returns-in-Err c = λ plan past can.
    let ask = may_ask can in
    let told = c.in-Err.ensures.not_yet plan past ask.0 in
    record {
      lacks = (false_from_ne_true _ (λ empty. false≢true ((c.in-Err.ensures.ok plan past ask.0).1 empty)), told.0, told.1);
      stands = can.stands;
    }
