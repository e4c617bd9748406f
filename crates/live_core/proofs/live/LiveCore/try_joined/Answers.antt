use Rattle.std.proofs.Common.{refl}
use Rattle.std.proofs.lemmas.Bool.{and_parts}
use Rattle.task_base.specs.declared.entry.Kind.TheVariants as kinds
use Rattle.live_core.proofs.Asks.{join_in_order, may_join}
use Rattle.call_laws.proofs.Jobs.{joined_is}
use Rattle.live_core.proofs.May.{joined_may}
use Rattle.live_core.proofs.Moved.{none_moved}
use Rattle.live_core.proofs.Serving.{served}
use Rattle.live_core.proofs.live.LiveCore.try_joined.Goals as goal

pub joined-requires : goal.joined-requires
joined-requires c = (_, _, may_join c.requires.2)

pub returns-in-Ok : goal.returns-in-Ok
returns-in-Ok c = λ plan past can.
    let reply = c.in-Ok.reply in
    let kind = kinds.Joined c.args.job reply in
    let is = joined_is plan past c.args.job reply (c.in-Ok.ensures.ok plan past (may_join can)) in
    none_moved plan past _ c.args.self.now kind can.stands refl refl refl (record { scope = tt; job = tt; task = tt }) refl
    (joined_may plan past c.args.job reply
    (served plan past kind can.stands.opened can.stands.legal (and_parts _ _ can.may.fit).0 (join_in_order reply can)) is.0 is.1)

pub returns-in-Err : goal.returns-in-Err
returns-in-Err c = λ plan past can. record { lacks = c.in-Err.ensures.not_yet plan past (may_join can); stands = can.stands }
