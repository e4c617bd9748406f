use Rattle.std.proofs.Common.{refl}
use Rattle.std.proofs.lemmas.Bool.{and_parts}
use Rattle.task_base.specs.declared.entry.Kind.TheVariants as kinds
use Rattle.live_core.proofs.Asks.{can_join}
use Rattle.call_laws.proofs.Jobs.{has_got, has_got_none}
use Rattle.live_core.proofs.May.{job_take_may}
use Rattle.live_core.proofs.Moved.{pool_moved, still_stands}
use Rattle.live_core.proofs.Serving.{served}
use Rattle.live_core.proofs.live.LiveCore.job_take.Goals as goal

pub job_take-requires : goal.job_take-requires
job_take-requires c = (_, _, can_join c.requires.2)

pub returns-in-Some : goal.returns-in-Some
returns-in-Some c = λ plan past can.
    let kind = kinds.JobTake c.args.job c.in-Some.id c.in-Some.item in
    let got = has_got plan past c.args.job c.in-Some.id c.in-Some.item (c.in-Some.ensures.answer plan past (can_join can)) in
    pool_moved plan past _ c.args.self.now kind _ can.stands refl refl (record { scope = tt; job = tt; task = tt }) refl
    (job_take_may plan past c.args.job c.in-Some.id c.in-Some.item
    (served plan past kind can.stands.opened can.stands.legal (and_parts _ _ can.may.fit).0 refl) got.may got.id_is got.item_is)
    (c.in-Some.ensures.stands plan past (can_join can))

pub returns-in-None : goal.returns-in-None
returns-in-None c = λ plan past can. record {
  lacks = has_got_none plan past c.args.job (c.in-None.ensures.answer plan past (can_join can));
  stands = still_stands plan past c.args.self.now _ can.stands (c.in-None.ensures.stands plan past (can_join can));
}
