use Rattle.std.proofs.Common.{refl}
use Rattle.std.proofs.lemmas.Bool.{and_parts}
use Rattle.task_base.specs.declared.entry.Kind.TheVariants as kinds
use Rattle.live_core.proofs.Asks.{can_post_job, post_in_order}
use Rattle.live_core.proofs.May.{job_post_may}
use Rattle.live_core.proofs.Moved.{pool_moved}
use Rattle.live_core.proofs.Serving.{served}
use Rattle.live_core.proofs.live.LiveCore.job_post.Goals as goal

pub job_post-ok-requires : goal.job_post-ok-requires
job_post-ok-requires c = (_, _, can_post_job c.requires.2 c.entries.ensures)

pub returns : goal.returns
returns c = λ plan past can.
    let post = can_post_job can c.entries.ensures in
    let ok = c.job_post-ok.result in
    let kind = kinds.JobPost c.args.job ok in
    pool_moved plan past _ c.args.self.now kind _ can.stands refl refl (record { scope = tt; job = post.knows.declared; task = tt }) refl
    (job_post_may plan past c.args.job ok
    (served plan past kind can.stands.opened can.stands.legal (and_parts _ _ can.may.fit).0 (post_in_order ok can))
    (c.job_post-ok.ensures.reply plan past post))
    (c.job_post-ok.ensures.stands plan past 0 post)
