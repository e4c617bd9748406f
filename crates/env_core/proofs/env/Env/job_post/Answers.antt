use Rattle.env_core.proofs.Entries.{counts, holds_at_pool}
use Rattle.env_core.proofs.JobCalls.{can_post_job}
use Rattle.env_core.proofs.JobEntries.{job_post_allowed}
use Rattle.env_core.specs.Calls.{IsWantedNext}
use Rattle.std.proofs.Common.{refl}
use Rattle.task_base.specs.declared.entry.Kind.TheVariants as kinds
use Rattle.env_core.proofs.env.Env.job_post.Goals as goal

pub job_post-ok-requires : goal.job_post-ok-requires
job_post-ok-requires g c = (_, _, can_post_job c.self.invariant c.args.seat c.len.result c.args.job c.len.ensures (λ ok. rw c.self.view_is (c.requires ok)))

pub enter-requires : goal.enter-requires
enter-requires g c =
    let view = c.self.inside.ledger in
    let can = can_post_job c.self.invariant c.args.seat c.len.result c.args.job c.len.ensures (λ ok. rw c.self.view_is (c.requires ok)) in
    let wanted : IsWantedNext view c.args.seat (kinds.JobPost c.args.job c.job_post-ok.result) = rw c.self.view_is (c.requires c.job_post-ok.result) in
    counts wanted refl (λ plan. job_post_allowed view c.args.seat c.args.job c.job_post-ok.result wanted (c.job_post-ok.ensures.reply _ _ can))

pub invariant_of-self : goal.invariant_of-self
invariant_of-self g c =
    let can = can_post_job c.self.invariant c.args.seat c.len.result c.args.job c.len.ensures (λ ok. rw c.self.view_is (c.requires ok)) in
    holds_at_pool c.self.invariant c.enter.ensures refl (λ t. refl) (c.job_post-ok.ensures.stands _ _ c.args.seat can)

pub returns-clause-reply : goal.returns-clause-reply
returns-clause-reply g c =
    let can = can_post_job c.self.invariant c.args.seat c.len.result c.args.job c.len.ensures (λ ok. rw c.self.view_is (c.requires ok)) in
    rw (← c.self.view_is) (c.job_post-ok.ensures.reply _ _ can)

pub returns-clause-enters : goal.returns-clause-enters
returns-clause-enters g c = rw (← c.self.view_is) c.enter.ensures
