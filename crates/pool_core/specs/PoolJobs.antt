-- One job as the pool keeps it: its items, and how it was posted.
use Rattle.std.specs.Prelude.{ℕ, Bool, false, not, ◌&&◌, nat_lt, if◌then◌else◌, Option, Some, None, is_some, replicate}
use Rattle.std.specs.Option.{option_map}
use Rattle.task_base.specs.Plan.{JobPlan}
use Rattle.task_base.specs.declared.entry.JobReply.{JobReply}
use Rattle.task_base.specs.declared.entry.JobReply.TheVariants as replies
use Rattle.task_traits.specs.Behaviour.{forbids}
use Rattle.task_traits.specs.declared.phase.Phase.{Phase}
use Rattle.list_laws.specs.Lists.{holds_of}
use Rattle.task_model.specs.Keys.{key_at}
use Rattle.job_source.specs.Job.{JobView, entered, inside, is_empty, is_finished_job, is_over, may_enter, with_entered}
use Rattle.job_source.specs.declared.source.TheConstants.{MOST_INSIDE}
use Rattle.sequence_queue.specs.declared.rank.Rank.{Rank}
use Rattle.pool_core.specs.declared.pool_job.PoolJob.{PoolJob}

-- the items of a job of which none is claimed
abbrev pub fresh_view : ℕ → ℕ → JobView
fresh_view items cap = record {
  items = items;
  cap = cap;
  claimed = 0;
  done = 0;
  held = replicate MOST_INSIDE None;
  cancelled = false;
  sum = 0;
}

-- a declared job that was not posted
abbrev pub fresh_job : JobPlan → PoolJob
fresh_job job = record { source = fresh_view job.items job.cap; priority = job.priority; behaviour = job.behaviour; post = None }

-- its post was accepted
abbrev pub is_accepted : PoolJob → Bool
is_accepted job = holds_of (λ p. p.ok) job.post

-- its post was refused
abbrev pub is_refused : PoolJob → Bool
is_refused job = holds_of (λ p. not p.ok) job.post

-- it was posted, and by its own word somebody may be inside
abbrev pub lets_in : PoolJob → Bool
lets_in job = is_some job.post && nat_lt 0 job.source.cap

-- it was accepted, and is not over
abbrev pub is_open : PoolJob → Bool
is_open job = is_accepted job && not (is_over job.source)

-- a seat may enter in this phase: it was accepted, the phase does not forbid it, and its items let one more in
abbrev pub may_enter_in : Phase → PoolJob → Bool
may_enter_in phase job = is_accepted job && not (forbids phase job.behaviour) && may_enter job.source

-- what a seat that asks to enter gets: a number and an item, where it may
abbrev pub entered_in : Phase → PoolJob → Option (ℕ × ℕ)
entered_in phase job = if may_enter_in phase job then entered job.source else None

-- the job where a seat has got this
abbrev pub with_entered_in : PoolJob → Option (ℕ × ℕ) → PoolJob
with_entered_in job got = record job { source = with_entered job.source got }

-- its rank among the sources that wait in this phase, where a seat may enter
abbrev pub rank_in : Phase → PoolJob → Option Rank
rank_in phase job =
    if may_enter_in phase job
    then option_map (λ p. record { priority = job.priority; inside = inside job.source; key = key_at p.place }) job.post
    else None

-- its reply in this phase, the first of these that applies
abbrev pub reply_in : Phase → PoolJob → Option JobReply
reply_in phase job =
    if is_refused job then Some replies.Refused
    else (if is_finished_job job.source then Some (replies.Finished job.source.sum)
    else (if job.source.cancelled then Some replies.Cancelled
    else (if forbids phase job.behaviour then Some replies.Stopped
    else None)))

-- what a join is told: the reply, once nobody is inside
abbrev pub joined_in : Phase → PoolJob → Option JobReply
joined_in phase job = if is_empty job.source then reply_in phase job else None
