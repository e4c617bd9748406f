-- What one more entry does to what shutdown waits for: to the block part, which counts open block tasks and open block jobs,
-- and to the skip part, which counts skip tasks that run and seats inside skip jobs. Each law here is the sum of laws on these
-- four counts. A kind that posts, takes and ends nothing, and is of no job, leaves them all.
-- Cited by `pool_core`.
use Rattle.std.proofs.Common.{◌≡◌, ℕ, ◌+◌, ◌<◌, Bool, true, false, List, [], ◌∷◌, ◌++◌, length, refl, ap, Some, None, arith}
use Rattle.std.specs.Prelude.{not, ◌&&◌}
use Rattle.task_base.specs.Plan.{Plan}
use Rattle.task_base.specs.declared.entry.Entry.{Entry}
use Rattle.task_base.specs.declared.entry.Kind.TheVariants.{Post, Take, End, JobPost, JobTake, JobStep, JobCancel}
use Rattle.task_model.specs.Posts.{Posted, posts, is_taken, is_ended}
use Rattle.pool_laws.specs.Posts.{InOrder, post_of}
use Rattle.task_model.specs.Refusal.{effective_at, behaviour_of_job}
use Rattle.task_model.specs.Seats.{holding}
use Rattle.task_model.specs.Jobs.{job_post_of, is_job_accepted, is_empty, is_over}
use Rattle.task_model.specs.Blockers.{is_block, is_skip, block_part, skip_part}
use Rattle.pool_laws.specs.Seats.{moves_holding, IsSeat, holds_job}
use Rattle.pool_laws.specs.Room.{share}
use Rattle.pool_laws.specs.Shutdown.{moves_open_blocks, moves_running_skips, moves_open_jobs, moves_block_part, moves_skip_part, is_block_task, is_skip_task, open_block_parts, running_skip_parts, open_job_parts, block_parts, skip_parts}
use Rattle.pool_laws.proofs.Shutdown.Tasks.{open_blocks_same, open_blocks_at_post, open_blocks_at_end, running_skips_same}
use Rattle.pool_laws.proofs.Shutdown.Tasks.{running_skips_at_post, running_skips_at_take, running_skips_at_end}
use Rattle.pool_laws.proofs.Shutdown.Jobs.{open_jobs_same, open_jobs_at_post, open_jobs_at_take, open_jobs_at_step, open_jobs_at_leave, open_jobs_at_cancel}
use Rattle.pool_laws.proofs.Shutdown.Jobs.{skip_seats_same, skip_seats_at_take, skip_seats_at_step, skip_seats_at_leave}
use Rattle.pool_laws.specs.Moves.{Items}
use Rattle.pool_laws.proofs.Moves.{moves_fewer}

-- The block part.

pub block_part_same : (script : Plan) (past : List Entry) (e : Entry) → moves_block_part e.kind ≡ false
    → block_part script (past ++ e ∷ []) ≡ block_part script past
unfolding block_part
block_part_same script past e quiet =
    rw (
      open_blocks_same script past e (moves_fewer open_block_parts block_parts e.kind refl quiet),
      open_jobs_same script past e (moves_fewer open_job_parts block_parts e.kind refl quiet),
    )
    refl

-- a block task counts from its post on, until its end
pub block_part_at_post : (script : Plan) (past : List Entry) (e : Entry) (task runner delay : ℕ) → e.kind ≡ Post task runner delay true
    → is_ended past task ≡ false
    → block_part script (past ++ e ∷ []) ≡ block_part script past + share (is_block (effective_at script runner delay))
unfolding block_part
block_part_at_post script past e task runner delay is unended =
    omega (arith, open_blocks_at_post script past e task runner delay is unended, open_jobs_same script past e (ap moves_open_jobs is))

pub block_part_at_end : (script : Plan) (past : List Entry) (e : Entry) (p : Posted) (task left : ℕ) → e.kind ≡ End task left
    → InOrder (posts past) → post_of past task ≡ Some p → is_ended past task ≡ false
    → block_part script past ≡ block_part script (past ++ e ∷ []) + share (is_block_task script p)
unfolding block_part
block_part_at_end script past e p task left is order posted unended =
    omega (arith, open_blocks_at_end script past e p task left is order posted unended, open_jobs_same script past e (ap moves_open_jobs is))

-- a block job counts from its post on
pub block_part_at_job_post : (script : Plan) (past : List Entry) (e : Entry) (job : ℕ) (ok : Bool) → e.kind ≡ JobPost job ok → job < length script.jobs
    → job_post_of past job ≡ None
    → block_part script (past ++ e ∷ []) ≡ block_part script past + share (is_block (behaviour_of_job script job) && ok && not (is_over script past job))
unfolding block_part
block_part_at_job_post script past e job ok is lt new =
    omega (arith, open_blocks_same script past e (ap moves_open_blocks is), open_jobs_at_post script past e job ok is lt new)

-- while seats enter and go on
pub block_part_at_job_take : (script : Plan) (past : List Entry) (e : Entry) (job id item : ℕ) → e.kind ≡ JobTake job id item → IsSeat script e.seat
    → holding past e.seat ≡ None → is_over script past job ≡ false → block_part script (past ++ e ∷ []) ≡ block_part script past
unfolding block_part
block_part_at_job_take script past e job id item is seat free not_over =
    rw (open_blocks_same script past e (ap moves_open_blocks is), open_jobs_at_take script past e job id item is seat free not_over) refl

pub block_part_at_step : (script : Plan) (past : List Entry) (e : Entry) (job id item value next : ℕ) → e.kind ≡ JobStep job id item value (Some next)
    → IsSeat script e.seat → holds_job past e.seat job ≡ true → block_part script (past ++ e ∷ []) ≡ block_part script past
unfolding block_part
block_part_at_step script past e job id item value next is seat held =
    rw (open_blocks_same script past e (ap moves_open_blocks is), open_jobs_at_step script past e job id item value next is seat held) refl

-- until it is over, at the last leaving or at its cancel
pub block_part_at_leave : (script : Plan) (past : List Entry) (e : Entry) (job id item value : ℕ) → e.kind ≡ JobStep job id item value None
    → IsSeat script e.seat → holds_job past e.seat job ≡ true → job < length script.jobs
    → block_part script past ≡ block_part script (past ++ e ∷ [])
    + share (is_block (behaviour_of_job script job) && is_job_accepted past job && is_over script (past ++ e ∷ []) job)
unfolding block_part
block_part_at_leave script past e job id item value is seat held lt =
    omega (arith, open_blocks_same script past e (ap moves_open_blocks is), open_jobs_at_leave script past e job id item value is seat held lt)

pub block_part_at_cancel : (script : Plan) (past : List Entry) (e : Entry) (job : ℕ) → e.kind ≡ JobCancel job → job < length script.jobs
    → block_part script past ≡ block_part script (past ++ e ∷ [])
    + share (is_block (behaviour_of_job script job) && is_job_accepted past job && is_empty script past job && not (is_over script past job))
unfolding block_part
block_part_at_cancel script past e job is lt =
    omega (arith, open_blocks_same script past e (ap moves_open_blocks is), open_jobs_at_cancel script past e job is lt)

-- The skip part.

pub skip_part_same : (script : Plan) (past : List Entry) (e : Entry) → moves_skip_part e.kind ≡ false
    → skip_part script (past ++ e ∷ []) ≡ skip_part script past
unfolding skip_part
skip_part_same script past e quiet =
    rw (
      running_skips_same script past e (moves_fewer running_skip_parts skip_parts e.kind refl quiet),
      skip_seats_same script past e (moves_fewer (Items ∷ []) skip_parts e.kind refl quiet),
    )
    refl

-- a skip task does not count at its post
pub skip_part_at_post : (script : Plan) (past : List Entry) (e : Entry) (task runner delay : ℕ) → e.kind ≡ Post task runner delay true
    → is_taken past task ≡ false → skip_part script (past ++ e ∷ []) ≡ skip_part script past
unfolding skip_part
skip_part_at_post script past e task runner delay is untaken =
    rw (running_skips_at_post script past e task runner delay is untaken, skip_seats_same script past e (ap moves_holding is)) refl

-- but from its start on, until its end
pub skip_part_at_take : (script : Plan) (past : List Entry) (e : Entry) (p : Posted) (task runner found : ℕ) → e.kind ≡ Take task runner found
    → InOrder (posts past) → post_of past task ≡ Some p → is_taken past task ≡ false → is_ended past task ≡ false
    → skip_part script (past ++ e ∷ []) ≡ skip_part script past + share (is_skip_task script p)
unfolding skip_part
skip_part_at_take script past e p task runner found is order posted untaken unended =
    omega (arith, running_skips_at_take script past e p task runner found is order posted untaken unended, skip_seats_same script past e (ap moves_holding is))

pub skip_part_at_end : (script : Plan) (past : List Entry) (e : Entry) (p : Posted) (task left : ℕ) → e.kind ≡ End task left
    → InOrder (posts past) → post_of past task ≡ Some p → is_taken past task ≡ true → is_ended past task ≡ false
    → skip_part script past ≡ skip_part script (past ++ e ∷ []) + share (is_skip_task script p)
unfolding skip_part
skip_part_at_end script past e p task left is order posted taken unended =
    omega (arith, running_skips_at_end script past e p task left is order posted taken unended, skip_seats_same script past e (ap moves_holding is))

-- a seat counts from where it enters a skip job on
pub skip_part_at_job_take : (script : Plan) (past : List Entry) (e : Entry) (job id item : ℕ) → e.kind ≡ JobTake job id item → IsSeat script e.seat
    → holding past e.seat ≡ None → skip_part script (past ++ e ∷ []) ≡ skip_part script past + share (is_skip (behaviour_of_job script job))
unfolding skip_part
skip_part_at_job_take script past e job id item is seat free =
    omega (arith, running_skips_same script past e (ap moves_running_skips is), skip_seats_at_take script past e job id item is seat free)

-- while it goes on
pub skip_part_at_step : (script : Plan) (past : List Entry) (e : Entry) (job id item value next : ℕ) → e.kind ≡ JobStep job id item value (Some next)
    → IsSeat script e.seat → holds_job past e.seat job ≡ true → skip_part script (past ++ e ∷ []) ≡ skip_part script past
unfolding skip_part
skip_part_at_step script past e job id item value next is seat held =
    rw (running_skips_same script past e (ap moves_running_skips is), skip_seats_at_step script past e job id item value next is seat held) refl

-- until it leaves
pub skip_part_at_leave : (script : Plan) (past : List Entry) (e : Entry) (job id item value : ℕ) → e.kind ≡ JobStep job id item value None
    → IsSeat script e.seat → holds_job past e.seat job ≡ true
    → skip_part script past ≡ skip_part script (past ++ e ∷ []) + share (is_skip (behaviour_of_job script job))
unfolding skip_part
skip_part_at_leave script past e job id item value is seat held =
    omega (arith, running_skips_same script past e (ap moves_running_skips is), skip_seats_at_leave script past e job id item value is seat held)
