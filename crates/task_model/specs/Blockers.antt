-- What shutdown waits for.
use Rattle.std.specs.Prelude.{ℕ, ◌+◌, Bool, true, false, not, ◌&&◌, List, length}
use Rattle.std.specs.List.{range_with_len}
use Rattle.task_base.specs.Plan.{Plan}
use Rattle.task_base.specs.declared.entry.Entry.{Entry}
use Rattle.task_traits.specs.declared.traits.Behaviour.{Behaviour}
use Rattle.task_traits.specs.declared.traits.Behaviour.TheVariants.{ContinueOnShutdown, SkipOnShutdown, BlockShutdown}
use Rattle.list_laws.specs.Lists.{count, holds_of}
use Rattle.task_model.specs.Posts.{Posted, posts, is_taken, is_ended}
use Rattle.task_model.specs.Refusal.{effective_at, behaviour_of_job}
use Rattle.task_model.specs.Seats.{holding, all_seats}
use Rattle.task_model.specs.Jobs.{is_job_accepted, is_over}

-- the behaviour is block
abbrev pub is_block : Behaviour → Bool
is_block ContinueOnShutdown = false
is_block SkipOnShutdown = false
is_block BlockShutdown = true

-- the behaviour is skip
abbrev pub is_skip : Behaviour → Bool
is_skip ContinueOnShutdown = false
is_skip SkipOnShutdown = true
is_skip BlockShutdown = false

-- an accepted block task that has no end
abbrev pub is_open_block : Plan → List Entry → Posted → Bool
is_open_block script past p = is_block (effective_at script p.home p.delay) && not (is_ended past p.task)

-- a skip task that runs
abbrev pub is_running_skip : Plan → List Entry → Posted → Bool
is_running_skip script past p = is_skip (effective_at script p.home p.delay) && is_taken past p.task && not (is_ended past p.task)

-- an accepted block job that is not over
abbrev pub is_open_job : Plan → List Entry → ℕ → Bool
is_open_job script past j = is_block (behaviour_of_job script j) && is_job_accepted past j && not (is_over script past j)

-- the seat is inside a skip job
abbrev pub is_in_skip_job : Plan → List Entry → ℕ → Bool
is_in_skip_job script past seat = holds_of (λ h. is_skip (behaviour_of_job script h.job)) (holding past seat)

-- the accepted block tasks that have no end
abbrev pub open_blocks : Plan → List Entry → ℕ
open_blocks script past = count (is_open_block script past) (posts past)

-- the accepted block jobs that are not over
abbrev pub open_jobs : Plan → List Entry → ℕ
open_jobs script past = count (is_open_job script past) (range_with_len 0 (length script.jobs))

-- the skip tasks that run
abbrev pub running_skips : Plan → List Entry → ℕ
running_skips script past = count (is_running_skip script past) (posts past)

-- the seats inside skip jobs
abbrev pub seats_in_skip_jobs : Plan → List Entry → ℕ
seats_in_skip_jobs script past = count (is_in_skip_job script past) (all_seats script)

-- the block part: block tasks and block jobs
unfoldable pub block_part : Plan → List Entry → ℕ
block_part script past = open_blocks script past + open_jobs script past

-- the skip part: skip tasks, and seats inside skip jobs
unfoldable pub skip_part : Plan → List Entry → ℕ
skip_part script past = running_skips script past + seats_in_skip_jobs script past

-- what shutdown waits for (`task_traits.h` for what is waited for; the count is this project's own)
unfoldable pub blockers_of : Plan → List Entry → ℕ
blockers_of script past = block_part script past + skip_part script past
