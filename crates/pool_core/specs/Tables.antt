-- What the other parts of the pool stand for: the delayed tasks, the tracker, and the tables of tasks and seats.
use Rattle.std.specs.Prelude.{◌≡◌, ℕ, ◌+◌, ◌<◌, Bool, ◌&&◌, List, filter, length, Option, Some, None, is_none, slice_get, Contains}
use Rattle.std.specs.Option.{option_map}
use Rattle.task_base.specs.Plan.{Plan}
use Rattle.task_base.specs.declared.entry.Entry.{Entry}
use Rattle.list_laws.specs.Sorts.{sort_by}
use Rattle.task_model.specs.Posts.{Posted, posts, is_delayed, ripens_before}
use Rattle.pool_laws.specs.Posts.{post_of}
use Rattle.task_model.specs.Time.{tick_from}
use Rattle.task_model.specs.Phase.{phase_of}
use Rattle.task_model.specs.Policies.{policy_of}
use Rattle.task_model.specs.Refusal.{effective_at}
use Rattle.task_model.specs.Capacity.{priority_of}
use Rattle.task_model.specs.Blockers.{block_part, skip_part}
use Rattle.task_traits.specs.declared.traits.Priority.{Priority}
use Rattle.task_tracker.specs.Tracked.{Tracked}
use Rattle.delayed_manager.specs.declared.ripening.Ripening.{Ripening}
use Rattle.pool_core.specs.Pasts.{pool_running}
use Rattle.pool_core.specs.declared.posting.Posting.{Posting}

-- a delayed task whose ripe moment no tick has reached
abbrev pub is_unripe : List Entry → Posted → Bool
is_unripe past p = is_delayed p && is_none (tick_from past p.ripe)

-- a delayed task as it is kept
abbrev pub ripening_of : Posted → Ripening
ripening_of p = record { ripe = p.ripe; post = p.place; task = p.task }

-- the accepted tasks that are not ripe, in the order in which they ripen
abbrev pub unripe : List Entry → List Posted
unripe past = sort_by ripens_before (filter (is_unripe past) (posts past))

-- the phase and the policy in force, and what shutdown waits for
abbrev pub tracked : Plan → List Entry → Tracked
tracked script past = record {
  phase = phase_of past;
  policy = policy_of past;
  block_items = block_part script past;
  skip_items = skip_part script past;
}

-- the runner of an accepted task, and its behaviour in effect
abbrev pub posting_of : Plan → Posted → Posting
posting_of script p = record { runner = p.home; effective = effective_at script p.home p.delay }

-- there is a place for each task; that of an accepted one says how it was posted, and each other one is empty
pub record ArePostings (script : Plan) (past : List Entry) (postings : List (Option Posting)) : Type 0 where
  pub all : length postings ≡ length script.tasks
  pub known : (p : Posted) → Contains (posts past) p → slice_get postings p.task ≡ Some (Some (posting_of script p))
  pub unknown : (t : ℕ) → t < length script.tasks → post_of past t ≡ None → slice_get postings t ≡ Some None

-- there is a place for each runner, with its priority in the past
pub record ArePriorities (script : Plan) (past : List Entry) (priorities : List Priority) : Type 0 where
  pub all : length priorities ≡ length script.runners
  pub each : (runner : ℕ) → runner < length script.runners → slice_get priorities runner ≡ Some (priority_of script past runner)

-- there is a place for the driver and for each worker, with the task of the pool that the seat runs
pub record AreSeats (script : Plan) (past : List Entry) (seats : List (Option ℕ)) : Type 0 where
  pub all : length seats ≡ script.workers + 1
  pub runs : (seat : ℕ) → seat < script.workers + 1 → slice_get seats seat ≡ Some (option_map (λ w. w.task) (pool_running past seat))
