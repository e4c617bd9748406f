-- What a legal and whole log has done, and what it has left (`thread_pool.h` for sequences, `sequence_manager.h` for lanes).
use Rattle.std.specs.Prelude.{◌≡◌, ℕ, ◌<◌, ◌≤◌, ◌==◌, ◌&&◌, ◌⊎◌, Bool, true, false, List, Some, None, Contains}
use Rattle.std.specs.List.{list_any}
use Rattle.task_base.specs.Plan.{Plan}
use Rattle.task_base.specs.Keys.{key_below}
use Rattle.task_base.specs.Runners.{sequence_of}
use Rattle.task_base.specs.declared.entry.Entry.{Entry}
use Rattle.task_base.specs.declared.entry.Kind.{Kind}
use Rattle.task_base.specs.declared.entry.Kind.TheVariants as kinds
use Rattle.task_base.specs.declared.script.Lane.{Lane}
use Rattle.task_base.specs.declared.source.Key.{Key}
use Rattle.task_model.specs.Time.{tick_from}
use Rattle.task_model.specs.Posts.{Posted, posts, main_posts, is_taken, is_ended, is_main_taken}
use Rattle.pool_laws.specs.Posts.{IsDelayed, is_main_ended}
use Rattle.task_model.specs.Policies.{is_held}
use Rattle.task_model.specs.Refusal.{is_forbidden, is_closed}
use Rattle.task_model.specs.Keys.{Ready, key_of}
use Rattle.task_model.specs.Sequences.{eligible, head_of}
use Rattle.task_model.specs.Seats.{running, holding, runs_sequence}
use Rattle.task_model.specs.Jobs.{claimed, done}
use Rattle.task_model.specs.Sources.{Candidate, sequence_candidate, sequence_waiting}
use Rattle.pool_laws.specs.Choice.{IsWaiting, WouldWait}
use Rattle.task_model.specs.Orders.{order_of}
use Rattle.task_model.specs.MainQueues.{Front, is_in_lane, front_of}

-- the entry is the step of this item of the job
abbrev pub steps_item : ℕ → ℕ → Kind → Bool
steps_item j i (kinds.JobStep job id item value next) = job == j && item == i
steps_item j i kind = false

-- the item of the job has its step
abbrev pub has_step : List Entry → ℕ → ℕ → Bool
has_step past j item = list_any (λ e. steps_item j item e.kind) past

-- the sequence of an accepted task
abbrev pub sequence_at : Plan → Posted → ℕ
sequence_at script p = sequence_of script p.home p.task

-- the task is delayed, and no tick has come to its ripe moment, so it has no key
pub record IsUnripe (past : List Entry) (p : Posted) : Type 0 where
  pub delayed : IsDelayed p
  pub no_tick : tick_from past p.ripe ≡ None
  pub no_key : key_of past p ≡ None

-- the task waits in its sequence
pub record WaitsInSequence (script : Plan) (past : List Entry) (p : Posted) : Type 0 where
  -- it has a key, and is one of those that may be taken from the sequence
  pub key : Key
  pub key_is : key_of past p ≡ Some key
  pub is_eligible : Contains (eligible script past (sequence_at script p)) (record { posted = p; key = key })
  -- the sequence has a head, whose key is the task's own or below it
  pub head : Ready
  pub head_is : head_of script past (sequence_at script p) ≡ Some head
  pub at_or_below : (head.key ≡ key) ⊎ (key_below head.key key ≡ true)
  -- no seat runs a task of the sequence, so it waits, by its head
  pub not_running : runs_sequence script past (sequence_at script p) ≡ false
  pub waits : sequence_waiting script past (sequence_at script p) ≡ Some (sequence_candidate script past (sequence_at script p) head)

-- why an accepted task of the pool was never taken
pub data LeftTask (script : Plan) (past : List Entry) (p : Posted) : Type 0 where
  -- the phase forbids it to start
  Forbidden : is_forbidden script past p ≡ true → LeftTask script past p
  -- it is not ripe yet
  Unripe : IsUnripe past p → LeftTask script past p
  -- it waits in its sequence, and the script was finished before a worker took it
  Waits : WaitsInSequence script past p → LeftTask script past p

-- work that waits for a worker: it would wait, were nothing held back, and the policy holds it back or it waits
pub record IsLeftToWorkers (script : Plan) (past : List Entry) (c : Candidate) : Type 0 where
  pub would_wait : WouldWait script past c
  pub held_or_waits : (is_held past c.priority ≡ true) ⊎ IsWaiting script past c

-- the main task is delayed, and no tick has come to its ripe moment, so it has no order
pub record HasNoOrder (past : List Entry) (p : Posted) : Type 0 where
  pub delayed : IsDelayed p
  pub no_tick : tick_from past p.ripe ≡ None
  pub no_order : order_of past p ≡ None

-- the main task lies in a lane of its queue
pub record WaitsInLane (script : Plan) (past : List Entry) (p : Posted) : Type 0 where
  -- it has an order, and lies in the lane of immediate or of delayed tasks
  pub order : ℕ
  pub order_is : order_of past p ≡ Some order
  pub lane : Lane
  pub in_lane : is_in_lane past p.home lane p ≡ true
  -- the lane has a front, whose order is at most the task's own
  pub front : Front
  pub front_is : front_of script past p.home lane ≡ Some front
  pub at_or_below : front.order ≤ order

-- why an accepted main task was never taken
pub data LeftMainTask (script : Plan) (past : List Entry) (p : Posted) : Type 0 where
  -- its queue is closed
  Closed : is_closed past p.home ≡ true → LeftMainTask script past p
  -- it is not ripe yet, so it has no order
  NoOrder : HasNoOrder past p → LeftMainTask script past p
  -- it lies in a lane of its queue, and the script was finished before a pump took it
  InLane : WaitsInLane script past p → LeftMainTask script past p

-- what was begun is done, and what was not begun is accounted for
pub record LosesNothing (script : Plan) (log : List Entry) : Type 0 where
  -- no seat runs a task
  pub nobody_runs : (seat : ℕ) → running log seat ≡ None
  -- no seat holds an item of a job
  pub nobody_holds : (seat : ℕ) → holding log seat ≡ None
  -- each task of the pool that was taken has its end
  pub tasks_ended : (t : ℕ) → is_taken log t ≡ true → is_ended log t ≡ true
  -- each main task that was taken has its end
  pub main_tasks_ended : (t : ℕ) → is_main_taken log t ≡ true → is_main_ended log t ≡ true
  -- each item of a job that was claimed has its step
  pub items_stepped : (job item : ℕ) → item < claimed log job → has_step log job item ≡ true
  -- as many items of a job are done as were claimed
  pub items_done : (job : ℕ) → claimed log job ≡ done log job
  -- each accepted task of the pool that was never taken is forbidden, not ripe, or waits in its sequence
  pub tasks_left : (p : Posted) → Contains (posts log) p → is_taken log p.task ≡ false → LeftTask script log p
  -- each accepted main task that was never taken is of a closed queue, not ripe, or lies in a lane
  pub main_tasks_left : (p : Posted) → Contains (main_posts log) p → is_main_taken log p.task ≡ false → LeftMainTask script log p
