-- What holds back the main tasks of a queue, over the places of a log.
use Rattle.std.specs.Prelude.{◌≡◌, ℕ, ◌==◌, ◌&&◌, ◌<◌, Bool, true, false, List, Some, take, Contains}
use Rattle.task_base.specs.Plan.{Plan}
use Rattle.task_base.specs.declared.entry.Entry.{Entry}
use Rattle.task_base.specs.declared.entry.Kind.{Kind}
use Rattle.task_base.specs.declared.entry.Kind.TheVariants as kinds
use Rattle.task_base.specs.declared.script.FenceAt.TheVariants.{Now, Start}
use Rattle.task_model.specs.Posts.{Posted, main_posts}
use Rattle.task_model.specs.Orders.{next_draw, order_of}
use Rattle.task_model.specs.MainQueues.{fence_of, votes_on, voters_of}
use Rattle.hist_model.specs.Laws.Places.{IsAt, StandsBefore, NoneBetween}

-- the entry sets the fence of the queue or removes it
abbrev pub moves_fence : ℕ → Kind → Bool
moves_fence q (kinds.Fence queue at) = queue == q
moves_fence q (kinds.Unfence queue) = queue == q
moves_fence q kind = false

-- the entry is a vote of this voter of the queue
abbrev pub votes : ℕ → ℕ → Kind → Bool
votes q v (kinds.Vote queue voter on) = queue == q && voter == v
votes q v kind = false

-- the task was accepted on this queue, and its order is below this one
pub record HasOrderBelow (past : List Entry) (task queue limit : ℕ) : Type 0 where
  pub posted : Posted
  pub accepted : Contains (main_posts past) posted
  pub task_is : posted.task ≡ task
  pub queue_is : posted.home ≡ queue
  pub order : ℕ
  pub order_is : order_of past posted ≡ Some order
  pub below : order < limit

-- no queue passes its fence, and none that is closed or disabled runs anything (`sequence_manager.h` and `task_queue.h` for
-- fences and voters)
pub record KeepsFences (script : Plan) (log : List Entry) : Type 0 where
  -- a main task is taken only where its order is below the fence of its queue, if there is one
  pub below_its_fence : (k seat task queue found fence : ℕ) → IsAt log k seat (kinds.MainTake task queue found)
      → fence_of (take k log) queue ≡ Some fence → HasOrderBelow (take k log) task queue fence
  -- where the fence of the queue was set last behind its tasks by then, only a task that drew its order before is taken
  pub drawn_before_the_fence : (i setter k seat task queue found : ℕ) → IsAt log i setter (kinds.Fence queue Now) → i < k
      → NoneBetween log i k (moves_fence queue)
      → IsAt log k seat (kinds.MainTake task queue found) → HasOrderBelow (take k log) task queue (next_draw (take i log))
  -- where it was set last at the start, before all its tasks, none is taken
  pub none_behind_the_start : (i setter k seat task queue found : ℕ) → IsAt log i setter (kinds.Fence queue Start) → i < k
      → NoneBetween log i k (moves_fence queue)
      → IsAt log k seat (kinds.MainTake task queue found) → ⊥
  -- once a queue was closed, none of its tasks is taken
  pub none_after_the_close : (k seat task queue found : ℕ) → IsAt log k seat (kinds.MainTake task queue found)
      → StandsBefore log k (kinds.Close queue) → ⊥
  -- where a main task is taken, each voter of its queue votes on
  pub all_vote_on : (k seat task queue found voter : ℕ) → IsAt log k seat (kinds.MainTake task queue found) → voter < voters_of script queue
      → votes_on (take k log) queue voter ≡ true
  -- where a voter of the queue voted off last, none is taken
  pub none_against_a_vote : (i steerer k seat task queue found voter : ℕ) → IsAt log i steerer (kinds.Vote queue voter false) → i < k
      → NoneBetween log i k (votes queue voter) → voter < voters_of script queue → IsAt log k seat (kinds.MainTake task queue found) → ⊥
