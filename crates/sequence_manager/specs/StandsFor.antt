-- What the manager stands for.
use Rattle.std.specs.Prelude.{◌≡◌, ℕ, ◌+◌, ◌<◌, ◌≤◌, ◌==◌, List, length}
use Rattle.task_base.specs.Plan.{Plan}
use Rattle.task_base.specs.declared.entry.Entry.{Entry}
use Rattle.list_laws.specs.Lists.{count}
use Rattle.task_model.specs.MainQueues.{streak_of}
use Rattle.task_model.specs.Orders.{next_draw}
use Rattle.queue_laws.specs.Orders.{Ordered, main_arrivals}
use Rattle.task_model.specs.Posts.{Posted, main_posts}
use Rattle.task_model.specs.Time.{now_of}
use Rattle.work_queue.specs.Lanes.{all_held}
use Rattle.sequence_manager.specs.Pasts.{IsMainScript, IsMainPast}
use Rattle.sequence_manager.specs.Queues.{IsTable, queue_of, row_of, unripe}
use Rattle.sequence_manager.specs.State.{queue_at}
use Rattle.sequence_manager.specs.declared.manager.Manager.{Manager}

-- the parts, where these tasks have orders, those delayed ones have none, and this order is drawn next
pub record ArePartsOf (script : Plan) (past : List Entry) (arrivals : List Ordered) (waiting : List Posted) (order : ℕ) (manager : Manager) : Type 0 where
  -- each queue: its lanes, its delayed tasks, its fence, its votes, its cell, at home or out, and whether it is closed
  pub queues : IsTable (queue_of script past arrivals waiting) (length script.queues) manager.queues
  -- the class and the open fronts of each queue
  pub rows : IsTable (row_of script past arrivals waiting) (length script.queues) manager.selector.rows
  -- how many of the last tasks in a row were delayed ones that let an immediate one wait
  pub streak : manager.selector.streak ≡ streak_of script past
  -- the order that is drawn next
  pub order_is : manager.next_order ≡ order
  -- no more tasks are held than were posted, and no more orders drawn or to be drawn than there are entries
  pub room : (q : ℕ) → q < length script.queues
      → length (all_held (queue_at manager.queues q).tasks) + length (queue_at manager.queues q).delayed.held ≤ count (λ p. p.home == q) (main_posts past)
  pub few_orders : order + length waiting ≤ 2 + length past

-- the manager stands for the past of a script, part by part
pub record StandsFor (script : Plan) (past : List Entry) (manager : Manager) : Type 0 where
  pub script_fits : IsMainScript script
  pub past_fits : IsMainPast script past
  pub parts : ArePartsOf script past (main_arrivals past) (unripe past) (next_draw past) manager
  -- the moment of the last tick
  pub moment : manager.moment ≡ now_of past
