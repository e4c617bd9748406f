-- What the calls do to the manager's parts.
use Rattle.std.specs.Prelude.{◌≡◌, ℕ, ◌+◌, ◌<◌, ◌^◌, ◌&&◌, Bool, true, false, List, [], ◌∷◌, length, map, replicate, Option, Some, None, slice_get, slice_set, slice_index_or, Contains, All}
use Rattle.std.specs.Option.{option_map}
use Rattle.task_base.specs.declared.script.FenceAt.{FenceAt}
use Rattle.task_base.specs.declared.script.FenceAt.TheVariants.{Now, Start}
use Rattle.task_base.specs.declared.script.Lane.{Lane}
use Rattle.task_base.specs.declared.script.Lane.TheVariants.{Immediate, Delayed}
use Rattle.task_base.specs.declared.script.MainQueue.{MainQueue}
use Rattle.list_laws.specs.Lists.{keep}
use Rattle.list_laws.specs.Sorts.{Rises}
use Rattle.delayed_manager.specs.Delayed.{with_held}
use Rattle.queue_fence.specs.Fence.{lets_pass}
use Rattle.queue_fence.specs.Voters.{all_on}
use Rattle.queue_selector.specs.declared.row.Row.{Row}
use Rattle.queue_selector.specs.Rows.{closed_row, order_in}
use Rattle.queue_selector.specs.Selecting.{row_at, with_front}
use Rattle.queue_laws.specs.Orders.{Ordered, ordered_below}
use Rattle.task_model.specs.MainQueues.{is_of_lane}
use Rattle.work_queue.specs.Lanes.{IsBelow, all_held, emptied, popped}
use Rattle.work_queue.specs.Lanes as lanes
use Rattle.sequence_manager.specs.declared.task_queue.TaskQueue.{TaskQueue}
use Rattle.sequence_manager.specs.declared.manager.Manager.{Manager}

-- fence and voters let a task of this order run
abbrev pub lets_run : TaskQueue → ℕ → Bool
lets_run queue order = all_on queue.voters && lets_pass queue.fence order

-- the order of the front of a lane, where it is open
abbrev pub open_in : Lane → TaskQueue → Option ℕ
open_in lane queue = keep (lets_run queue) (option_map (λ first. first.order) (slice_get (lanes.lane_of queue.tasks lane) 0))

-- a queue with so many voters, and with room for so many tasks, that has none
abbrev pub fresh_queue : ℕ → ℕ → TaskQueue
fresh_queue voters room = record {
  tasks = record { immediate = []; delayed = []; room = room };
  delayed = record { held = []; room = room };
  fence = None;
  voters = replicate voters true;
  cell = Some 0;
  closed = false;
}

-- the queues that some declarations make, with so much room each
abbrev pub fresh_queues : List ℕ → List MainQueue → List TaskQueue
fresh_queues (room ∷ rooms) (queue ∷ queues) = fresh_queue queue.voters room ∷ fresh_queues rooms queues
fresh_queues rooms queues = []

-- their manager: the selector knows their classes, and no order is drawn
abbrev pub fresh_manager : List ℕ → List MainQueue → Manager
fresh_manager rooms queues = record {
  queues = fresh_queues rooms queues;
  selector = record { rows = map (λ queue. record closed_row { class = queue.class }) queues; streak = 0 };
  next_order = 2;
  moment = 0;
}

-- the queue without delayed tasks
abbrev pub without_delayed : TaskQueue → TaskQueue
without_delayed queue = record queue { delayed = with_held queue.delayed [] }

-- the queue without tasks, for ever
abbrev pub closed : TaskQueue → TaskQueue
closed queue = record queue { tasks = emptied queue.tasks; delayed = with_held queue.delayed []; closed = true }

-- the queue behind the take of the front of a lane, which has the cell
abbrev pub taken_from : Lane → TaskQueue → TaskQueue
taken_from lane queue = record queue { tasks = popped queue.tasks lane; cell = None }

-- the queue with one more task at the end of a lane
abbrev pub with_task : Lane → ℕ → ℕ → TaskQueue → TaskQueue
with_task lane task order queue = record queue { tasks = lanes.pushed queue.tasks lane (record { task = task; order = order }) }

-- the queue of this number
abbrev pub queue_at : List TaskQueue → ℕ → TaskQueue
queue_at queues q = slice_index_or queues q (fresh_queue 0 0)

-- the manager with another state of the queue
abbrev pub with_queue : Manager → ℕ → TaskQueue → Manager
with_queue manager q queue = record manager { queues = slice_set manager.queues q queue }

-- the selector knows the open fronts of the queue
abbrev pub refreshed : Manager → ℕ → Manager
refreshed manager q = record manager {
  selector = with_front (with_front manager.selector q Immediate (open_in Immediate (queue_at manager.queues q)))
      q Delayed (open_in Delayed (queue_at manager.queues q));
}

-- what the selector then knows of a queue of this class
abbrev pub row_by : ℕ → TaskQueue → Row
row_by class queue = record { class = class; immediate = open_in Immediate queue; delayed = open_in Delayed queue }

-- the order of a fence that is put into a queue now
abbrev pub order_at : Manager → FenceAt → ℕ
order_at manager Now = manager.next_order
order_at manager Start = 1

-- the manager behind it: a fence behind all tasks draws an order
abbrev pub with_order_at : Manager → FenceAt → Manager
with_order_at manager Now = record manager { next_order = manager.next_order + 1 }
with_order_at manager Start = manager

-- a task of this queue and lane drew the order
pub record HasDrawn (arrivals : List Ordered) (q : ℕ) (lane : Lane) (order : ℕ) : Type 0 where
  pub arrival : Ordered
  pub among : Contains arrivals arrival
  pub order_is : arrival.order ≡ order
  pub home_is : arrival.posted.home ≡ q
  pub of_lane : is_of_lane lane arrival.posted ≡ true

-- the queue is there, and each order that it may tell the selector, or that the selector knows, was drawn by a task of its
-- own, so that no two are the same
pub record CanRefresh (arrivals : List Ordered) (manager : Manager) (q : ℕ) : Type 0 where
  pub there : q < length manager.queues
  pub known : q < length manager.selector.rows
  pub rises : Rises ordered_below arrivals
  pub fronts : (p : ℕ) (lane : Lane) (order : ℕ) → order_in lane (row_at manager.selector p) ≡ Some order → HasDrawn arrivals p lane order
  pub held : (lane : Lane) (order : ℕ) → open_in lane (queue_at manager.queues q) ≡ Some order → HasDrawn arrivals q lane order

-- the manager with one more task at the end of a lane of the queue, under the next order
abbrev pub pushed : Manager → ℕ → Lane → ℕ → Manager
pushed manager q lane task = refreshed (record (with_queue manager q (with_task lane task manager.next_order (queue_at manager.queues q))) {
  next_order = manager.next_order + 1;
}) q

-- there is room for the task and for its order, which is above all that the queue holds; with the task the queue's fronts
-- may be told to the selector
pub record CanPush (arrivals : List Ordered) (manager : Manager) (q : ℕ) (lane : Lane) (task : ℕ) : Type 0 where
  pub there : q < length manager.queues
  pub order_fits : manager.next_order < 2 ^ 63
  pub room : length (all_held (queue_at manager.queues q).tasks) < (queue_at manager.queues q).tasks.room
  pub above : All (IsBelow manager.next_order) (all_held (queue_at manager.queues q).tasks)
  pub then_told : CanRefresh arrivals (record (with_queue manager q (with_task lane task manager.next_order (queue_at manager.queues q))) {
    next_order = manager.next_order + 1;
  }) q
