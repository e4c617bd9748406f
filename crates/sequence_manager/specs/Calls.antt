-- What each call of the manager asks of its caller, and answers.
use Rattle.std.specs.Prelude.{◌≡◌, ℕ, ◌<◌, ◌≤◌, ◌^◌, Bool, List, length, Option, Some, None}
use Rattle.task_base.specs.Plan.{Plan}
use Rattle.task_base.specs.declared.entry.Entry.{Entry}
use Rattle.task_base.specs.declared.entry.Kind.TheVariants as kinds
use Rattle.task_base.specs.declared.script.FenceAt.{FenceAt}
use Rattle.task_base.specs.declared.limits.TheConstants.{LAST_MOMENT, MOST_MICROSECONDS}
use Rattle.task_base.specs.Entries.{next}
use Rattle.queue_selector.specs.declared.selector.TheConstants.{LAST_CLASS}
use Rattle.task_model.specs.Cells.{main_cell_of}
use Rattle.task_model.specs.MainQueues.{Front, chosen_of, voters_of}
use Rattle.pool_laws.specs.Posts.{main_post_of}
use Rattle.task_model.specs.Seats.{Running}
use Rattle.task_model.specs.Time.{now_of}
use Rattle.sequence_manager.specs.Pasts.{IsPostedTo, main_running}
use Rattle.sequence_manager.specs.StandsFor.{StandsFor}
use Rattle.sequence_manager.specs.declared.manager.Manager.{Manager}

-- the past with an entry of each kind of the main queues
abbrev pub after_main : List Entry → ℕ → ℕ → ℕ → ℕ → Bool → List Entry
after_main past seat task queue delay ok = next past seat (kinds.Main task queue delay ok)

abbrev pub after_tick : List Entry → ℕ → ℕ → List Entry
after_tick past seat moment = next past seat (kinds.Tick moment)

abbrev pub after_fence : List Entry → ℕ → ℕ → FenceAt → List Entry
after_fence past seat queue at = next past seat (kinds.Fence queue at)

abbrev pub after_unfence : List Entry → ℕ → ℕ → List Entry
after_unfence past seat queue = next past seat (kinds.Unfence queue)

abbrev pub after_vote : List Entry → ℕ → ℕ → ℕ → Bool → List Entry
after_vote past seat queue voter on = next past seat (kinds.Vote queue voter on)

abbrev pub after_rank : List Entry → ℕ → ℕ → ℕ → List Entry
after_rank past seat queue class = next past seat (kinds.Rank queue class)

abbrev pub after_close : List Entry → ℕ → ℕ → List Entry
after_close past seat queue = next past seat (kinds.Close queue)

-- the driver has taken a main task, or found none
abbrev pub after_take : List Entry → Option (ℕ × ℕ × ℕ) → List Entry
after_take past (Some (task, queue, cell)) = next past 0 (kinds.MainTake task queue cell)
after_take past None = past

abbrev pub after_end : List Entry → ℕ → ℕ → List Entry
after_end past task left = next past 0 (kinds.MainEnd task left)

-- the entry's place is the next one; the task may be posted to the queue, and was not accepted before
pub record CanPost (script : Plan) (past : List Entry) (manager : Manager) (place task queue delay : ℕ) : Type 0 where
  pub stands : StandsFor script past manager
  pub place_is : place ≡ length past
  pub few : length past < 2 ^ 32
  pub posted : IsPostedTo script task queue
  pub is_new : main_post_of past task ≡ None
  pub delay_fits : delay ≤ MOST_MICROSECONDS

-- the moment is at least the last one
pub record CanTick (script : Plan) (past : List Entry) (manager : Manager) (moment : ℕ) : Type 0 where
  pub stands : StandsFor script past manager
  pub few : length past < 2 ^ 32
  pub later : now_of past ≤ moment
  pub fits : moment ≤ LAST_MOMENT

-- the manager stands for the past, and the queue is declared
pub record HasQueue (script : Plan) (past : List Entry) (manager : Manager) (queue : ℕ) : Type 0 where
  pub stands : StandsFor script past manager
  pub declared : queue < length script.queues

-- the queue is declared, and there are orders left
pub record CanFence (script : Plan) (past : List Entry) (manager : Manager) (queue : ℕ) : Type 0 where
  pub at : HasQueue script past manager queue
  pub few : length past < 2 ^ 32

-- the queue has the voter
pub record CanVote (script : Plan) (past : List Entry) (manager : Manager) (queue voter : ℕ) : Type 0 where
  pub at : HasQueue script past manager queue
  pub has : voter < voters_of script queue

-- the class is one of those that there are
pub record CanRank (script : Plan) (past : List Entry) (manager : Manager) (queue class : ℕ) : Type 0 where
  pub at : HasQueue script past manager queue
  pub fits : class ≤ LAST_CLASS

-- no main task runs
pub record CanTake (script : Plan) (past : List Entry) (manager : Manager) : Type 0 where
  pub stands : StandsFor script past manager
  pub idle : main_running past ≡ None

-- the driver runs this task of the queue
pub record RunsMain (script : Plan) (past : List Entry) (manager : Manager) (queue : ℕ) (w : Running) : Type 0 where
  pub stands : StandsFor script past manager
  pub declared : queue < length script.queues
  pub runs : main_running past ≡ Some w
  pub home_is : w.home ≡ queue

-- the task is the chosen front of the queue, and comes with the queue's cell
pub record IsTaken (script : Plan) (past : List Entry) (task queue cell : ℕ) : Type 0 where
  pub front : Front
  pub chosen : chosen_of script past ≡ Some front
  pub task_is : front.task ≡ task
  pub queue_is : front.queue ≡ queue
  pub cell_is : cell ≡ main_cell_of past queue

-- what the manager's take answers: the chosen front, or none exactly where no front is open
abbrev pub TakeAnswers : Plan → List Entry → Option (ℕ × ℕ × ℕ) → Type 0
TakeAnswers script past (Some (task, queue, cell)) = IsTaken script past task queue cell
TakeAnswers script past None = chosen_of script past ≡ None
