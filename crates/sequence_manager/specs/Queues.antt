-- What each main queue holds, by the past.
use Rattle.std.specs.Prelude.{◌≡◌, ℕ, ◌<◌, ◌==◌, not, ◌&&◌, nat_lt, Bool, if◌then◌else◌, List, [], length, map, filter, Some, None, slice_get}
use Rattle.std.specs.List.{range_with_len}
use Rattle.task_base.specs.Plan.{Plan}
use Rattle.task_base.specs.declared.entry.Entry.{Entry}
use Rattle.task_base.specs.declared.script.Lane.{Lane}
use Rattle.task_base.specs.declared.script.Lane.TheVariants.{Immediate, Delayed}
use Rattle.list_laws.specs.Lists.{holds_of}
use Rattle.list_laws.specs.Sorts.{sort_by}
use Rattle.delayed_manager.specs.declared.ripening.Ripening.{Ripening}
use Rattle.task_model.specs.Cells.{main_cell_of}
use Rattle.task_model.specs.MainQueues.{class_of, fence_of, is_in_lane, votes_on, voters_of}
use Rattle.queue_laws.specs.Orders.{Ordered}
use Rattle.task_model.specs.Posts.{Posted, is_delayed, main_posts, ripens_before}
use Rattle.task_model.specs.Refusal.{is_closed}
use Rattle.task_model.specs.Time.{now_of}
use Rattle.work_queue.specs.declared.queued.Queued.{Queued}
use Rattle.queue_selector.specs.declared.row.Row.{Row}
use Rattle.sequence_manager.specs.Pasts.{main_running}
use Rattle.sequence_manager.specs.Postings.{room_of}
use Rattle.sequence_manager.specs.State.{row_by}
use Rattle.sequence_manager.specs.declared.task_queue.TaskQueue.{TaskQueue}

-- the list has so many elements, and each is what its place says
pub record IsTable {A : Type 0} (at : ℕ → A) (count : ℕ) (xs : List A) : Type 0 where
  pub all : length xs ≡ count
  pub each : (i : ℕ) → i < count → slice_get xs i ≡ Some (at i)

-- a task that has an order, as a lane keeps it
abbrev pub queued_of : Ordered → Queued
queued_of o = record { task = o.posted.task; order = o.order }

-- of the tasks that have orders, those that lie in a lane of the queue, unless it is closed
abbrev pub held_in : List Entry → List Ordered → ℕ → Lane → List Queued
held_in past arrivals q lane = if is_closed past q then [] else map queued_of (filter (λ o. is_in_lane past q lane o.posted) arrivals)

-- a delayed task that is not ripe, of a queue that is not closed
abbrev pub waits : List Entry → Posted → Bool
waits past p = is_delayed p && not (is_closed past p.home) && nat_lt (now_of past) p.ripe

-- those tasks in the order in which they ripen
abbrev pub unripe : List Entry → List Posted
unripe past = sort_by ripens_before (filter (waits past) (main_posts past))

-- a delayed task as it is kept
abbrev pub ripening_of : Posted → Ripening
ripening_of p = record { ripe = p.ripe; post = p.place; task = p.task }

-- a task of the queue runs, and has its cell
abbrev pub is_out : List Entry → ℕ → Bool
is_out past q = holds_of (λ w. w.home == q) (main_running past)

-- the queue, where these tasks have orders, and those delayed ones have none
unfoldable pub queue_of : Plan → List Entry → List Ordered → List Posted → ℕ → TaskQueue
queue_of script past arrivals waiting q = record {
  tasks = record {
    immediate = held_in past arrivals q Immediate;
    delayed = held_in past arrivals q Delayed;
    room = room_of script q;
  };
  delayed = record { held = map ripening_of (filter (λ p. p.home == q) waiting); room = room_of script q };
  fence = fence_of past q;
  voters = map (votes_on past q) (range_with_len 0 (voters_of script q));
  cell = if is_out past q then None else Some (main_cell_of past q);
  closed = is_closed past q;
}

-- what the selector knows of the queue
abbrev pub row_of : Plan → List Entry → List Ordered → List Posted → ℕ → Row
row_of script past arrivals waiting q = row_by (class_of script past q) (queue_of script past arrivals waiting q)
