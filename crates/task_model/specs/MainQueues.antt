-- Which main task the driver takes next (`sequence_manager.h` and `task_queue.h` for fences, voters and priorities; the
-- exact rules are this project's own).
use Rattle.std.specs.Prelude.{ℕ, ◌+◌, ◌==◌, Bool, true, false, not, ◌&&◌, nat_lt, nat_le, if◌then◌else◌, List, ◌++◌, length, filter, fold, Option, Some, None, slice_get}
use Rattle.std.specs.List.{list_any, list_all, filter_map, flat_map, range_with_len}
use Rattle.std.specs.Option.{option_map_or, option_map, option_to_list}
use Rattle.task_base.specs.Plan.{Plan}
use Rattle.task_base.specs.declared.entry.Entry.{Entry}
use Rattle.task_base.specs.declared.entry.Kind.{Kind}
use Rattle.task_base.specs.declared.entry.Kind.TheVariants as kinds
use Rattle.task_base.specs.declared.script.FenceAt.TheVariants.{Now, Start}
use Rattle.task_base.specs.declared.script.Lane.{Lane}
use Rattle.task_base.specs.declared.script.Lane.TheVariants.{Immediate, Delayed}
use Rattle.list_laws.specs.Lists.{least, holds_of}
use Rattle.task_model.specs.Past.{fold_past}
use Rattle.task_model.specs.Posts.{Posted, is_delayed, main_posts, is_main_taken}
use Rattle.task_model.specs.Refusal.{is_closed}
use Rattle.task_model.specs.Orders.{next_draw, order_of}

-- the fence of a queue after an entry: at 1 for `start`, which is before all tasks, and at a new draw for `now`
abbrev pub fence_after : ℕ → List Entry → Option ℕ → Kind → Option ℕ
fence_after q before now (kinds.Fence queue Now) = if queue == q then Some (next_draw before) else now
fence_after q before now (kinds.Fence queue Start) = if queue == q then Some 1 else now
fence_after q before now (kinds.Unfence queue) = if queue == q then None else now
fence_after q before now kind = now

-- the fence that was set on the queue last, if it was not removed
unfoldable pub fence_of : List Entry → ℕ → Option ℕ
fence_of past q = fold_past (λ before now e. fence_after q before now e.kind) None past

-- a voter's vote after an entry
abbrev pub vote_after : ℕ → ℕ → Bool → Kind → Bool
vote_after q v now (kinds.Vote queue voter on) = if queue == q && voter == v then on else now
vote_after q v now kind = now

-- the last vote of a voter of the queue, at first on
unfoldable pub votes_on : List Entry → ℕ → ℕ → Bool
votes_on past q v = fold (λ now e. vote_after q v now e.kind) true past

-- how many voters the queue has
abbrev pub voters_of : Plan → ℕ → ℕ
voters_of script q = option_map_or (λ queue. queue.voters) (slice_get script.queues q) 0

-- the queue is enabled: all its voters vote on
abbrev pub is_enabled : Plan → List Entry → ℕ → Bool
is_enabled script past q = list_all (votes_on past q) (range_with_len 0 (voters_of script q))

-- the class of a queue after an entry
abbrev pub class_after : ℕ → ℕ → Kind → ℕ
class_after q now (kinds.Rank queue class) = if queue == q then class else now
class_after q now kind = now

-- the priority class that the queue was given last, at first the script's
unfoldable pub class_of : Plan → List Entry → ℕ → ℕ
class_of script past q = fold (λ now e. class_after q now e.kind) (option_map_or (λ queue. queue.class) (slice_get script.queues q) 0) past

-- the lane of an accepted task
abbrev pub is_of_lane : Lane → Posted → Bool
is_of_lane Immediate p = not (is_delayed p)
is_of_lane Delayed p = is_delayed p

-- it is the immediate lane
abbrev pub is_immediate : Lane → Bool
is_immediate Immediate = true
is_immediate Delayed = false

-- a task in a lane of a queue, with its order and the queue's class
pub record Front : Type 0 where
  pub queue : ℕ
  pub lane : Lane
  pub task : ℕ
  pub order : ℕ
  pub class : ℕ

-- an accepted task that has an order
abbrev pub front_with : Plan → List Entry → ℕ → Lane → Posted → Option Front
front_with script past q lane p =
    option_map (λ order. record { queue = q; lane = lane; task = p.task; order = order; class = class_of script past q }) (order_of past p)

-- the accepted task of this queue and lane has not been taken
abbrev pub is_in_lane : List Entry → ℕ → Lane → Posted → Bool
is_in_lane past q lane p = p.home == q && is_of_lane lane p && not (is_main_taken past p.task)

-- the first front has the lesser order
abbrev pub order_below : Front → Front → Bool
order_below a b = nat_lt a.order b.order

-- the front of a lane: its task of least order that has not been taken
unfoldable pub front_of : Plan → List Entry → ℕ → Lane → Option Front
front_of script past q lane = least order_below (filter_map (front_with script past q lane) (filter (is_in_lane past q lane) (main_posts past)))

-- the front is open: its queue is enabled and not closed, and its order is below the fence
abbrev pub is_open : Plan → List Entry → Front → Bool
is_open script past f =
    not (is_closed past f.queue) && is_enabled script past f.queue && option_map_or (nat_lt f.order) (fence_of past f.queue) true

-- the fronts of both lanes of a queue
abbrev pub fronts_of : Plan → List Entry → ℕ → List Front
fronts_of script past q = option_to_list (front_of script past q Immediate) ++ option_to_list (front_of script past q Delayed)

-- the open fronts of all queues
unfoldable pub open_fronts : Plan → List Entry → List Front
open_fronts script past = filter (is_open script past) (flat_map (fronts_of script past) (range_with_len 0 (length script.queues)))

-- the queue of the first front has the lesser class
abbrev pub class_below : Front → Front → Bool
class_below a b = nat_lt a.class b.class

-- the least class among some fronts
abbrev pub least_class : List Front → Option ℕ
least_class fronts = option_map (λ f. f.class) (least class_below fronts)

-- those of the least class
unfoldable pub of_least_class : List Front → List Front
of_least_class fronts = filter (λ f. holds_of (λ class. f.class == class) (least_class fronts)) fronts

-- the immediate ones among those of the least class
abbrev pub immediate_of_least_class : List Front → List Front
immediate_of_least_class fronts = filter (λ f. is_immediate f.lane) (of_least_class fronts)

-- the immediate ones among the open fronts of the chosen class
abbrev pub immediate_fronts : Plan → List Entry → List Front
immediate_fronts script past = immediate_of_least_class (open_fronts script past)

-- the main task is a delayed one
abbrev pub is_delayed_task : List Entry → ℕ → Bool
is_delayed_task past t = list_any (λ p. p.task == t && is_delayed p) (main_posts past)

-- the streak after an entry: one more at a main take of a delayed task while an immediate front of the chosen class is
-- open, and 0 at any other main take
abbrev pub streak_after : Plan → List Entry → ℕ → Kind → ℕ
streak_after script before n (kinds.MainTake task queue found) =
    if is_delayed_task before task && nat_lt 0 (length (immediate_fronts script before)) then n + 1 else 0
streak_after script before n kind = n

-- how many of the last main tasks in a row were delayed ones, taken while an immediate front of the chosen class was
-- open
unfoldable pub streak_of : Plan → List Entry → ℕ
streak_of script past = fold_past (λ before n e. streak_after script before n e.kind) 0 past

-- immediate tasks waited through three delayed ones, and an immediate one of the least class is among the fronts
abbrev pub is_starved : List Front → ℕ → Bool
is_starved fronts streak = nat_le 3 streak && nat_lt 0 (length (immediate_of_least_class fronts))

-- the choice among open fronts after a streak: of those of the least class, or where immediate tasks are starved of the
-- immediate ones among them, the one of least order
unfoldable pub choice_among : List Front → ℕ → Option Front
choice_among fronts streak = least order_below (if is_starved fronts streak then immediate_of_least_class fronts else of_least_class fronts)

-- the chosen front: the choice among the open fronts after the streak
abbrev pub chosen_of : Plan → List Entry → Option Front
chosen_of script past = choice_among (open_fronts script past) (streak_of script past)
