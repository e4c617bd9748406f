-- What the manager chooses is the chosen task of the past, and is there to be taken.
-- Cited by `Manager::take`.
use Rattle.std.proofs.Common.{◌≡◌, ℕ, ◌<◌, Bool, false, cond, List, [], length, map, refl, sym, ap, ◌∙◌, subst, Option, Some, None}
use Rattle.std.specs.Prelude.{IfSome, filter, find, slice_get}
use Rattle.std.specs.Option.{option_map}
use Rattle.std.proofs.lemmas.Option.{none-some}
use Rattle.list_laws.proofs.Values.{some-injective}
use Rattle.queue_selector.specs.Selecting.{choice}
use Rattle.task_base.specs.Plan.{Plan}
use Rattle.task_base.specs.declared.entry.Entry.{Entry}
use Rattle.task_base.specs.declared.script.Lane.{Lane}
use Rattle.task_model.specs.Cells.{main_cell_of}
use Rattle.task_model.specs.MainQueues.{Front, chosen_of, is_in_lane}
use Rattle.queue_laws.specs.Orders.{Ordered, main_arrivals}
use Rattle.task_model.specs.Posts.{Posted}
use Rattle.task_model.specs.Refusal.{is_closed}
use Rattle.work_queue.specs.Lanes.{lane_of}
use Rattle.work_queue.specs.declared.queued.Queued.{Queued}
use Rattle.sequence_manager.specs.Calls.{CanTake, IsTaken}
use Rattle.sequence_manager.specs.Queues.{held_in, queue_of, queued_of, unripe}
use Rattle.sequence_manager.specs.declared.manager.Manager.{Manager}
use Rattle.sequence_manager.specs.declared.task_queue.TaskQueue.{TaskQueue}
use Rattle.sequence_manager.proofs.Choice.{IsChosen, choice_seen, chosen_is, place_of}
use Rattle.sequence_manager.proofs.Driver.{cell_in}
use Rattle.sequence_manager.proofs.Lists.{first_kept}
use Rattle.sequence_manager.proofs.Refreshing.{lane_is_held}
use Rattle.sequence_manager.proofs.TakenLanes.{IsTake, cell_at_home, first_is}
use Rattle.sequence_manager.proofs.Takes.{knows_past}

-- what the selector chooses is the first task of the chosen lane
pub chosen_from : {script : Plan} {past : List Entry} {manager : Manager} {queue : ℕ} {lane : Lane} → CanTake script past manager
    → ◌≡◌ {A = Option (ℕ × Lane)} (Some (queue, lane)) (choice manager.selector) → IsChosen script past queue lane
chosen_from {script = script} {past = past} {manager = manager} {queue = queue} {lane = lane} can is =
    by_front (chosen_of script past) refl (is ∙ choice_seen script past (unripe past) manager.selector (knows_past script past manager can.stands))
  where
    by_front : (o : Option Front) → chosen_of script past ≡ o → ◌≡◌ {A = Option (ℕ × Lane)} (Some (queue, lane)) (option_map place_of o)
        → IsChosen script past queue lane
    by_front None none same = absurd (none-some (queue, lane) (sym same))
    by_front (Some f) chosen same = subst (λ (place : ℕ × Lane). IsChosen script past place.0 place.1) (sym (some-injective same))
        (chosen_is script past f can.stands.past_fits.arrivals_are_ordered chosen)

-- where it chooses none, none is to be taken
pub nothing_chosen : {script : Plan} {past : List Entry} {manager : Manager} → CanTake script past manager
    → ◌≡◌ {A = Option (ℕ × Lane)} None (choice manager.selector) → chosen_of script past ≡ None
nothing_chosen {script = script} {past = past} {manager = manager} can is =
    by_front (chosen_of script past) (is ∙ choice_seen script past (unripe past) manager.selector (knows_past script past manager can.stands))
  where
    by_front : (o : Option Front) → ◌≡◌ {A = Option (ℕ × Lane)} None (option_map place_of o) → o ≡ None
    by_front None same = refl
    by_front (Some f) same = absurd (none-some (place_of f) same)

-- the queue that is there, by the past
there_is : {script : Plan} {past : List Entry} {manager : Manager} {queue : ℕ} {x : TaskQueue} → CanTake script past manager → queue < length script.queues
    → slice_get manager.queues queue ≡ Some x → queue_of script past (main_arrivals past) (unripe past) queue ≡ x
there_is {queue = queue} can declared is = some-injective (sym (can.stands.parts.queues.each queue declared) ∙ is)

-- the first of a lane whose queue is not closed
first_held : (past : List Entry) (arrivals : List Ordered) (q : ℕ) (lane : Lane) (o : Ordered) → is_closed past q ≡ false
    → find (λ x. is_in_lane past q lane x.posted) arrivals ≡ Some o → slice_get (held_in past arrivals q lane) 0 ≡ Some (queued_of o)
first_held past arrivals q lane o still_open found =
    ap (λ (b : Bool). slice_get (cond b [] (map queued_of (filter (λ x. is_in_lane past q lane x.posted) arrivals))) 0) still_open
    ∙ first_kept queued_of (λ x. is_in_lane past q lane x.posted) arrivals
    ∙ ap (option_map queued_of) found

-- the chosen task stands first in its lane
pub front_there : {script : Plan} {past : List Entry} {manager : Manager} {queue : ℕ} {lane : Lane} {x : TaskQueue} → CanTake script past manager
    → (chosen : IsChosen script past queue lane) → slice_get manager.queues queue ≡ Some x
    → slice_get (lane_of x.tasks lane) 0 ≡ Some (queued_of chosen.first)
front_there {script = script} {past = past} {queue = queue} {lane = lane} can chosen is =
    ap (λ (y : TaskQueue). slice_get (lane_of y.tasks lane) 0) (sym (there_is can chosen.declared is))
    ∙ ap (λ held. slice_get held 0) (lane_is_held script past (main_arrivals past) (unripe past) queue lane)
    ∙ first_held past (main_arrivals past) queue lane chosen.first chosen.still_open chosen.found

-- the cell of a queue by the past
cell_is : (script : Plan) (past : List Entry) (arrivals : List Ordered) (waiting : List Posted) (q : ℕ)
    → (queue_of script past arrivals waiting q).cell ≡ cell_in past q
unfolding queue_of
cell_is script past arrivals waiting q = refl

-- and the cell is at home
pub cell_there : {script : Plan} {past : List Entry} {manager : Manager} {queue : ℕ} {lane : Lane} {x : TaskQueue} → CanTake script past manager
    → IsChosen script past queue lane → slice_get manager.queues queue ≡ Some x → x.cell ≡ Some (main_cell_of past queue)
cell_there {script = script} {past = past} {queue = queue} can chosen is =
    ap (λ (y : TaskQueue). y.cell) (sym (there_is can chosen.declared is))
    ∙ cell_is script past (main_arrivals past) (unripe past) queue
    ∙ cell_at_home past queue can.idle

-- the number of the front that is taken out
pub task_out : {o : Option Queued} {task : ℕ} (first : Ordered) → o ≡ Some (queued_of first) → IfSome o (λ x. task ≡ x.task) → task ≡ first.posted.task
task_out {task = task} first is out = subst (λ o. IfSome o (λ x. task ≡ x.task)) is out

-- what is answered: the chosen task, with the cell of its queue
pub taken_is : {script : Plan} {past : List Entry} {manager : Manager} {queue task cell : ℕ} {lane : Lane} {x : TaskQueue} → CanTake script past manager
    → (chosen : IsChosen script past queue lane) → slice_get manager.queues queue ≡ Some x → task ≡ chosen.first.posted.task → x.cell ≡ Some cell
    → IsTaken script past task queue cell
taken_is can chosen is task_is cell_is = record {
  front = chosen.front;
  chosen = chosen.chosen;
  task_is = chosen.task_is ∙ sym task_is;
  queue_is = chosen.queue_is;
  cell_is = some-injective (sym cell_is ∙ cell_there can chosen is);
}

-- so the driver takes it
pub take_is : {script : Plan} {past : List Entry} {manager : Manager} {queue task : ℕ} {lane : Lane} → CanTake script past manager
    → (chosen : IsChosen script past queue lane) → task ≡ chosen.first.posted.task → IsTake script past manager task queue lane chosen.first
take_is {past = past} {queue = queue} {lane = lane} can chosen task_is = record {
  can = can;
  declared = chosen.declared;
  first = first_is past queue lane chosen.first chosen.found;
  task_is = task_is;
}
