-- The take of the chosen task keeps what the manager stands for.
-- Cited by `Manager::take`, `Taking`.
use Rattle.std.proofs.Common.{◌≡◌, ℕ, ◌<◌, ◌≤◌, List, [], ◌∷◌, length, sym, ap, ◌∙◌, subst, inl, inr, arith}
use Rattle.std.specs.Prelude.{◌⊎◌}
use Rattle.std.proofs.lemmas.Bool.{cases_eq}
use Rattle.std.proofs.lemmas.List.{length-append, length-drop}
use Rattle.queue_laws.proofs.Arrivals.{main_arrivals_rise}
use Rattle.queue_selector.specs.Selecting.{streak_after}
use Rattle.task_base.specs.Plan.{Plan}
use Rattle.task_base.specs.declared.entry.Entry.{Entry}
use Rattle.task_base.specs.declared.entry.Kind.TheVariants as kinds
use Rattle.task_base.specs.declared.script.Lane.{Lane}
use Rattle.task_base.specs.declared.script.Lane.TheVariants.{Immediate, Delayed}
use Rattle.task_model.specs.MainQueues.{class_of}
use Rattle.task_model.specs.Orders.{next_draw}
use Rattle.queue_laws.specs.Orders.{Ordered, main_arrivals}
use Rattle.work_queue.specs.Lanes.{Lanes, all_held, popped}
use Rattle.sequence_manager.specs.Queues.{IsTable, queue_of, unripe}
use Rattle.sequence_manager.specs.StandsFor.{ArePartsOf, StandsFor}
use Rattle.sequence_manager.specs.State.{CanRefresh, queue_at, refreshed, row_by, taken_from, with_queue}
use Rattle.sequence_manager.specs.declared.manager.Manager.{Manager}
use Rattle.sequence_manager.specs.declared.task_queue.TaskQueue.{TaskQueue}
use Rattle.sequence_manager.proofs.Accepted.{arrival_accepted}
use Rattle.sequence_manager.proofs.Choice.{Knows}
use Rattle.sequence_manager.proofs.Driver.{HasRoom, LeavesQueues, left_at_take}
use Rattle.sequence_manager.proofs.Refreshing.{can_refresh, refreshed_rows}
use Rattle.sequence_manager.proofs.Streak.{streak_at_take}
use Rattle.sequence_manager.proofs.Tables.{queue_at_is, table_set}
use Rattle.sequence_manager.proofs.TakenLanes.{IsTake, other_queue, taken, taken_queue}
use Rattle.sequence_manager.proofs.Pasts.{past_at_take}

-- a queue by a past whose tasks have drawn, and wait, as at another one
abbrev queue_by : Plan → List Entry → List Entry → ℕ → TaskQueue
queue_by script past later q = queue_of script later (main_arrivals past) (unripe past) q

-- the manager without the first task of a lane, before the selector is told of it
abbrev pub untold : Manager → ℕ → Lane → Manager
untold manager queue lane = record (with_queue manager queue (taken_from lane (queue_at manager.queues queue))) {
  selector = record manager.selector { streak = streak_after manager.selector lane };
}

-- what the selector knows of the past
pub knows_past : (script : Plan) (past : List Entry) (manager : Manager) → StandsFor script past manager → Knows script past (unripe past) manager.selector
knows_past script past manager stands = record { same = stands.past_fits.arrivals_are_ordered; rows = stands.parts.rows; streak = stands.parts.streak }

-- the queues behind a take
queues_at_take : {script : Plan} {past : List Entry} {manager : Manager} {task queue : ℕ} {lane : Lane} {o : Ordered} (found : ℕ)
    → IsTake script past manager task queue lane o
    → IsTable (queue_by script past (taken past task queue found)) (length script.queues) (untold manager queue lane).queues
queues_at_take {script = script} {past = past} {manager = manager} {task = task} {queue = queue} {lane = lane} found take =
    table_set (queue_by script past past) (queue_by script past (taken past task queue found)) (length script.queues) manager.queues queue
    (taken_from lane (queue_at manager.queues queue)) take.can.stands.parts.queues take.declared (λ q less apart. other_queue found (unripe past) q take apart)
    (ap (taken_from lane) (queue_at_is (queue_by script past past) (length script.queues) manager.queues queue take.can.stands.parts.queues take.declared)
    ∙ sym (taken_queue found (unripe past) take))

-- one of them
queue_at_take : {script : Plan} {past : List Entry} {manager : Manager} {task queue : ℕ} {lane : Lane} {o : Ordered} (found q : ℕ)
    → IsTake script past manager task queue lane o → q < length script.queues
    → queue_at (untold manager queue lane).queues q ≡ queue_by script past (taken past task queue found) q
queue_at_take {script = script} {past = past} {manager = manager} {task = task} {queue = queue} {lane = lane} found q take less =
    queue_at_is (queue_by script past (taken past task queue found)) (length script.queues) (untold manager queue lane).queues q
    (queues_at_take found take) less

-- the queue may tell its fronts
pub told_at_take : {script : Plan} {past : List Entry} {manager : Manager} {task queue : ℕ} {lane : Lane} {o : Ordered} (found : ℕ)
    → IsTake script past manager task queue lane o → CanRefresh (main_arrivals past) (untold manager queue lane) queue
told_at_take {script = script} {past = past} {manager = manager} {task = task} {queue = queue} {lane = lane} found take =
    let queues = queues_at_take found take in
    can_refresh script past (taken past task queue found) (main_arrivals past) (main_arrivals past) (unripe past) (unripe past)
    (untold manager queue lane) queue (main_arrivals_rise past) (λ x among. among) take.can.stands.parts.rows queues.all take.declared
    (queue_at_take found queue take take.declared)

-- a lane without its first task has no more than it had
popped_le : (lanes : Lanes) (lane : Lane) → length (all_held (popped lanes lane)) ≤ length (all_held lanes)
popped_le lanes Immediate = simp (length-append, length-drop) (omega arith)
popped_le lanes Delayed = simp (length-append, length-drop) (omega arith)

-- the room that is left
room_at_take : {script : Plan} {past : List Entry} {manager : Manager} {task queue : ℕ} {lane : Lane} {o : Ordered} (found q : ℕ)
    → IsTake script past manager task queue lane o → q < length script.queues → HasRoom past q (queue_at (untold manager queue lane).queues q)
room_at_take {script = script} {past = past} {manager = manager} {task = task} {queue = queue} {lane = lane} found q take less = by_queue (cases_eq q queue)
  where
    was : queue_at manager.queues q ≡ queue_by script past past q
    was = queue_at_is (queue_by script past past) (length script.queues) manager.queues q take.can.stands.parts.queues less

    by_queue : (q ≡ queue) ⊎ (q ≡ queue → ⊥) → HasRoom past q (queue_at (untold manager queue lane).queues q)
    by_queue (inl same) = subst (HasRoom past q)
        (ap (taken_from lane) (was ∙ ap (queue_by script past past) same) ∙ sym (taken_queue found (unripe past) take)
        ∙ ap (queue_by script past (taken past task queue found)) (sym same) ∙ sym (queue_at_take found q take less))
        (omega (arith, take.can.stands.parts.room q less, popped_le (queue_at manager.queues q).tasks lane))
    by_queue (inr apart) = subst (HasRoom past q) (was ∙ other_queue found (unripe past) q take apart ∙ sym (queue_at_take found q take less))
        (take.can.stands.parts.room q less)

-- the manager without the first task of the chosen lane stands for the past behind its take
pub stands_at_take : {script : Plan} {past : List Entry} {manager : Manager} {task queue : ℕ} {lane : Lane} {o : Ordered} (found : ℕ)
    → IsTake script past manager task queue lane o → StandsFor script (taken past task queue found) (refreshed (untold manager queue lane) queue)
stands_at_take {script = script} {past = past} {manager = manager} {task = task} {queue = queue} {lane = lane} {o = o} found take = record {
  script_fits = stands.script_fits;
  past_fits = past_at_take script past task queue found o stands.past_fits take.first.among take.task_is;
  parts = rw (leaves.arrivals, leaves.waiting, leaves.draw) parts;
  moment = stands.moment ∙ sym leaves.now;
}
  where
    later : List Entry
    later = taken past task queue found

    stands : StandsFor script past manager
    stands = take.can.stands

    leaves : LeavesQueues script past later
    leaves = left_at_take script past 0 task queue found

    parts : ArePartsOf script later (main_arrivals past) (unripe past) (next_draw past) (refreshed (untold manager queue lane) queue)
    parts = record {
      queues = queues_at_take found take;
      rows = refreshed_rows script past later (main_arrivals past) (main_arrivals past) (unripe past) (unripe past) (untold manager queue lane) queue
          stands.parts.rows take.declared (queue_at_take found queue take take.declared) (sym (leaves.class queue))
          (λ p less apart. ap (λ c. row_by c (queue_by script past past p)) (sym (leaves.class p))
          ∙ ap (row_by (class_of script later p)) (other_queue found (unripe past) p take apart));
      streak = streak_at_take script past (unripe past) manager.selector lane o.posted task queue found (knows_past script past manager stands)
          stands.past_fits.in_order (arrival_accepted past o stands.past_fits.arrivals_are_ordered take.first.among).0 take.first.of_lane take.task_is;
      order_is = stands.parts.order_is;
      room = λ q less. rw leaves.posts (room_at_take found q take less);
      few_orders = omega (arith, stands.parts.few_orders, length-append past (record { seat = 0; kind = kinds.MainTake task queue found } ∷ []));
    }
