-- What the take of the first task of a lane does to the queues.
-- Cited by `Takes`, `Taking`.
use Rattle.std.proofs.Common.{◌≡◌, ℕ, ◌<◌, Bool, true, false, cond, List, [], length, map, drop, refl, sym, ap, ◌∙◌, Some, None}
use Rattle.std.specs.Prelude.{◌==◌, ◌&&◌, ◌||◌, not, filter, find, Contains}
use Rattle.std.specs.List.{AllByRecursion}
use Rattle.std.proofs.lemmas.Bool.{and_left, and_parts, and_right, eqb-true, ne_eqb, not-true, not_from_true}
use Rattle.std.proofs.lemmas.List.{drop-map}
use Rattle.list_laws.specs.Lists.{holds_of}
use Rattle.list_laws.proofs.Elements.{AllByRecursion-contains_itself, AllByRecursion-map}
use Rattle.list_laws.proofs.Filters.{filter-filter, filter_congr}
use Rattle.list_laws.proofs.Finds.{find_contains, find_passes}
use Rattle.list_laws.proofs.Ranks.{ranks_by}
use Rattle.list_laws.proofs.Rises.{found_dropped}
use Rattle.list_laws.proofs.Values.{eqb-same}
use Rattle.queue_laws.proofs.Arrivals.{main_arrivals_rise}
use Rattle.queue_laws.specs.Orders.{ordered_below, Ordered, main_arrivals}
use Rattle.task_base.specs.Plan.{Plan}
use Rattle.task_base.specs.declared.entry.Entry.{Entry}
use Rattle.task_base.specs.declared.entry.Kind.TheVariants as kinds
use Rattle.task_base.specs.declared.script.Lane.{Lane}
use Rattle.task_base.specs.declared.script.Lane.TheVariants.{Immediate, Delayed}
use Rattle.task_base.specs.Entries.{next}
use Rattle.task_model.proofs.Growth.{is_main_taken_push, main_cell_of_push, running_push}
use Rattle.task_model.specs.Cells.{main_cell_of}
use Rattle.task_model.specs.MainQueues.{is_in_lane, is_of_lane}
use Rattle.task_model.specs.Posts.{Posted, is_delayed, is_main_taken}
use Rattle.task_model.specs.Refusal.{is_closed}
use Rattle.sequence_manager.specs.Calls.{CanTake}
use Rattle.sequence_manager.specs.Pasts.{main_running}
use Rattle.sequence_manager.specs.Queues.{held_in, queue_of, queued_of}
use Rattle.sequence_manager.specs.State.{taken_from}
use Rattle.sequence_manager.specs.declared.manager.Manager.{Manager}
use Rattle.sequence_manager.proofs.Accepted.{one_arrival}
use Rattle.sequence_manager.proofs.Driver.{cell_in, held_same, left_at_take, own_parts, queue_left, with_lanes}
use Rattle.sequence_manager.proofs.Lists.{unmarked_left}
use Rattle.sequence_manager.proofs.Refreshing.{lane_is_held}

-- the past behind the take of a main task
abbrev pub taken : List Entry → ℕ → ℕ → ℕ → List Entry
taken past task queue found = next past 0 (kinds.MainTake task queue found)

-- the task that drew the order stands first in the lane
pub record IsFirst (past : List Entry) (queue : ℕ) (lane : Lane) (o : Ordered) : Type 0 where
  pub found : find (λ x. is_in_lane past queue lane x.posted) (main_arrivals past) ≡ Some o
  pub among : Contains (main_arrivals past) o
  pub home_is : o.posted.home ≡ queue
  pub of_lane : is_of_lane lane o.posted ≡ true

-- so does the one that is found
pub first_is : (past : List Entry) (queue : ℕ) (lane : Lane) (o : Ordered)
    → find (λ x. is_in_lane past queue lane x.posted) (main_arrivals past) ≡ Some o → IsFirst past queue lane o
first_is past queue lane o found =
    let waits : is_in_lane past queue lane o.posted ≡ true = find_passes (λ x. is_in_lane past queue lane x.posted) (main_arrivals past) o found in
    let (here, free) = and_parts (o.posted.home == queue && is_of_lane lane o.posted) (not (is_main_taken past o.posted.task)) waits in
    let (home, of_lane) = and_parts (o.posted.home == queue) (is_of_lane lane o.posted) here in record {
      found = found;
      among = find_contains (λ x. is_in_lane past queue lane x.posted) (main_arrivals past) o found;
      home_is = eqb-true o.posted.home queue home;
      of_lane = of_lane;
    }

-- the driver takes this task, the first of a lane
pub record IsTake (script : Plan) (past : List Entry) (manager : Manager) (task queue : ℕ) (lane : Lane) (o : Ordered) : Type 0 where
  pub can : CanTake script past manager
  pub declared : queue < length script.queues
  pub first : IsFirst past queue lane o
  pub task_is : task ≡ o.posted.task

-- The lanes.

-- what lies in a lane behind a take: not the task that is taken
in_lane_behind : (past : List Entry) (task queue found q : ℕ) (lane : Lane) (p : Posted)
    → is_in_lane (taken past task queue found) q lane p ≡ (is_in_lane past q lane p && not (task == p.task))
in_lane_behind past task queue found q lane p =
    ap (λ b. p.home == q && is_of_lane lane p && not b) (is_main_taken_push past (record { seat = 0; kind = kinds.MainTake task queue found }) p.task)
    ∙ parts (p.home == q && is_of_lane lane p) (is_main_taken past p.task) (task == p.task)
  where
    parts : (a b c : Bool) → (a && not (b || c)) ≡ (a && not b && not c)
    parts true true c = refl
    parts true false c = refl
    parts false b c = refl

-- so a lane keeps all others
kept_behind : (past : List Entry) (task queue found : ℕ) (arrivals : List Ordered) (q : ℕ) (lane : Lane)
    → filter (λ o. is_in_lane (taken past task queue found) q lane o.posted) arrivals
    ≡ filter (λ o. not (task == o.posted.task)) (filter (λ o. is_in_lane past q lane o.posted) arrivals)
kept_behind past task queue found arrivals q lane =
    filter_congr (λ o. is_in_lane (taken past task queue found) q lane o.posted) (λ o. is_in_lane past q lane o.posted && not (task == o.posted.task))
    arrivals (λ o. in_lane_behind past task queue found q lane o.posted)
    ∙ sym (filter-filter (λ o. not (task == o.posted.task)) (λ o. is_in_lane past q lane o.posted) arrivals)

-- of the tasks that have drawn, only the one that is taken has its number
one_marked : {script : Plan} {past : List Entry} {manager : Manager} {task queue : ℕ} {lane : Lane} {o : Ordered} → IsTake script past manager task queue lane o
    → AllByRecursion (λ x. (task == x.posted.task) ≡ true → x ≡ o) (main_arrivals past)
one_marked {past = past} {task = task} {o = o} take =
    let fits = take.can.stands.past_fits in
    AllByRecursion-map (Contains (main_arrivals past)) (λ x. (task == x.posted.task) ≡ true → x ≡ o) (main_arrivals past)
    (λ x among same. one_arrival past x o fits.in_order fits.arrivals_are_ordered among take.first.among
    (sym (eqb-true task x.posted.task same) ∙ take.task_is)) (AllByRecursion-contains_itself (main_arrivals past))

-- its lane loses it
lane_at_take : {script : Plan} {past : List Entry} {manager : Manager} {task queue : ℕ} {lane : Lane} {o : Ordered} (found : ℕ)
    → IsTake script past manager task queue lane o
    → held_in (taken past task queue found) (main_arrivals past) queue lane ≡ drop 1 (held_in past (main_arrivals past) queue lane)
lane_at_take {script = script} {past = past} {task = task} {queue = queue} {lane = lane} {o = o} found take =
    held_same past (taken past task queue found) (main_arrivals past) queue lane (drop 1 (filter passes (main_arrivals past)))
    ((left_at_take script past 0 task queue found).closed queue)
    (kept_behind past task queue found (main_arrivals past) queue lane
    ∙ found_dropped ordered_below passes (λ x. task == x.posted.task) (main_arrivals past) o (ranks_by (λ x. x.order)) (main_arrivals_rise past)
    take.first.found (ap (λ t. task == t) (sym take.task_is) ∙ eqb-same task) (one_marked take))
    ∙ by_closed (is_closed past queue)
  where
    passes : Ordered → Bool
    passes x = is_in_lane past queue lane x.posted

    by_closed : (b : Bool) → cond b [] (map queued_of (drop 1 (filter passes (main_arrivals past))))
        ≡ drop 1 (cond b [] (map queued_of (filter passes (main_arrivals past))))
    by_closed true = refl
    by_closed false = sym (drop-map queued_of 1 (filter passes (main_arrivals past)))

-- every other lane keeps its tasks
other_lane_at_take : {script : Plan} {past : List Entry} {manager : Manager} {task queue : ℕ} {lane : Lane} {o : Ordered} (found q : ℕ) (other : Lane)
    → IsTake script past manager task queue lane o → (o.posted.home == q && is_of_lane other o.posted) ≡ false
    → held_in (taken past task queue found) (main_arrivals past) q other ≡ held_in past (main_arrivals past) q other
other_lane_at_take {script = script} {past = past} {task = task} {queue = queue} {o = o} found q other take apart =
    held_same past (taken past task queue found) (main_arrivals past) q other (filter (λ x. is_in_lane past q other x.posted) (main_arrivals past))
    ((left_at_take script past 0 task queue found).closed q)
    (kept_behind past task queue found (main_arrivals past) q other
    ∙ unmarked_left (λ x. is_in_lane past q other x.posted) (λ x. task == x.posted.task) (main_arrivals past) o
    (and_left (o.posted.home == q && is_of_lane other o.posted) (not (is_main_taken past o.posted.task)) apart) (one_marked take))

-- The cells.

-- behind a take the cell of its queue is out, and that of every other one at home
cell_at_take : (past : List Entry) (task queue found q : ℕ) → cell_in (taken past task queue found) q ≡ cond (queue == q) None (Some (main_cell_of past q))
cell_at_take past task queue found q =
    let e : Entry = record { seat = 0; kind = kinds.MainTake task queue found } in
    rw (running_push past e 0, main_cell_of_push past e q) refl

-- before it all are at home
pub cell_at_home : (past : List Entry) (q : ℕ) → main_running past ≡ None → cell_in past q ≡ Some (main_cell_of past q)
cell_at_home past q idle = ap (λ w. cond (holds_of (λ v. v.home == q) w) None (Some (main_cell_of past q))) idle

-- The queues.

-- the queue of the task is without it, and its cell is out
pub taken_queue : {script : Plan} {past : List Entry} {manager : Manager} {task queue : ℕ} {lane : Lane} {o : Ordered} (found : ℕ) (waiting : List Posted)
    → IsTake script past manager task queue lane o → queue_of script (taken past task queue found) (main_arrivals past) waiting queue
    ≡ taken_from lane (queue_of script past (main_arrivals past) waiting queue)
taken_queue {script = script} {past = past} {task = task} {queue = queue} {lane = lane} {o = o} found waiting take =
    queue_left script past (taken past task queue found) (main_arrivals past) waiting queue (left_at_take script past 0 task queue found)
    ∙ by_lane lane take.first.of_lane (lane_at_take found take)
  where
    by_lane : (l : Lane) → is_of_lane l o.posted ≡ true
        → held_in (taken past task queue found) (main_arrivals past) queue l ≡ drop 1 (held_in past (main_arrivals past) queue l)
        → with_lanes (queue_of script past (main_arrivals past) waiting queue) (held_in (taken past task queue found) (main_arrivals past) queue Immediate)
        (held_in (taken past task queue found) (main_arrivals past) queue Delayed) (cell_in (taken past task queue found) queue)
        ≡ taken_from l (queue_of script past (main_arrivals past) waiting queue)
    by_lane Immediate of_lane dropped =
        let left = other_lane_at_take found queue Delayed take
        (and_right (o.posted.home == queue) (is_delayed o.posted) (not-true (is_delayed o.posted) of_lane)) in
        rw (
          dropped,
          left,
          cell_at_take past task queue found queue,
          eqb-same queue,
          ← lane_is_held script past (main_arrivals past) waiting queue Immediate,
          ← lane_is_held script past (main_arrivals past) waiting queue Delayed,
        ) refl
    by_lane Delayed of_lane dropped =
        let left = other_lane_at_take found queue Immediate take
        (and_right (o.posted.home == queue) (not (is_delayed o.posted)) (not_from_true (is_delayed o.posted) of_lane)) in
        rw (
          dropped,
          left,
          cell_at_take past task queue found queue,
          eqb-same queue,
          ← lane_is_held script past (main_arrivals past) waiting queue Immediate,
          ← lane_is_held script past (main_arrivals past) waiting queue Delayed,
        ) refl

-- every other queue stays
pub other_queue : {script : Plan} {past : List Entry} {manager : Manager} {task queue : ℕ} {lane : Lane} {o : Ordered} (found : ℕ) (waiting : List Posted)
    (q : ℕ) → IsTake script past manager task queue lane o → (q ≡ queue → ⊥)
    → queue_of script past (main_arrivals past) waiting q ≡ queue_of script (taken past task queue found) (main_arrivals past) waiting q
other_queue {script = script} {past = past} {task = task} {queue = queue} {o = o} found waiting q take apart =
    own_parts script past (main_arrivals past) waiting q
    ∙ rw (
      ← other_lane_at_take found q Immediate take (elsewhere Immediate),
      ← other_lane_at_take found q Delayed take (elsewhere Delayed),
      cell_at_home past q take.can.idle,
      cell_at_take past task queue found q,
      ne_eqb queue q (λ same. apart (sym same)),
    ) refl
    ∙ sym (queue_left script past (taken past task queue found) (main_arrivals past) waiting q (left_at_take script past 0 task queue found))
  where
    elsewhere : (other : Lane) → (o.posted.home == q && is_of_lane other o.posted) ≡ false
    elsewhere other = and_left (o.posted.home == q) (is_of_lane other o.posted) (ne_eqb o.posted.home q (λ same. apart (sym same ∙ take.first.home_is)))
