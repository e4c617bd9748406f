-- The end of the driver's task keeps what the manager stands for.
-- Cited by `Manager::end`.
use Rattle.std.proofs.Common.{◌≡◌, ℕ, Bool, false, cond, List, [], ◌∷◌, length, refl, sym, ap, ◌∙◌, subst, Some, None, arith}
use Rattle.std.specs.Prelude.{◌==◌, ◌&&◌, not, filter}
use Rattle.std.proofs.lemmas.Bool.{ne_eqb}
use Rattle.std.proofs.lemmas.List.{length-append}
use Rattle.std.proofs.Math.Bool.{or-false}
use Rattle.list_laws.specs.Lists.{holds_of}
use Rattle.list_laws.proofs.Filters.{filter_congr}
use Rattle.list_laws.proofs.Values.{eqb-same}
use Rattle.task_base.specs.Plan.{Plan}
use Rattle.task_base.specs.declared.entry.Entry.{Entry}
use Rattle.task_base.specs.declared.entry.Kind.TheVariants as kinds
use Rattle.task_base.specs.declared.script.Lane.{Lane}
use Rattle.task_base.specs.declared.script.Lane.TheVariants.{Immediate, Delayed}
use Rattle.task_model.proofs.Growth.{is_main_taken_push, main_cell_of_push, running_push, streak_of_push}
use Rattle.task_model.specs.Cells.{main_cell_of}
use Rattle.task_model.specs.MainQueues.{class_of, is_in_lane, is_of_lane}
use Rattle.task_model.specs.Orders.{next_draw}
use Rattle.queue_laws.specs.Orders.{Ordered, main_arrivals}
use Rattle.task_model.specs.Posts.{Posted}
use Rattle.task_model.specs.Seats.{Running, running}
use Rattle.sequence_manager.specs.Calls.{RunsMain, after_end}
use Rattle.sequence_manager.specs.Pasts.{main_running}
use Rattle.sequence_manager.specs.Queues.{IsTable, held_in, queue_of, row_of, unripe}
use Rattle.sequence_manager.specs.StandsFor.{ArePartsOf, StandsFor}
use Rattle.sequence_manager.specs.State.{queue_at, row_by, with_queue}
use Rattle.sequence_manager.specs.declared.manager.Manager.{Manager}
use Rattle.sequence_manager.specs.declared.task_queue.TaskQueue.{TaskQueue}
use Rattle.sequence_manager.proofs.Driver.{HasRoom, LeavesQueues, cell_in, held_same, left_at_end, own_parts, queue_left, with_lanes}
use Rattle.sequence_manager.proofs.Lists.{kept_is}
use Rattle.sequence_manager.proofs.Refreshing.{lane_is_held}
use Rattle.sequence_manager.proofs.Tables.{queue_at_is, table_same, table_set}
use Rattle.sequence_manager.proofs.Pasts.{past_at_end}

-- the cell of a queue while a main task runs
cell_before : (past : List Entry) (w : Running) (q : ℕ) → main_running past ≡ Some w
    → cell_in past q ≡ cond (w.home == q) None (Some (main_cell_of past q))
cell_before past w q runs = ap (λ o. cond (holds_of (λ v. v.home == q) o) None (Some (main_cell_of past q))) runs

-- and behind its end: at home
cell_behind : (past : List Entry) (w : Running) (left q : ℕ) → main_running past ≡ Some w
    → cell_in (after_end past w.task left) q ≡ Some (cond (w.home == q) left (main_cell_of past q))
cell_behind past w left q runs =
    let e : Entry = record { seat = 0; kind = kinds.MainEnd w.task left } in
    let (is, main) = kept_is (λ v. v.is_main) (running past 0) w runs in
    rw (running_push past e 0, main_cell_of_push past e q, is, main) refl

-- the lanes hold what they held
lanes_at_end : (script : Plan) (past : List Entry) (task left : ℕ) (arrivals : List Ordered) (q : ℕ) (lane : Lane)
    → held_in (after_end past task left) arrivals q lane ≡ held_in past arrivals q lane
lanes_at_end script past task left arrivals q lane =
    held_same past (after_end past task left) arrivals q lane (filter (λ o. is_in_lane past q lane o.posted) arrivals)
    ((left_at_end script past 0 task left).closed q)
    (filter_congr (λ o. is_in_lane (after_end past task left) q lane o.posted) (λ o. is_in_lane past q lane o.posted) arrivals
    (λ o. ap (λ b. o.posted.home == q && is_of_lane lane o.posted && not b)
    (is_main_taken_push past (record { seat = 0; kind = kinds.MainEnd task left }) o.posted.task ∙ or-false _)))

-- the queues have what they had, but for the cell
queue_behind : (script : Plan) (past : List Entry) (task left : ℕ) (arrivals : List Ordered) (waiting : List Posted) (q : ℕ)
    → queue_of script (after_end past task left) arrivals waiting q
    ≡ with_lanes (queue_of script past arrivals waiting q) (held_in past arrivals q Immediate) (held_in past arrivals q Delayed)
    (cell_in (after_end past task left) q)
queue_behind script past task left arrivals waiting q =
    queue_left script past (after_end past task left) arrivals waiting q (left_at_end script past 0 task left)
    ∙ rw (lanes_at_end script past task left arrivals q Immediate, lanes_at_end script past task left arrivals q Delayed) refl

-- the queue of the task has the cell again
ended_queue : (script : Plan) (past : List Entry) (w : Running) (left queue : ℕ) (arrivals : List Ordered) (waiting : List Posted)
    → main_running past ≡ Some w → w.home ≡ queue
    → record (queue_of script past arrivals waiting queue) { cell = Some left } ≡ queue_of script (after_end past w.task left) arrivals waiting queue
ended_queue script past w left queue arrivals waiting runs home = sym (queue_behind script past w.task left arrivals waiting queue
    ∙ rw (
      cell_behind past w left queue runs,
      home,
      eqb-same queue,
      ← lane_is_held script past arrivals waiting queue Immediate,
      ← lane_is_held script past arrivals waiting queue Delayed,
    ) refl)

-- every other queue stays
other_queue : (script : Plan) (past : List Entry) (w : Running) (left queue : ℕ) (arrivals : List Ordered) (waiting : List Posted) (q : ℕ)
    → main_running past ≡ Some w → w.home ≡ queue → (q ≡ queue → ⊥)
    → queue_of script past arrivals waiting q ≡ queue_of script (after_end past w.task left) arrivals waiting q
other_queue script past w left queue arrivals waiting q runs home apart =
    let other : (w.home == q) ≡ false = ne_eqb w.home q (λ same. apart (sym same ∙ home)) in
    own_parts script past arrivals waiting q
    ∙ ap (with_lanes (queue_of script past arrivals waiting q) (held_in past arrivals q Immediate) (held_in past arrivals q Delayed))
    (cell_before past w q runs ∙ ap (λ b. cond b None (Some (main_cell_of past q))) other
    ∙ ap (λ (b : Bool). Some (cond b left (main_cell_of past q))) (sym other) ∙ sym (cell_behind past w left q runs))
    ∙ sym (queue_behind script past w.task left arrivals waiting q)

-- the open fronts stay: they do not hang on the cell
row_behind : (script : Plan) (past : List Entry) (task left : ℕ) (arrivals : List Ordered) (waiting : List Posted) (q : ℕ)
    → row_of script past arrivals waiting q ≡ row_of script (after_end past task left) arrivals waiting q
row_behind script past task left arrivals waiting q =
    ap (row_by (class_of script past q)) (own_parts script past arrivals waiting q)
    ∙ ap (λ c. row_by c (with_lanes (queue_of script past arrivals waiting q) (held_in past arrivals q Immediate) (held_in past arrivals q Delayed)
    (cell_in (after_end past task left) q))) (sym ((left_at_end script past 0 task left).class q))
    ∙ ap (row_by (class_of script (after_end past task left) q)) (sym (queue_behind script past task left arrivals waiting q))

-- so does the room
room_behind : (script : Plan) (past : List Entry) (task left : ℕ) (arrivals : List Ordered) (waiting : List Posted) (q : ℕ)
    → HasRoom past q (queue_of script past arrivals waiting q) → HasRoom past q (queue_of script (after_end past task left) arrivals waiting q)
room_behind script past task left arrivals waiting q room =
    subst (HasRoom past q) (sym (queue_behind script past task left arrivals waiting q))
    (subst (HasRoom past q) (own_parts script past arrivals waiting q) room)

-- the end of the task that runs
pub stands_at_end : (script : Plan) (past : List Entry) (manager : Manager) (queue left : ℕ) (w : Running) → RunsMain script past manager queue w
    → StandsFor script (after_end past w.task left) (with_queue manager queue (record (queue_at manager.queues queue) { cell = Some left }))
stands_at_end script past manager queue left w runs = record {
  script_fits = runs.stands.script_fits;
  past_fits = past_at_end script past w.task left runs.stands.past_fits;
  parts = rw (leaves.arrivals, leaves.waiting, leaves.draw) parts;
  moment = runs.stands.moment ∙ sym leaves.now;
}
  where
    later : List Entry
    later = after_end past w.task left

    leaves : LeavesQueues script past later
    leaves = left_at_end script past 0 w.task left

    old : ArePartsOf script past (main_arrivals past) (unripe past) (next_draw past) manager
    old = runs.stands.parts

    after : Manager
    after = with_queue manager queue (record (queue_at manager.queues queue) { cell = Some left })

    queues : IsTable (queue_of script later (main_arrivals past) (unripe past)) (length script.queues) after.queues
    queues = table_set (queue_of script past (main_arrivals past) (unripe past)) (queue_of script later (main_arrivals past) (unripe past))
        (length script.queues) manager.queues queue (record (queue_at manager.queues queue) { cell = Some left }) old.queues runs.declared
        (λ q less apart. other_queue script past w left queue (main_arrivals past) (unripe past) q runs.runs runs.home_is apart)
        (ap (λ (x : TaskQueue). record x { cell = Some left })
        (queue_at_is (queue_of script past (main_arrivals past) (unripe past)) (length script.queues) manager.queues queue old.queues runs.declared)
        ∙ ended_queue script past w left queue (main_arrivals past) (unripe past) runs.runs runs.home_is)

    parts : ArePartsOf script later (main_arrivals past) (unripe past) (next_draw past) after
    parts = record {
      queues = queues;
      rows = table_same (row_of script past (main_arrivals past) (unripe past)) (row_of script later (main_arrivals past) (unripe past)) (length script.queues)
          manager.selector.rows (λ q less. row_behind script past w.task left (main_arrivals past) (unripe past) q) old.rows;
      streak = old.streak ∙ sym (streak_of_push script past (record { seat = 0; kind = kinds.MainEnd w.task left }));
      order_is = old.order_is;
      room = λ q less. rw leaves.posts (subst (HasRoom past q)
          (sym (queue_at_is (queue_of script later (main_arrivals past) (unripe past)) (length script.queues) after.queues q queues less))
          (room_behind script past w.task left (main_arrivals past) (unripe past) q (subst (HasRoom past q)
          (queue_at_is (queue_of script past (main_arrivals past) (unripe past)) (length script.queues) manager.queues q old.queues less) (old.room q less))));
      few_orders = omega (arith, old.few_orders, length-append past (record { seat = 0; kind = kinds.MainEnd w.task left } ∷ []));
    }
