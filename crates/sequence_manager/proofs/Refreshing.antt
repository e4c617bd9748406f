-- What the selector is told of a queue: orders that its tasks drew, so that no two are the same.
-- Cited by `Ends`, `Fronts`, `Parts`, `Ranks`, `Ripens`, `TakenLanes`, `Takes`, `Taking`.
use Rattle.std.proofs.Common.{◌≡◌, ℕ, ◌<◌, ◌≤◌, Bool, true, false, cond, List, [], ◌∷◌, length, map}
use Rattle.std.proofs.Common.{refl, sym, ap, ◌∙◌, subst, Option, Some, None, inl, inr, arith}
use Rattle.std.specs.Prelude.{◌⊎◌, ◌&&◌, ◌==◌, not, Contains, filter, slice_get, slice_index_or, slice_set}
use Rattle.std.specs.Option.{option_map}
use Rattle.std.proofs.lemmas.Bool.{and_parts, cases_lt, eqb-true}
use Rattle.std.proofs.lemmas.List.{get_or_past, length-set}
use Rattle.std.proofs.lemmas.Option.{none-some, slice_get-get_or}
use Rattle.list_laws.specs.Lists.{keep}
use Rattle.list_laws.specs.Sorts.{Rises}
use Rattle.list_laws.proofs.Made.{filter_contains}
use Rattle.list_laws.proofs.Values.{some-injective}
use Rattle.queue_laws.specs.Orders.{ordered_below, Ordered}
use Rattle.queue_selector.specs.Rows.{closed_row, order_in, with_order}
use Rattle.queue_selector.specs.Selecting.{Selecting, row_at}
use Rattle.queue_selector.specs.declared.row.Row.{Row}
use Rattle.task_base.specs.Plan.{Plan}
use Rattle.task_base.specs.declared.entry.Entry.{Entry}
use Rattle.task_base.specs.declared.script.Lane.{Lane}
use Rattle.task_base.specs.declared.script.Lane.TheVariants.{Immediate, Delayed}
use Rattle.task_model.specs.MainQueues.{class_of, is_in_lane, is_of_lane}
use Rattle.task_model.specs.Posts.{Posted, is_main_taken}
use Rattle.task_model.specs.Refusal.{is_closed}
use Rattle.work_queue.specs.Lanes.{lane_of}
use Rattle.work_queue.specs.declared.queued.Queued.{Queued}
use Rattle.sequence_manager.specs.Queues.{IsTable, held_in, queue_of, queued_of, row_of}
use Rattle.sequence_manager.specs.State.{CanRefresh, HasDrawn, lets_run, open_in, queue_at, refreshed, row_by}
use Rattle.sequence_manager.specs.declared.manager.Manager.{Manager}
use Rattle.sequence_manager.specs.declared.task_queue.TaskQueue.{TaskQueue}
use Rattle.list_laws.proofs.Places.{slice_get-set_same, slice_set-twice}
use Rattle.sequence_manager.proofs.Tables.{table_set}

-- the task that drew the order of a queued one
pub record IsHeld (past : List Entry) (arrivals : List Ordered) (q : ℕ) (lane : Lane) (queued : Queued) : Type 0 where
  pub arrival : Ordered
  pub among : Contains arrivals arrival
  pub queued_is : queued_of arrival ≡ queued
  pub in_lane : is_in_lane past q lane arrival.posted ≡ true

-- the first of a lane is a task that lies in it
pub first_is_held : (past : List Entry) (arrivals : List Ordered) (q : ℕ) (lane : Lane) (queued : Queued)
    → slice_get (held_in past arrivals q lane) 0 ≡ Some queued → IsHeld past arrivals q lane queued
first_is_held past arrivals q lane queued is = by_closed (is_closed past q) is
  where
    of_list : (xs : List Ordered) → ((o : Ordered) → Contains xs o → Contains arrivals o × (is_in_lane past q lane o.posted ≡ true))
        → slice_get (map queued_of xs) 0 ≡ Some queued → IsHeld past arrivals q lane queued
    of_list [] inside first = absurd (none-some queued first)
    of_list (o ∷ os) inside first = record {
      arrival = o;
      among = (inside o (0, omega arith, refl)).0;
      queued_is = some-injective first;
      in_lane = (inside o (0, omega arith, refl)).1;
    }

    by_closed : (b : Bool) → slice_get (cond b [] (map queued_of (filter (λ o. is_in_lane past q lane o.posted) arrivals))) 0 ≡ Some queued
        → IsHeld past arrivals q lane queued
    by_closed true first = absurd (none-some queued first)
    by_closed false first = of_list (filter (λ o. is_in_lane past q lane o.posted) arrivals)
        (λ o h. filter_contains (λ x. is_in_lane past q lane x.posted) arrivals o h) first

-- the lanes of a queue are what they hold by the past
pub lane_is_held : (script : Plan) (past : List Entry) (arrivals : List Ordered) (waiting : List Posted) (q : ℕ) (lane : Lane)
    → lane_of (queue_of script past arrivals waiting q).tasks lane ≡ held_in past arrivals q lane
unfolding queue_of
lane_is_held script past arrivals waiting q Immediate = refl
lane_is_held script past arrivals waiting q Delayed = refl

-- an open front has an order that a task of its queue and lane drew
pub open_has_drawn : (script : Plan) (past : List Entry) (arrivals : List Ordered) (waiting : List Posted) (q : ℕ) (lane : Lane) (order : ℕ)
    → open_in lane (queue_of script past arrivals waiting q) ≡ Some order → HasDrawn arrivals q lane order
open_has_drawn script past arrivals waiting q lane order is =
    of_first (slice_get (lane_of (queue_of script past arrivals waiting q).tasks lane) 0) (ap (λ xs. slice_get xs 0) (sym
    (lane_is_held script past arrivals waiting q lane))) is
  where
    kept : (test : ℕ → Bool) (o : Option ℕ) → keep test o ≡ Some order → o ≡ Some order
    kept test None h = absurd (none-some order h)
    kept test (Some n) h = by_test (test n) h
      where
        by_test : (b : Bool) → cond b (Some n) None ≡ Some order → Some n ≡ Some order
        by_test true same = same
        by_test false same = absurd (none-some order same)

    drawn : (first : Queued) → first.order ≡ order → IsHeld past arrivals q lane first → HasDrawn arrivals q lane order
    drawn first same held =
        let mine : ((held.arrival.posted.home == q && is_of_lane lane held.arrival.posted) ≡ true) × (not (is_main_taken past held.arrival.posted.task) ≡ true)
        = and_parts (held.arrival.posted.home == q && is_of_lane lane held.arrival.posted) (not (is_main_taken past held.arrival.posted.task)) held.in_lane in
        let parts : ((held.arrival.posted.home == q) ≡ true) × (is_of_lane lane held.arrival.posted ≡ true)
        = and_parts (held.arrival.posted.home == q) (is_of_lane lane held.arrival.posted) mine.0 in
        record {
          arrival = held.arrival;
          among = held.among;
          order_is = ap (λ x. x.order) held.queued_is ∙ same;
          home_is = eqb-true held.arrival.posted.home q parts.0;
          of_lane = parts.1;
        }

    of_first : (first : Option Queued) → slice_get (held_in past arrivals q lane) 0 ≡ first
        → keep (lets_run (queue_of script past arrivals waiting q)) (option_map (λ x. x.order) first) ≡ Some order → HasDrawn arrivals q lane order
    of_first None at h = absurd (none-some order h)
    of_first (Some first) at h = drawn first (some-injective (kept (lets_run (queue_of script past arrivals waiting q)) (Some first.order) h))
        (first_is_held past arrivals q lane first at)

-- what a row tells of its lanes
pub order_in_row : (lane : Lane) (class : ℕ) (queue : TaskQueue) → order_in lane (row_by class queue) ≡ open_in lane queue
order_in_row Immediate class queue = refl
order_in_row Delayed class queue = refl

pub row_at_is : (at : ℕ → Row) (n : ℕ) (selector : Selecting) (q : ℕ) → IsTable at n selector.rows → q < n → row_at selector q ≡ at q
row_at_is at n selector q table less =
    let long : length selector.rows ≡ n = table.all in
    some-injective (sym (slice_get-get_or selector.rows q closed_row (omega (arith, less, long))) ∙ table.each q less)

-- a queue may tell the selector its fronts where its tasks, and those of which the selector knows, are among arrivals that rise
pub can_refresh : (script : Plan) (before past : List Entry) (known arrivals : List Ordered) (unripe waiting : List Posted) (manager : Manager) (q : ℕ)
    → Rises ordered_below arrivals → ((o : Ordered) → Contains known o → Contains arrivals o)
    → IsTable (row_of script before known unripe) (length script.queues) manager.selector.rows → length manager.queues ≡ length script.queues
    → q < length script.queues → queue_at manager.queues q ≡ queue_of script past arrivals waiting q → CanRefresh arrivals manager q
can_refresh script before past known arrivals unripe waiting manager q rises more rows queues less is = record {
  there = omega (arith, less, queues);
  known = let long : length manager.selector.rows ≡ length script.queues = rows.all in omega (arith, less, long);
  rises = rises;
  fronts = λ p lane order told. front p lane order (cases_lt p (length script.queues)) told;
  held = λ lane order told. open_has_drawn script past arrivals waiting q lane order (subst (λ queue. open_in lane queue ≡ Some order) is told);
}
  where
    wider : (p : ℕ) (lane : Lane) (order : ℕ) → HasDrawn known p lane order → HasDrawn arrivals p lane order
    wider p lane order drawn = record {
      arrival = drawn.arrival;
      among = more drawn.arrival drawn.among;
      order_is = drawn.order_is;
      home_is = drawn.home_is;
      of_lane = drawn.of_lane;
    }

    none : (lane : Lane) → order_in lane closed_row ≡ None
    none Immediate = refl
    none Delayed = refl

    front : (p : ℕ) (lane : Lane) (order : ℕ) → (p < length script.queues) ⊎ (length script.queues ≤ p)
        → order_in lane (row_at manager.selector p) ≡ Some order → HasDrawn arrivals p lane order
    front p lane order (inl within) told = wider p lane order (open_has_drawn script before known unripe p lane order
        (sym (order_in_row lane (class_of script before p) (queue_of script before known unripe p))
        ∙ ap (order_in lane) (sym (row_at_is (row_of script before known unripe) (length script.queues) manager.selector p rows within)) ∙ told))
    front p lane order (inr past_end) told =
        let long : length manager.selector.rows ≡ length script.queues = rows.all in
        absurd (none-some order (sym (ap (order_in lane) (get_or_past manager.selector.rows p closed_row (omega (arith, past_end, long))) ∙ none lane) ∙ told))

-- the selector knows the queue as it is now
pub refreshed_rows : (script : Plan) (before past : List Entry) (known arrivals : List Ordered) (unripe waiting : List Posted) (manager : Manager) (q : ℕ)
    → IsTable (row_of script before known unripe) (length script.queues) manager.selector.rows → q < length script.queues
    → queue_at manager.queues q ≡ queue_of script past arrivals waiting q → class_of script before q ≡ class_of script past q
    → ((p : ℕ) → p < length script.queues → (p ≡ q → ⊥) → row_of script before known unripe p ≡ row_of script past arrivals waiting p)
    → IsTable (row_of script past arrivals waiting) (length script.queues) (refreshed manager q).selector.rows
refreshed_rows script before past known arrivals unripe waiting manager q rows less is class others =
    subst (IsTable (row_of script past arrivals waiting) (length script.queues)) (sym once)
    (table_set (row_of script before known unripe) (row_of script past arrivals waiting) (length script.queues) manager.selector.rows q _ rows less others told)
  where
    queue : TaskQueue
    queue = queue_at manager.queues q

    first : Row
    first = with_order (row_at manager.selector q) Immediate (open_in Immediate queue)

    within : q < length manager.selector.rows
    within = let long : length manager.selector.rows ≡ length script.queues = rows.all in omega (arith, less, long)

    first_at : slice_index_or (slice_set manager.selector.rows q first) q closed_row ≡ first
    first_at = some-injective (sym (slice_get-get_or (slice_set manager.selector.rows q first) q closed_row (rw
        (length-set manager.selector.rows q first) within))
        ∙ slice_get-set_same manager.selector.rows q first within)

    once : (refreshed manager q).selector.rows ≡ slice_set manager.selector.rows q (with_order first Delayed (open_in Delayed queue))
    once = ap (λ row. slice_set (slice_set manager.selector.rows q first) q (with_order row Delayed (open_in Delayed queue))) first_at
        ∙ slice_set-twice manager.selector.rows q first (with_order first Delayed (open_in Delayed queue))

    told : with_order first Delayed (open_in Delayed queue) ≡ row_of script past arrivals waiting q
    told =
        ap (λ (row : Row). record { class = row.class; immediate = open_in Immediate queue; delayed = open_in Delayed queue })
        (row_at_is (row_of script before known unripe) (length script.queues) manager.selector q rows less)
        ∙ ap (λ c. row_by c queue) class
        ∙ ap (row_by (class_of script past q)) is
