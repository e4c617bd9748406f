-- The open fronts that the selector knows are those of the past.
-- Cited by `Choice`.
use Rattle.std.proofs.Common.{◌≡◌, ℕ, suc, ◌+◌, ◌<◌, Bool, true, false, cond, List, [], ◌∷◌, ◌++◌, length, map, refl, sym, ap, ◌∙◌, Option, Some, None, arith}
use Rattle.std.specs.Prelude.{◌&&◌, nat_lt, find, filter, slice_get}
use Rattle.std.specs.List.{flat_map, list_all, range_with_len}
use Rattle.std.specs.Option.{option_map, option_map_or, option_to_list}
use Rattle.std.proofs.lemmas.List.{map-append}
use Rattle.std.proofs.lemmas.List.Elements.{filter-append}
use Rattle.list_laws.specs.Lists.{keep}
use Rattle.list_laws.specs.Sorts.{SameMembers}
use Rattle.list_laws.proofs.Values.{some-injective}
use Rattle.queue_fence.specs.Fence.{lets_pass}
use Rattle.queue_fence.specs.Voters.{all_on}
use Rattle.queue_laws.proofs.Arrivals.{front_is_first_arrival}
use Rattle.queue_laws.specs.Fronts.{front_for}
use Rattle.queue_selector.specs.Rows.{fronts_from, row_fronts, open_front}
use Rattle.queue_selector.specs.Selecting as selecting
use Rattle.queue_selector.specs.Selecting.{Selecting}
use Rattle.queue_selector.specs.declared.front.Front.{Front as SeenFront}
use Rattle.queue_selector.specs.declared.row.Row.{Row}
use Rattle.task_base.specs.Plan.{Plan}
use Rattle.task_base.specs.declared.entry.Entry.{Entry}
use Rattle.task_base.specs.declared.script.Lane.{Lane}
use Rattle.task_base.specs.declared.script.Lane.TheVariants.{Immediate, Delayed}
use Rattle.task_model.specs.MainQueues.{Front, class_of, fence_of, front_of, fronts_of, is_enabled, is_in_lane, is_open, open_fronts, votes_on, voters_of}
use Rattle.queue_laws.specs.Orders.{Ordered, main_arrivals, ordered}
use Rattle.task_model.specs.Posts.{Posted}
use Rattle.task_model.specs.Refusal.{is_closed}
use Rattle.sequence_manager.specs.Queues.{IsTable, queue_of, queued_of, row_of}
use Rattle.sequence_manager.specs.State.{lets_run, open_in}
use Rattle.sequence_manager.specs.declared.task_queue.TaskQueue.{TaskQueue}
use Rattle.sequence_manager.proofs.Lists.{filter-flat_map, first_kept, flat_map_congr, map-flat_map}
use Rattle.sequence_manager.proofs.Refreshing.{lane_is_held, order_in_row}

-- all votes are on where each voter votes on
all_on_is : {A : Type 0} (vote : A → Bool) (xs : List A) → all_on (map vote xs) ≡ list_all vote xs
all_on_is vote [] = refl
all_on_is vote (x ∷ xs) = ap (λ b. vote x && b) (all_on_is vote xs)

-- what a fence lets pass is below it
passes_is : (fence : Option ℕ) (order : ℕ) → lets_pass fence order ≡ option_map_or (nat_lt order) fence true
passes_is None order = refl
passes_is (Some n) order = refl

-- votes and fence of a queue by the past
lets_run_is : (script : Plan) (past : List Entry) (arrivals : List Ordered) (waiting : List Posted) (q order : ℕ)
    → lets_run (queue_of script past arrivals waiting q) order ≡ (is_enabled script past q && option_map_or (nat_lt order) (fence_of past q) true)
unfolding queue_of
lets_run_is script past arrivals waiting q order =
    rw (all_on_is (votes_on past q) (range_with_len 0 (voters_of script q)), passes_is (fence_of past q) order) refl

-- the order of an open front is that of the front of the past, where it is open
pub open_is_front : (script : Plan) (past : List Entry) (waiting : List Posted) (q : ℕ) (lane : Lane) → SameMembers (main_arrivals past) (ordered past)
    → open_in lane (queue_of script past (main_arrivals past) waiting q) ≡ option_map (λ f. f.order) (keep (is_open script past) (front_of script past q lane))
open_is_front script past waiting q lane same =
    ap (λ held. keep (lets_run queue) (option_map (λ x. x.order) (slice_get held 0))) (lane_is_held script past (main_arrivals past) waiting q lane)
    ∙ by_closed (is_closed past q) refl
    ∙ ap (λ o. option_map (λ f. f.order) (keep (is_open script past) o)) (sym (front_is_first_arrival script past q lane same))
  where
    queue : TaskQueue
    queue = queue_of script past (main_arrivals past) waiting q

    passes : Ordered → Bool
    passes o = is_in_lane past q lane o.posted

    first : Option Ordered
    first = find passes (main_arrivals past)

    never : (o : Option Ordered) → is_closed past q ≡ true
        → None ≡ option_map (λ f. f.order) (keep (is_open script past) (option_map (front_for script past q lane) o))
    never None closed = refl
    never (Some o) closed = rw closed refl

    kept : (o : Option Ordered) → is_closed past q ≡ false
        → keep (lets_run queue) (option_map (λ x. x.order) (option_map queued_of o))
        ≡ option_map (λ f. f.order) (keep (is_open script past) (option_map (front_for script past q lane) o))
    kept None opened = refl
    kept (Some o) opened =
        rw (lets_run_is script past (main_arrivals past) waiting q o.order, opened)
        (picked (is_enabled script past q && option_map_or (nat_lt o.order) (fence_of past q) true))
      where
        picked : (b : Bool) → cond b (Some o.order) None
            ≡ option_map (λ f. f.order) (cond b (Some (front_for script past q lane o)) None)
        picked true = refl
        picked false = refl

    by_closed : (b : Bool) → is_closed past q ≡ b
        → keep (lets_run queue) (option_map (λ x. x.order) (slice_get (cond b [] (map queued_of (filter passes (main_arrivals past)))) 0))
        ≡ option_map (λ f. f.order) (keep (is_open script past) (option_map (front_for script past q lane) first))
    by_closed true closed = never first closed
    by_closed false opened = ap (λ o. keep (lets_run queue) (option_map (λ x. x.order) o)) (first_kept queued_of passes (main_arrivals past))
        ∙ kept first opened

-- a front as the selector knows it
abbrev pub seen_as : Front → SeenFront
seen_as f = record { class = f.class; lane = f.lane; order = f.order; queue = f.queue }

-- the front of a row is the front of the past, where it is open
row_front : (script : Plan) (past : List Entry) (waiting : List Posted) (q : ℕ) (lane : Lane) → SameMembers (main_arrivals past) (ordered past)
    → option_to_list (open_front q lane (row_of script past (main_arrivals past) waiting q))
    ≡ map seen_as (filter (is_open script past) (option_to_list (front_of script past q lane)))
row_front script past waiting q lane same =
    ap (λ o. option_to_list (option_map seen o))
    (order_in_row lane (class_of script past q) (queue_of script past (main_arrivals past) waiting q) ∙ open_is_front script past waiting q lane same)
    ∙ rw (front_is_first_arrival script past q lane same) (by_found (find (λ o. is_in_lane past q lane o.posted) (main_arrivals past)))
  where
    seen : ℕ → SeenFront
    seen order = record { class = class_of script past q; lane = lane; order = order; queue = q }

    picked : (b : Bool) (o : Ordered)
        → option_to_list (option_map seen (option_map (λ f. f.order) (cond b (Some (front_for script past q lane o)) None)))
        ≡ map seen_as (cond b (front_for script past q lane o ∷ []) [])
    picked true o = refl
    picked false o = refl

    by_found : (o : Option Ordered)
        → option_to_list (option_map seen (option_map (λ f. f.order) (keep (is_open script past) (option_map (front_for script past q lane) o))))
        ≡ map seen_as (filter (is_open script past) (option_to_list (option_map (front_for script past q lane) o)))
    by_found None = refl
    by_found (Some o) = picked (is_open script past (front_for script past q lane o)) o

-- the fronts of rows that are what a table says
fronts_of_rows : (at : ℕ → Row) (q : ℕ) (rows : List Row) → ((i : ℕ) → i < length rows → slice_get rows i ≡ Some (at (q + i)))
    → fronts_from q rows ≡ flat_map (λ p. row_fronts p (at p)) (range_with_len q (length rows))
fronts_of_rows at q [] each = refl
fronts_of_rows at q (row ∷ rows) each =
    ap (λ r. row_fronts q r ++ fronts_from (q + 1) rows) (some-injective (each 0 (omega arith)) ∙ ap at (omega arith))
    ∙ ap (λ fronts. row_fronts q (at q) ++ fronts) (fronts_of_rows at (q + 1) rows
    (λ i less. each (suc i) (omega (arith, less)) ∙ ap (λ n. Some (at n)) (omega arith)))

-- the open fronts of the past, as the selector knows them
pub open_fronts_seen : (script : Plan) (past : List Entry) (waiting : List Posted) (selector : Selecting) → SameMembers (main_arrivals past) (ordered past)
    → IsTable (row_of script past (main_arrivals past) waiting) (length script.queues) selector.rows
    → selecting.open_fronts selector ≡ map seen_as (open_fronts script past)
unfolding open_fronts
open_fronts_seen script past waiting selector same table =
    fronts_of_rows (row_of script past (main_arrivals past) waiting) 0 selector.rows
    (λ i less. table.each i (rw (← table.all) less) ∙ ap (λ n. Some (row_of script past (main_arrivals past) waiting n)) (omega arith))
    ∙ ap (λ n. flat_map (λ q. row_fronts q (row_of script past (main_arrivals past) waiting q)) (range_with_len 0 n)) table.all
    ∙ flat_map_congr (λ q. row_fronts q (row_of script past (main_arrivals past) waiting q))
    (λ q. map seen_as (filter (is_open script past) (fronts_of script past q))) (range_with_len 0 (length script.queues)) of_queue
    ∙ sym (map-flat_map seen_as (λ q. filter (is_open script past) (fronts_of script past q)) (range_with_len 0 (length script.queues)))
    ∙ ap (map seen_as) (sym (filter-flat_map (is_open script past) (fronts_of script past) (range_with_len 0 (length script.queues))))
  where
    of_queue : (q : ℕ) → row_fronts q (row_of script past (main_arrivals past) waiting q)
        ≡ map seen_as (filter (is_open script past) (fronts_of script past q))
    of_queue q = rw (
      row_front script past waiting q Immediate same,
      row_front script past waiting q Delayed same,
      filter-append (is_open script past) (option_to_list (front_of script past q Immediate)) (option_to_list (front_of script past q Delayed)),
      map-append seen_as (filter (is_open script past) (option_to_list (front_of script past q Immediate)))
          (filter (is_open script past) (option_to_list (front_of script past q Delayed))),
    ) refl
