-- What the driver's takes and ends of main tasks leave of the queues.
-- Cited by `Ends`, `TakenLanes`, `Takes`, `Taking`.
use Rattle.std.proofs.Common.{◌≡◌, ℕ, ◌≤◌, cond, List, [], ◌∷◌, ◌++◌, map, refl, Option, Some, None}
use Rattle.std.specs.Prelude.{filter}
use Rattle.std.specs.List.{range_with_len}
use Rattle.list_laws.proofs.Filters.{map-congr_in}
use Rattle.list_laws.proofs.Elements.{AllByRecursion-always}
use Rattle.pool_laws.specs.Seats.{moves_main, main_parts}
use Rattle.std.proofs.lemmas.Bool.{and_left}
use Rattle.std.proofs.Common.{true, false}
use Rattle.sequence_manager.proofs.Kept.{class_kept, setting_parts, sets, closed_kept, fence_kept, votes_kept}
use Rattle.sequence_manager.proofs.Parts.{load, posted_to}
use Rattle.sequence_manager.proofs.Quiet.{draw_kept, quiet_arrivals, quiet_now, quiet_posts, quiet_unripe, due_parts, draw_parts, no_draw}
use Rattle.task_base.specs.Plan.{Plan}
use Rattle.task_base.specs.declared.entry.Entry.{Entry}
use Rattle.task_base.specs.declared.entry.Kind.TheVariants as kinds
use Rattle.task_base.specs.declared.script.Lane.{Lane}
use Rattle.task_base.specs.declared.script.Lane.TheVariants.{Immediate, Delayed}
use Rattle.task_model.specs.Cells.{main_cell_of}
use Rattle.task_model.specs.MainQueues.{class_of, fence_of, is_in_lane, votes_on, voters_of}
use Rattle.task_model.specs.Orders.{next_draw}
use Rattle.queue_laws.specs.Orders.{Ordered, main_arrivals}
use Rattle.task_model.specs.Posts.{Posted, main_posts}
use Rattle.task_model.specs.Refusal.{is_closed}
use Rattle.task_model.specs.Time.{now_of}
use Rattle.work_queue.specs.declared.queued.Queued.{Queued}
use Rattle.sequence_manager.specs.Queues.{held_in, is_out, queue_of, queued_of, unripe}
use Rattle.sequence_manager.specs.declared.task_queue.TaskQueue.{TaskQueue}
use Rattle.pool_laws.specs.Moves.{Classes, moves}
use Rattle.pool_laws.proofs.Moves.{moves_apart}

-- the later past has the same posts and draws, fences, votes, classes and moment
pub record LeavesQueues (script : Plan) (past later : List Entry) : Type 0 where
  pub posts : main_posts later ≡ main_posts past
  pub arrivals : main_arrivals later ≡ main_arrivals past
  pub waiting : unripe later ≡ unripe past
  pub draw : next_draw later ≡ next_draw past
  pub now : now_of later ≡ now_of past
  pub closed : (q : ℕ) → is_closed later q ≡ is_closed past q
  pub fence : (q : ℕ) → fence_of later q ≡ fence_of past q
  pub votes : (q v : ℕ) → votes_on later q v ≡ votes_on past q v
  pub class : (q : ℕ) → class_of script later q ≡ class_of script past q

-- it is so after a take or an end of the driver's
left_by : (script : Plan) (past : List Entry) (e : Entry) → moves_main e.kind ≡ true → LeavesQueues script past (past ++ e ∷ [])
left_by script past e main = record {
  posts = quiet_posts past e quiet;
  arrivals = quiet_arrivals past e quiet;
  waiting = quiet_unripe past e quiet;
  draw = draw_kept past e (no_draw past e.kind (moves_apart main_parts draw_parts e.kind refl main));
  now = quiet_now past e quiet;
  closed = λ q. closed_kept past e q (sets_none q);
  fence = λ q. fence_kept past e q (sets_none q);
  votes = λ q. votes_kept past e q (sets_none q);
  class = λ q. class_kept script past e q (moves_apart main_parts (Classes ∷ []) e.kind refl main);
}
  where
    quiet : moves due_parts e.kind ≡ false
    quiet = moves_apart main_parts due_parts e.kind refl main

    sets_none : (q : ℕ) → sets q e.kind ≡ false
    sets_none q = and_left _ _ (moves_apart main_parts setting_parts e.kind refl main)

-- so it is after the take of a main task
pub left_at_take : (script : Plan) (past : List Entry) (seat task queue found : ℕ)
    → LeavesQueues script past (past ++ record { seat = seat; kind = kinds.MainTake task queue found } ∷ [])
left_at_take script past seat task queue found = left_by script past (record { seat = seat; kind = kinds.MainTake task queue found }) refl

-- and after its end
pub left_at_end : (script : Plan) (past : List Entry) (seat task left : ℕ)
    → LeavesQueues script past (past ++ record { seat = seat; kind = kinds.MainEnd task left } ∷ [])
left_at_end script past seat task left = left_by script past (record { seat = seat; kind = kinds.MainEnd task left }) refl

-- a queue with other lanes and another cell
abbrev pub with_lanes : TaskQueue → List Queued → List Queued → Option ℕ → TaskQueue
with_lanes queue immediate delayed cell = record queue { tasks = record queue.tasks { immediate = immediate; delayed = delayed }; cell = cell }

-- the cell of a queue, if it is at home
abbrev pub cell_in : List Entry → ℕ → Option ℕ
cell_in past q = cond (is_out past q) None (Some (main_cell_of past q))

-- all else of each queue stays
pub queue_left : (script : Plan) (past later : List Entry) (arrivals : List Ordered) (waiting : List Posted) (q : ℕ) → LeavesQueues script past later
    → queue_of script later arrivals waiting q
    ≡ with_lanes (queue_of script past arrivals waiting q) (held_in later arrivals q Immediate) (held_in later arrivals q Delayed) (cell_in later q)
unfolding queue_of
queue_left script past later arrivals waiting q leaves =
    let votes = map-congr_in (votes_on later q) (votes_on past q) (range_with_len 0 (voters_of script q))
    (AllByRecursion-always (λ v. votes_on later q v ≡ votes_on past q v) (range_with_len 0 (voters_of script q)) (leaves.votes q)) in
    rw (leaves.fence q, votes, leaves.closed q) refl

-- a queue with what its lanes and its cell are by the past
pub own_parts : (script : Plan) (past : List Entry) (arrivals : List Ordered) (waiting : List Posted) (q : ℕ)
    → queue_of script past arrivals waiting q
    ≡ with_lanes (queue_of script past arrivals waiting q) (held_in past arrivals q Immediate) (held_in past arrivals q Delayed) (cell_in past q)
unfolding queue_of
own_parts script past arrivals waiting q = refl

-- what a lane holds, if its queue is not closed
pub held_same : (past later : List Entry) (arrivals : List Ordered) (q : ℕ) (lane : Lane) (held : List Ordered) → is_closed later q ≡ is_closed past q
    → filter (λ o. is_in_lane later q lane o.posted) arrivals ≡ held
    → held_in later arrivals q lane ≡ cond (is_closed past q) [] (map queued_of held)
held_same past later arrivals q lane held closed is = rw (closed, is) refl

-- the queue holds no more tasks than were posted to it
abbrev pub HasRoom : List Entry → ℕ → TaskQueue → Type 0
HasRoom past q queue = load queue ≤ posted_to past q
