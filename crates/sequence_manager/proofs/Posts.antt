-- A main task is posted: one to a closed queue is refused, and an immediate one goes to its lane.
-- Cited by `Manager::post`, `DelayedPosts`.
use Rattle.std.proofs.Common.{◌≡◌, ℕ, ◌+◌, ◌<◌, ◌≤◌, Bool, true, false, cond, List, [], ◌∷◌, ◌++◌}
use Rattle.std.proofs.Common.{length, refl, sym, ap, ◌∙◌, subst, Some, arith}
use Rattle.std.specs.Prelude.{nat_lt, not, filter, All, slice_get}
use Rattle.std.proofs.lemmas.List.{append-nil, length-append}
use Rattle.std.proofs.lemmas.List.Elements.{Contains-append_left}
use Rattle.list_laws.specs.Sorts.{Rises, sort_by}
use Rattle.list_laws.proofs.Values.{eqb-same}
use Rattle.queue_laws.proofs.Arrivals.{main_arrivals_at_post, main_arrivals_below, main_arrivals_rise}
use Rattle.queue_laws.specs.Orders.{ordered_below, Ordered, main_arrivals}
use Rattle.task_base.specs.Plan.{Plan}
use Rattle.task_base.specs.declared.entry.Entry.{Entry}
use Rattle.task_base.specs.declared.entry.Kind.TheVariants as kinds
use Rattle.task_base.specs.declared.script.Lane.TheVariants.{Immediate}
use Rattle.task_model.proofs.Growth.{draws_push, streak_of_push}
use Rattle.task_model.specs.Orders.{drawn_by, next_draw}
use Rattle.task_model.specs.Posts.{Posted, is_main_taken, main_posts, post_behind, ripens_before}
use Rattle.task_model.specs.Refusal.{is_closed}
use Rattle.sequence_manager.specs.Calls.{CanPost, HasQueue, after_main}
use Rattle.sequence_manager.specs.Postings.{room_of}
use Rattle.sequence_manager.specs.Queues.{queue_of, unripe, waits}
use Rattle.sequence_manager.specs.StandsFor.{ArePartsOf, StandsFor}
use Rattle.sequence_manager.specs.State.{CanPush, pushed, queue_at, with_task}
use Rattle.sequence_manager.specs.declared.manager.Manager.{Manager}
use Rattle.sequence_manager.specs.declared.task_queue.TaskQueue.{TaskQueue}
use Rattle.work_queue.specs.Lanes.{IsBelow, all_held}
use Rattle.sequence_manager.proofs.Arriving.{all_below, arrived_in, other_arrived}
use Rattle.sequence_manager.proofs.Fences.{queue_is}
use Rattle.sequence_manager.proofs.Kept.{class_kept, driver_same, other_keeps, queue_kept}
use Rattle.sequence_manager.proofs.Others.{longer, stands_apart}
use Rattle.sequence_manager.proofs.Parts.{can_tell, load, parts_changed, posted_to, room_by_past}
use Rattle.sequence_manager.proofs.Pasts.{past_at_post, untaken}
use Rattle.sequence_manager.proofs.Posted.{accepts, posted_at_post, waiting_at_post}
use Rattle.sequence_manager.proofs.PostingsFit.{posts_fit, queue_there}
use Rattle.sequence_manager.proofs.Quiet.{now_kept}
use Rattle.sequence_manager.proofs.Tables.{queue_at_is}

-- the queue is declared
pub declared_at : {script : Plan} {past : List Entry} {manager : Manager} {place task queue delay : ℕ} → CanPost script past manager place task queue delay
    → HasQueue script past manager queue
declared_at {script = script} {task = task} {queue = queue} can = record {
  stands = can.stands;
  declared = queue_there script task queue can.stands.script_fits can.posted;
}

-- there is room for one more task of the queue
pub some_room : {script : Plan} {past : List Entry} {manager : Manager} {place task queue delay : ℕ} → CanPost script past manager place task queue delay
    → load (queue_of script past (main_arrivals past) (unripe past) queue) < room_of script queue
some_room {script = script} {past = past} {manager = manager} {task = task} {queue = queue} {delay = delay} can =
    let held : load (queue_of script past (main_arrivals past) (unripe past) queue) ≤ posted_to past queue
    = room_by_past script past (main_arrivals past) (unripe past) (next_draw past) manager queue can.stands.parts (declared_at can).declared in
    let fits : posted_to (after_main past 0 task queue delay true) queue ≤ room_of script queue
    = posts_fit script (after_main past 0 task queue delay true) queue (past_at_post 0 task queue delay can.stands.past_fits can.is_new can.posted) in
    let more : posted_to (after_main past 0 task queue delay true) queue ≡ posted_to past queue + 1
    = posted_at_post past 0 task queue delay queue ∙ ap (λ b. posted_to past queue + cond b 1 0) (eqb-same queue) in
    omega (arith, held, fits, more)

-- other queues than that of the entry stay as they are
pub kept_at_post : (script : Plan) (past : List Entry) (seat task queue delay : ℕ) (arrivals : List Ordered) (waiting : List Posted) (q : ℕ)
    → queue_of script (after_main past seat task queue delay true) arrivals waiting q ≡ queue_of script past arrivals waiting q
kept_at_post script past seat task queue delay arrivals waiting q =
    queue_kept script past (after_main past seat task queue delay true) arrivals waiting q
    (other_keeps past (accepts seat task queue delay) q refl (driver_same past (accepts seat task queue delay) refl))

pub more_posted : (past : List Entry) (seat task queue delay q : ℕ) → posted_to past q ≤ posted_to (after_main past seat task queue delay true) q
more_posted past seat task queue delay q = omega (arith, posted_at_post past seat task queue delay q)

-- The post is refused.

pub stands_at_refusal : {script : Plan} {past : List Entry} {manager : Manager} (seat task queue delay : ℕ) → StandsFor script past manager
    → StandsFor script (after_main past seat task queue delay false) manager
stands_at_refusal {script = script} {past = past} {manager = manager} seat task queue delay stands =
    stands_apart script past manager (record { seat = seat; kind = kinds.Main task queue delay false }) refl
    (driver_same past (record { seat = seat; kind = kinds.Main task queue delay false }) refl) stands

-- whether the queue is closed
closed_there : {script : Plan} {past : List Entry} {manager : Manager} {q : ℕ} {queue : TaskQueue} → HasQueue script past manager q
    → slice_get manager.queues q ≡ Some queue → queue.closed ≡ is_closed past q
unfolding queue_of
closed_there at there = ap (λ (x : TaskQueue). x.closed) (queue_is at there)

pub is_closed_as : {script : Plan} {past : List Entry} {manager : Manager} {place task q delay : ℕ} {queue : TaskQueue} {b : Bool}
    → CanPost script past manager place task q delay → slice_get manager.queues q ≡ Some queue → queue.closed ≡ b → is_closed past q ≡ b
is_closed_as can there is = sym (closed_there (declared_at can) there) ∙ is

-- The task is an immediate one.

-- the room of a queue's lanes
room_is : (script : Plan) (past : List Entry) (arrivals : List Ordered) (waiting : List Posted) (q : ℕ)
    → (queue_of script past arrivals waiting q).tasks.room ≡ room_of script q
unfolding queue_of
room_is script past arrivals waiting q = refl

load_with_task : (queue : TaskQueue) (task order : ℕ) → load (with_task Immediate task order queue) ≡ load queue + 1
load_with_task queue task order = omega (
  arith,
  length-append (queue.tasks.immediate ++ record { task = task; order = order } ∷ []) queue.tasks.delayed,
  length-append queue.tasks.immediate (record { task = task; order = order } ∷ []),
  length-append queue.tasks.immediate queue.tasks.delayed,
)

-- it draws the next order
abbrev drawn : List Entry → ℕ → ℕ → ℕ → Ordered
drawn past task queue delay = record { posted = post_behind past task queue delay; order = next_draw past }

-- the queue with the task at the end of its lane
with_it : (script : Plan) (past : List Entry) (seat task queue delay : ℕ) → is_closed past queue ≡ false → is_main_taken past task ≡ false
    → nat_lt 0 delay ≡ false
    → with_task Immediate task (next_draw past) (queue_of script past (main_arrivals past) (unripe past) queue)
    ≡ queue_of script (after_main past seat task queue delay true) (main_arrivals past ++ drawn past task queue delay ∷ []) (unripe past) queue
with_it script past seat task queue delay still_open free immediate =
    arrived_in script past (main_arrivals past) (drawn past task queue delay) (unripe past) Immediate still_open free (ap not immediate)
    ∙ sym (kept_at_post script past seat task queue delay (main_arrivals past ++ drawn past task queue delay ∷ []) (unripe past) queue)

arrivals_then : (past : List Entry) (seat task queue delay : ℕ) → nat_lt 0 delay ≡ false
    → main_arrivals (after_main past seat task queue delay true) ≡ main_arrivals past ++ drawn past task queue delay ∷ []
arrivals_then past seat task queue delay immediate = main_arrivals_at_post past (accepts seat task queue delay) task queue delay refl immediate

-- the queue at its place
there_is : {script : Plan} {past : List Entry} {manager : Manager} {q : ℕ} → HasQueue script past manager q
    → queue_at manager.queues q ≡ queue_of script past (main_arrivals past) (unripe past) q
there_is {script = script} {past = past} {manager = manager} {q = q} at =
    queue_at_is (queue_of script past (main_arrivals past) (unripe past)) (length script.queues) manager.queues q at.stands.parts.queues at.declared

pushed_is : {script : Plan} {past : List Entry} {manager : Manager} {place task queue delay : ℕ} (seat : ℕ) → CanPost script past manager place task queue delay
    → is_closed past queue ≡ false → nat_lt 0 delay ≡ false
    → with_task Immediate task manager.next_order (queue_at manager.queues queue)
    ≡ queue_of script (after_main past seat task queue delay true) (main_arrivals past ++ drawn past task queue delay ∷ []) (unripe past) queue
pushed_is {script = script} {past = past} {manager = manager} {task = task} {queue = queue} {delay = delay} seat can still_open immediate =
    ap (λ n. with_task Immediate task n (queue_at manager.queues queue)) can.stands.parts.order_is
    ∙ ap (with_task Immediate task (next_draw past)) (there_is (declared_at can))
    ∙ with_it script past seat task queue delay still_open (untaken task can.stands.past_fits can.is_new) immediate

pub can_push : {script : Plan} {past : List Entry} {manager : Manager} {place task queue delay : ℕ} → CanPost script past manager place task queue delay
    → is_closed past queue ≡ false → nat_lt 0 delay ≡ false
    → CanPush (main_arrivals past ++ drawn past task queue delay ∷ []) manager queue Immediate task
can_push {script = script} {past = past} {manager = manager} {task = task} {queue = queue} {delay = delay} can still_open immediate = record {
  there = let long : length manager.queues ≡ length script.queues = parts.queues.all in omega (arith, long, (declared_at can).declared);
  order_fits =
      let few : next_draw past + length (unripe past) ≤ 2 + length past = parts.few_orders in
      let order : manager.next_order ≡ next_draw past = parts.order_is in
      omega (arith, few, order, can.few);
  room = subst (λ (x : TaskQueue). length (all_held x.tasks) < x.tasks.room) (sym (there_is (declared_at can))) (fits (some_room can));
  above = subst (λ (x : TaskQueue). All (IsBelow manager.next_order) (all_held x.tasks)) (sym (there_is (declared_at can)))
      (subst (λ n. All (IsBelow n) (all_held (queue_of script past (main_arrivals past) (unripe past) queue).tasks)) (sym parts.order_is)
      (all_below script past (main_arrivals past) (unripe past) queue (next_draw past) (main_arrivals_below past)));
  then_told = can_tell script past (after_main past 0 task queue delay true) (main_arrivals past) (main_arrivals past ++ drawn past task queue delay ∷ [])
      (unripe past) (unripe past) (next_draw past) (manager.next_order + 1) manager queue
      (with_task Immediate task manager.next_order (queue_at manager.queues queue)) parts (declared_at can).declared (pushed_is 0 can still_open immediate)
      (subst (Rises ordered_below) (arrivals_then past 0 task queue delay immediate) (main_arrivals_rise (after_main past 0 task queue delay true)))
      (λ o among. Contains-append_left (main_arrivals past) (drawn past task queue delay ∷ []) o among);
}
  where
    parts : ArePartsOf script past (main_arrivals past) (unripe past) (next_draw past) manager
    parts = can.stands.parts

    fits : load (queue_of script past (main_arrivals past) (unripe past) queue) < room_of script queue
        → length (all_held (queue_of script past (main_arrivals past) (unripe past) queue).tasks) < (queue_of script past (main_arrivals past)
        (unripe past) queue).tasks.room
    fits less = omega (arith, less, room_is script past (main_arrivals past) (unripe past) queue)

pub stands_at_post : {script : Plan} {past : List Entry} {manager after : Manager} {place task queue delay : ℕ} (seat : ℕ)
    → CanPost script past manager place task queue delay → is_closed past queue ≡ false → nat_lt 0 delay ≡ false
    → after ≡ pushed manager queue Immediate task → StandsFor script (after_main past seat task queue delay true) after
stands_at_post {script = script} {past = past} {manager = manager} {task = task} {queue = queue} {delay = delay} seat can still_open immediate after =
    subst (StandsFor script then) (sym after) (record {
      script_fits = can.stands.script_fits;
      past_fits = past_at_post seat task queue delay can.stands.past_fits can.is_new can.posted;
      parts =
          subst (λ order. ArePartsOf script then (main_arrivals then) (unripe then) order (pushed manager queue Immediate task)) order
          (subst (λ waiting. ArePartsOf script then (main_arrivals then) waiting (manager.next_order + 1) (pushed manager queue Immediate task)) (sym waiting)
          (subst (λ arrivals. ArePartsOf script then arrivals (unripe past) (manager.next_order + 1) (pushed manager queue Immediate task))
          (sym (arrivals_then past seat task queue delay immediate)) parts));
      moment = can.stands.moment ∙ sym (now_kept past e refl);
    })
  where
    e : Entry
    e = accepts seat task queue delay

    then : List Entry
    then = past ++ e ∷ []

    arrivals : List Ordered
    arrivals = main_arrivals past ++ drawn past task queue delay ∷ []

    order : manager.next_order + 1 ≡ next_draw then
    order =
        let one : drawn_by past e.kind ≡ 1 = ap (λ (b : Bool). cond b 0 1) immediate in
        let had : manager.next_order ≡ next_draw past = can.stands.parts.order_is in
        omega (arith, had, one, draws_push past e)

    waiting : unripe then ≡ unripe past
    waiting = ap (sort_by ripens_before) (waiting_at_post past seat task queue delay still_open
        ∙ ap (λ b. filter (waits past) (main_posts past) ++ cond b (post_behind past task queue delay ∷ []) []) immediate
        ∙ append-nil (filter (waits past) (main_posts past)))

    room : load (queue_of script then arrivals (unripe past) queue) ≤ posted_to then queue
    room =
        let had : load (queue_of script past (main_arrivals past) (unripe past) queue) ≤ posted_to past queue
        = room_by_past script past (main_arrivals past) (unripe past) (next_draw past) manager queue can.stands.parts (declared_at can).declared in
        let more : posted_to then queue ≡ posted_to past queue + 1
        = posted_at_post past seat task queue delay queue ∙ ap (λ b. posted_to past queue + cond b 1 0) (eqb-same queue) in
        let one : load (queue_of script then arrivals (unripe past) queue) ≡ load (queue_of script past (main_arrivals past) (unripe past) queue) + 1
        = ap load (sym (with_it script past seat task queue delay still_open (untaken task can.stands.past_fits can.is_new) immediate))
        ∙ load_with_task (queue_of script past (main_arrivals past) (unripe past) queue) task (next_draw past) in
        omega (arith, had, more, one)

    parts : ArePartsOf script then arrivals (unripe past) (manager.next_order + 1) (pushed manager queue Immediate task)
    parts = parts_changed script past then (main_arrivals past) arrivals (unripe past) (unripe past) (next_draw past) (manager.next_order + 1) manager queue
        (with_task Immediate task manager.next_order (queue_at manager.queues queue)) can.stands.parts (declared_at can).declared
        (pushed_is seat can still_open immediate)
        (λ p within other. other_arrived script past (main_arrivals past) (drawn past task queue delay) (unripe past) p other
        ∙ sym (kept_at_post script past seat task queue delay arrivals (unripe past) p))
        (λ p. sym (class_kept script past e p refl)) (streak_of_push script past e) room (more_posted past seat task queue delay)
        (let few : next_draw past + length (unripe past) ≤ 2 + length past = can.stands.parts.few_orders in
        let had : manager.next_order ≡ next_draw past = can.stands.parts.order_is in
        omega (arith, few, had, longer past e))
