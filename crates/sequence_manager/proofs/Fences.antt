-- Fences, votes and classes.
-- Cited by `Manager::fence`, `Manager::unfence`, `Manager::vote`, `Closes`, `DelayedPosts`, `Posts`.
use Rattle.std.proofs.Common.{◌≡◌, ℕ, ◌+◌, ◌<◌, ◌≤◌, Bool, true, false, cond, List, [], ◌∷◌, ◌++◌, length, refl, sym, ap, ◌∙◌, subst, Option, Some, None, arith}
use Rattle.std.specs.Prelude.{◌&&◌, ◌==◌, not, slice_get, slice_set}
use Rattle.std.proofs.lemmas.Bool.{ne_eqb, not_from_false}
use Rattle.std.proofs.lemmas.List.FromFn.{length-map-range_with_len}
use Rattle.list_laws.specs.Lists.{count}
use Rattle.list_laws.proofs.Values.{eqb-same}
use Rattle.queue_laws.proofs.Arrivals.{main_arrivals_rise}
use Rattle.task_base.specs.Plan.{Plan}
use Rattle.task_base.specs.declared.entry.Entry.{Entry}
use Rattle.task_base.specs.declared.entry.Kind.TheVariants as kinds
use Rattle.task_base.specs.declared.script.FenceAt.{FenceAt}
use Rattle.task_base.specs.declared.script.FenceAt.TheVariants.{Now, Start}
use Rattle.task_model.proofs.Growth.{draws_push, fence_of_push, votes_on_push}
use Rattle.task_model.specs.MainQueues.{class_of, fence_of, streak_of, voters_of, votes_on}
use Rattle.task_model.specs.Orders.{next_draw, drawn_by}
use Rattle.queue_laws.specs.Orders.{main_arrivals, order_parts}
use Rattle.task_model.specs.Posts.{is_main_taken}
use Rattle.pool_laws.proofs.Seats.Cells.{main_cell_same}
use Rattle.list_laws.specs.Lists.{holds_of}
use Rattle.task_base.specs.Entries.{entry_by}
use Rattle.sequence_manager.specs.Calls.{CanFence, CanVote, HasQueue, after_fence, after_unfence, after_vote}
use Rattle.sequence_manager.specs.Queues.{queue_of, unripe}
use Rattle.sequence_manager.specs.StandsFor.{ArePartsOf, StandsFor}
use Rattle.sequence_manager.specs.State.{CanRefresh, order_at, refreshed, with_order_at, with_queue}
use Rattle.sequence_manager.specs.declared.manager.Manager.{Manager}
use Rattle.sequence_manager.specs.declared.task_queue.TaskQueue.{TaskQueue}
use Rattle.sequence_manager.proofs.Apart.{queue_there}
use Rattle.sequence_manager.proofs.Kept.{IsDriversAsBefore, KeepsTasks, class_kept, driver_same, is_of_other, taken_kept}
use Rattle.sequence_manager.proofs.Kept.{other_keeps, queue_kept, tasks_kept, votes_of, votes_same}
use Rattle.sequence_manager.proofs.Others.{longer}
use Rattle.sequence_manager.proofs.Parts.{can_tell, load, parts_changed, posted_to, room_by_past}
use Rattle.sequence_manager.proofs.Quiet.{draw_kept, quiet_arrivals, quiet_now, past_kept, quiet_posts, quiet_unripe, due_parts, quiet_closed}
use Rattle.sequence_manager.proofs.Tables.{map_is_table, queue_at_is, table_is, table_set}
use Rattle.pool_laws.specs.Moves.{Part, Takes, Ends, Classes, MainTakes, MainEnds, moves}
use Rattle.pool_laws.specs.Seats.{main_parts, running_parts}
use Rattle.pool_laws.proofs.Moves.{moves_fewer}
use Rattle.queue_laws.proofs.Fronts.{streak_of_same}

-- an entry that sets a queue's fence, or one of its votes, and changes nothing else
pub record Sets (q : ℕ) (past : List Entry) (e : Entry) : Type 0 where
  pub quiet : moves due_parts e.kind ≡ false
  pub other : (p : ℕ) → (p ≡ q → ⊥) → is_of_other p e.kind ≡ true
  pub tasks : KeepsTasks past (past ++ e ∷ []) q
  pub class : (script : Plan) (p : ℕ) → class_of script (past ++ e ∷ []) p ≡ class_of script past p
  pub streak : (script : Plan) → streak_of script (past ++ e ∷ []) ≡ streak_of script past
  pub driver : IsDriversAsBefore past e
  pub taken : (t : ℕ) → is_main_taken (past ++ e ∷ []) t ≡ is_main_taken past t

-- the queue at its place
pub queue_is : {script : Plan} {past : List Entry} {manager : Manager} {q : ℕ} {queue : TaskQueue} → HasQueue script past manager q
    → slice_get manager.queues q ≡ Some queue → queue ≡ queue_of script past (main_arrivals past) (unripe past) q
queue_is {script = script} {past = past} {manager = manager} {q = q} {queue = queue} at there =
    sym (queue_there manager.queues q queue there)
    ∙ queue_at_is (queue_of script past (main_arrivals past) (unripe past)) (length script.queues) manager.queues q at.stands.parts.queues at.declared

-- the queue with the fence and the votes of a past
abbrev set_to : Plan → List Entry → ℕ → TaskQueue → TaskQueue
set_to script past q queue = record queue { fence = fence_of past q; voters = votes_of script past q }

set_is : (script : Plan) (past : List Entry) (e : Entry) (manager : Manager) (q : ℕ) (queue : TaskQueue) → Sets q past e → HasQueue script past manager q
    → slice_get manager.queues q ≡ Some queue
    → set_to script (past ++ e ∷ []) q queue ≡ queue_of script (past ++ e ∷ []) (main_arrivals past) (unripe past) q
set_is script past e manager q queue is at there =
    ap (set_to script (past ++ e ∷ []) q) (queue_is at there)
    ∙ sym (tasks_kept script past (past ++ e ∷ []) (main_arrivals past) (unripe past) q is.tasks)

-- the selector may be told of it
pub can_set : (script : Plan) (past : List Entry) (e : Entry) (manager : Manager) (q : ℕ) (queue : TaskQueue) (now : ℕ) → Sets q past e
    → HasQueue script past manager q → slice_get manager.queues q ≡ Some queue
    → CanRefresh (main_arrivals past) (record (with_queue manager q (set_to script (past ++ e ∷ []) q queue)) { next_order = now }) q
can_set script past e manager q queue now is at there =
    can_tell script past (past ++ e ∷ []) (main_arrivals past) (main_arrivals past) (unripe past) (unripe past) (next_draw past) now manager q
    (set_to script (past ++ e ∷ []) q queue) at.stands.parts at.declared (set_is script past e manager q queue is at there)
    (main_arrivals_rise past) (λ o among. among)

-- the manager that told it stands for the past with the entry
pub stands_set : (script : Plan) (past : List Entry) (e : Entry) (manager : Manager) (q : ℕ) (queue : TaskQueue) (now : ℕ) → Sets q past e
    → HasQueue script past manager q → slice_get manager.queues q ≡ Some queue → now ≡ next_draw (past ++ e ∷ []) → now ≤ next_draw past + 1
    → StandsFor script (past ++ e ∷ []) (refreshed (record (with_queue manager q (set_to script (past ++ e ∷ []) q queue)) { next_order = now }) q)
stands_set script past e manager q queue now is at there draw few = record {
  script_fits = at.stands.script_fits;
  past_fits = past_kept script past e (moves_fewer order_parts due_parts e.kind refl is.quiet) is.taken at.stands.past_fits;
  parts =
      subst (λ order. ArePartsOf script after (main_arrivals after) (unripe after) order behind) draw
      (subst (λ waiting. ArePartsOf script after (main_arrivals after) waiting now behind) (sym (quiet_unripe past e is.quiet))
      (subst (λ arrivals. ArePartsOf script after arrivals (unripe past) now behind) (sym (quiet_arrivals past e is.quiet)) parts));
  moment = at.stands.moment ∙ sym (quiet_now past e is.quiet);
}
  where
    after : List Entry
    after = past ++ e ∷ []

    behind : Manager
    behind = refreshed (record (with_queue manager q (set_to script after q queue)) { next_order = now }) q

    posts : (p : ℕ) → posted_to after p ≡ posted_to past p
    posts p = ap (count (λ x. x.home == p)) (quiet_posts past e is.quiet)

    room : load (queue_of script after (main_arrivals past) (unripe past) q) ≤ posted_to after q
    room = rw (tasks_kept script past after (main_arrivals past) (unripe past) q is.tasks, posts q)
        (room_by_past script past (main_arrivals past) (unripe past) (next_draw past) manager q at.stands.parts at.declared)

    parts : ArePartsOf script after (main_arrivals past) (unripe past) now behind
    parts = parts_changed script past after (main_arrivals past) (main_arrivals past) (unripe past) (unripe past) (next_draw past) now manager q
        (set_to script after q queue) at.stands.parts at.declared (set_is script past e manager q queue is at there)
        (λ p within other. sym (queue_kept script past after (main_arrivals past) (unripe past) p (other_keeps past e p (is.other p other) is.driver)))
        (λ p. sym (is.class script p)) (is.streak script) room (λ p. omega (arith, posts p))
        (let had : next_draw past + length (unripe past) ≤ 2 + length past = at.stands.parts.few_orders in omega (arith, had, few, longer past e))

-- Which entries are such.

another : (p q : ℕ) → (p ≡ q → ⊥) → not (q == p) ≡ true
another p q other = not_from_false (q == p) (ne_eqb q p (λ is. other (sym is)))

-- what such an entry leaves alone
abbrev left_parts : List Part
left_parts = Takes ∷ Ends ∷ Classes ∷ main_parts ++ due_parts

sets_at : (past : List Entry) (e : Entry) (q : ℕ) → moves left_parts e.kind ≡ false → ((p : ℕ) → (p ≡ q → ⊥) → is_of_other p e.kind ≡ true) → Sets q past e
sets_at past e q leaves other = record {
  quiet = quiet;
  other = other;
  tasks = record {
    closed_is = quiet_closed past e q quiet;
    taken_is = taken;
    out_is = ap (holds_of (λ w. w.home == q)) driver;
    cell_is = main_cell_same past e q (moves_fewer (MainEnds ∷ []) left_parts e.kind refl leaves);
  };
  class = λ script p. class_kept script past e p (moves_fewer (Classes ∷ []) left_parts e.kind refl leaves);
  streak = λ script. streak_of_same script past e untaken;
  driver = driver;
  taken = taken;
}
  where
    quiet : moves due_parts e.kind ≡ false
    quiet = moves_fewer due_parts left_parts e.kind refl leaves

    untaken : moves (MainTakes ∷ []) e.kind ≡ false
    untaken = moves_fewer (MainTakes ∷ []) left_parts e.kind refl leaves

    taken : (t : ℕ) → is_main_taken (past ++ e ∷ []) t ≡ is_main_taken past t
    taken = taken_kept past e untaken

    driver : IsDriversAsBefore past e
    driver = driver_same past e (moves_fewer running_parts left_parts e.kind refl leaves)

pub fence_sets : (past : List Entry) (seat q : ℕ) (at : FenceAt) → Sets q past (record { seat = seat; kind = kinds.Fence q at })
fence_sets past seat q at = sets_at past _ q refl (λ p. another p q)

pub unfence_sets : (past : List Entry) (seat q : ℕ) → Sets q past (record { seat = seat; kind = kinds.Unfence q })
unfence_sets past seat q = sets_at past _ q refl (λ p. another p q)

pub vote_sets : (past : List Entry) (seat q voter : ℕ) (on : Bool) → Sets q past (record { seat = seat; kind = kinds.Vote q voter on })
vote_sets past seat q voter on = sets_at past _ q refl (λ p. another p q)

-- What the calls leave is set so.

-- the fence and the votes that a queue has by the past
fence_there : {script : Plan} {past : List Entry} {manager : Manager} {q : ℕ} {queue : TaskQueue} → HasQueue script past manager q
    → slice_get manager.queues q ≡ Some queue → queue.fence ≡ fence_of past q
unfolding queue_of
fence_there at there = ap (λ (x : TaskQueue). x.fence) (queue_is at there)

pub votes_there : {script : Plan} {past : List Entry} {manager : Manager} {q : ℕ} {queue : TaskQueue} → HasQueue script past manager q
    → slice_get manager.queues q ≡ Some queue → queue.voters ≡ votes_of script past q
unfolding queue_of
votes_there at there = ap (λ (x : TaskQueue). x.voters) (queue_is at there)

-- a queue with this fence
abbrev fenced : TaskQueue → Option ℕ → TaskQueue
fenced queue fence = record queue { fence = fence }

-- a queue with these votes
abbrev voted : TaskQueue → List Bool → TaskQueue
voted queue votes = record queue { voters = votes }

fence_only : {script : Plan} {past : List Entry} {manager : Manager} {q : ℕ} {queue : TaskQueue} (e : Entry) (fence : Option ℕ) → HasQueue script past manager q
    → slice_get manager.queues q ≡ Some queue → fence_of (past ++ e ∷ []) q ≡ fence
    → ((v : ℕ) → votes_on (past ++ e ∷ []) q v ≡ votes_on past q v) → set_to script (past ++ e ∷ []) q queue ≡ fenced queue fence
fence_only {script = script} {past = past} {q = q} {queue = queue} e fence at there is votes =
    ap (λ f. record queue { fence = f; voters = votes_of script (past ++ e ∷ []) q }) is
    ∙ ap (λ v. record queue { fence = fence; voters = v }) (votes_same script past (past ++ e ∷ []) q votes ∙ sym (votes_there at there))

votes_only : {script : Plan} {past : List Entry} {manager : Manager} {q : ℕ} {queue : TaskQueue} (e : Entry) (votes : List Bool)
    → HasQueue script past manager q
    → slice_get manager.queues q ≡ Some queue → fence_of (past ++ e ∷ []) q ≡ fence_of past q → votes_of script (past ++ e ∷ []) q ≡ votes
    → set_to script (past ++ e ∷ []) q queue ≡ voted queue votes
votes_only {script = script} {past = past} {q = q} {queue = queue} e votes at there fence is =
    ap (λ f. record queue { fence = f; voters = votes_of script (past ++ e ∷ []) q }) (fence ∙ sym (fence_there at there))
    ∙ ap (λ v. record queue { fence = queue.fence; voters = v }) is

-- one voter's vote, among the others'
votes_set : (script : Plan) (past : List Entry) (seat q voter : ℕ) (on : Bool) → voter < voters_of script q
    → votes_of script (past ++ entry_by seat (kinds.Vote q voter on) ∷ []) q ≡ slice_set (votes_of script past q) voter on
votes_set script past seat q voter on has = sym (table_is (votes_on after q) (voters_of script q) (slice_set (votes_of script past q) voter on) true
    (table_set (votes_on past q) (votes_on after q) (voters_of script q) (votes_of script past q) voter on
    (map_is_table (votes_on past q) (voters_of script q)) has (λ v within other. sym (push v ∙ ap (λ b. cond b on (votes_on past q v)) (others v other)))
    (sym (push voter ∙ ap (λ b. cond b on (votes_on past q voter)) here))))
  where
    after : List Entry
    after = past ++ entry_by seat (kinds.Vote q voter on) ∷ []

    push : (v : ℕ) → votes_on after q v ≡ cond (q == q && voter == v) on (votes_on past q v)
    push v = votes_on_push past (entry_by seat (kinds.Vote q voter on)) q v

    here : (q == q && voter == voter) ≡ true
    here = rw (eqb-same q, eqb-same voter) refl

    others : (v : ℕ) → (v ≡ voter → ⊥) → (q == q && voter == v) ≡ false
    others v other = rw (eqb-same q, ne_eqb voter v (λ is. other (sym is))) refl

-- The calls.

-- the order that is drawn next behind a fence, and where the fence stands
next_at_fence : (past : List Entry) (seat q : ℕ) (at : FenceAt) (manager : Manager) → manager.next_order ≡ next_draw past
    → (with_order_at manager at ≡ record manager { next_order = next_draw (past ++ entry_by seat (kinds.Fence q at) ∷ []) })
    × (next_draw (past ++ entry_by seat (kinds.Fence q at) ∷ []) ≤ next_draw past + 1)
    × (fence_of (past ++ entry_by seat (kinds.Fence q at) ∷ []) q ≡ Some (order_at manager at))
next_at_fence past seat q Now manager is =
    let drawn : next_draw (past ++ entry_by seat (kinds.Fence q Now) ∷ []) ≡ next_draw past + 1 = omega (
      arith,
      draws_push past (entry_by seat
          (kinds.Fence q Now)),
    ) in (
      ap (λ n. record manager { next_order = n }) (ap (λ n. n + 1) is ∙ sym drawn),
      omega (arith, drawn),
      fence_of_push past (entry_by seat (kinds.Fence q Now)) q ∙ ap (λ b. cond b (Some (next_draw past)) (fence_of past q)) (eqb-same q) ∙ ap Some (sym is),
    )
next_at_fence past seat q Start manager is =
    let drawn : next_draw (past ++ entry_by seat (kinds.Fence q Start) ∷ []) ≡ next_draw past = draw_kept past (entry_by seat (kinds.Fence q Start)) refl in (
      ap (λ n. record manager { next_order = n }) (is ∙ sym drawn),
      omega (arith, drawn),
      fence_of_push past (entry_by seat (kinds.Fence q Start)) q ∙ ap (λ b. cond b (Some 1) (fence_of past q)) (eqb-same q),
    )

-- a fence is put into the queue, behind the draw of its order
pub can_fence : {script : Plan} {past : List Entry} {manager drawn : Manager} {q order : ℕ} {queue : TaskQueue} {fence : Option ℕ} (at : FenceAt)
    → CanFence script past manager q → drawn ≡ with_order_at manager at → order ≡ order_at manager at → slice_get drawn.queues q ≡ Some queue
    → fence ≡ Some order → CanRefresh (main_arrivals past) (with_queue drawn q (fenced queue fence)) q
can_fence {script = script} {past = past} {manager = manager} {drawn = drawn} {q = q} {order = order} {queue = queue} {fence = fence} at can drawn_is
    order_is there is =
    subst (λ (m : Manager). slice_get m.queues q ≡ Some queue
    → CanRefresh (main_arrivals past) (with_queue m q (fenced queue fence)) q) (sym (drawn_is ∙ next.0))
    (λ here. subst (λ x. CanRefresh (main_arrivals past) (record (with_queue manager q x) { next_order = now }) q)
    (fence_only e fence can.at here (next.2 ∙ ap Some (sym order_is) ∙ sym is) (λ v. votes_on_push past e q v))
    (can_set script past e manager q queue now (fence_sets past 0 q at) can.at here)) there
  where
    e : Entry
    e = entry_by 0 (kinds.Fence q at)

    now : ℕ
    now = next_draw (past ++ e ∷ [])

    next : (with_order_at manager at ≡ record manager { next_order = now }) × (now ≤ next_draw past + 1) × (fence_of (past ++ e ∷ []) q ≡ Some
        (order_at manager at))
    next = next_at_fence past 0 q at manager can.at.stands.parts.order_is

pub stands_at_fence : {script : Plan} {past : List Entry} {manager drawn after : Manager} {q order : ℕ} {queue : TaskQueue} {fence : Option ℕ} (seat : ℕ)
    (at : FenceAt)
    → CanFence script past manager q → drawn ≡ with_order_at manager at → order ≡ order_at manager at → slice_get drawn.queues q ≡ Some queue
    → fence ≡ Some order → after ≡ refreshed (with_queue drawn q (fenced queue fence)) q → StandsFor script (after_fence past seat q at) after
stands_at_fence {script = script} {past = past} {manager = manager} {drawn = drawn} {q = q} {order = order} {queue = queue} {fence = fence} seat at can
    drawn_is order_is there is after =
    subst (StandsFor script (past ++ e ∷ [])) (sym after)
    (subst (λ (m : Manager). slice_get m.queues q ≡ Some queue
    → StandsFor script (past ++ e ∷ []) (refreshed (with_queue m q (fenced queue fence)) q)) (sym (drawn_is ∙ next.0))
    (λ here. subst (λ x. StandsFor script (past ++ e ∷ []) (refreshed (record (with_queue manager q x) { next_order = now }) q))
    (fence_only e fence can.at here (next.2 ∙ ap Some (sym order_is) ∙ sym is) (λ v. votes_on_push past e q v))
    (stands_set script past e manager q queue now (fence_sets past seat q at) can.at here refl next.1)) there)
  where
    e : Entry
    e = entry_by seat (kinds.Fence q at)

    now : ℕ
    now = next_draw (past ++ e ∷ [])

    next : (with_order_at manager at ≡ record manager { next_order = now }) × (now ≤ next_draw past + 1) × (fence_of (past ++ e ∷ []) q ≡ Some
        (order_at manager at))
    next = next_at_fence past seat q at manager can.at.stands.parts.order_is

-- where no order is drawn
undrawn : {script : Plan} {past : List Entry} {manager : Manager} {q : ℕ} (e : Entry) → HasQueue script past manager q → drawn_by past e.kind ≡ 0
    → (manager.next_order ≡ next_draw (past ++ e ∷ [])) × (manager.next_order ≤ next_draw past + 1)
undrawn {past = past} {manager = manager} e at none =
    let is : manager.next_order ≡ next_draw past = at.stands.parts.order_is in (is ∙ sym (draw_kept past e none), omega (arith, is))

no_fence : (past : List Entry) (seat q : ℕ) → fence_of (past ++ entry_by seat (kinds.Unfence q) ∷ []) q ≡ None
no_fence past seat q = fence_of_push past (entry_by seat (kinds.Unfence q)) q ∙ ap (λ b. cond b None (fence_of past q)) (eqb-same q)

-- the fence of the queue is removed
pub can_unfence : {script : Plan} {past : List Entry} {manager : Manager} {q : ℕ} {queue : TaskQueue} {fence : Option ℕ} → HasQueue script past manager q
    → slice_get manager.queues q ≡ Some queue → fence ≡ None → CanRefresh (main_arrivals past) (with_queue manager q (fenced queue fence)) q
can_unfence {script = script} {past = past} {manager = manager} {q = q} {queue = queue} {fence = fence} at there is =
    subst (λ x. CanRefresh (main_arrivals past) (with_queue manager q x) q)
    (fence_only (entry_by 0 (kinds.Unfence q)) fence at there (no_fence past 0 q ∙ sym is) (λ v. votes_on_push past (entry_by 0 (kinds.Unfence q)) q v))
    (can_set script past (entry_by 0 (kinds.Unfence q)) manager q queue manager.next_order (unfence_sets past 0 q) at there)

pub stands_at_unfence : {script : Plan} {past : List Entry} {manager after : Manager} {q : ℕ} {queue : TaskQueue} {fence : Option ℕ} (seat : ℕ)
    → HasQueue script past manager q → slice_get manager.queues q ≡ Some queue → fence ≡ None
    → after ≡ refreshed (with_queue manager q (fenced queue fence)) q → StandsFor script (after_unfence past seat q) after
stands_at_unfence {script = script} {past = past} {manager = manager} {q = q} {queue = queue} {fence = fence} seat at there is after =
    subst (StandsFor script (past ++ e ∷ [])) (sym after)
    (subst (λ x. StandsFor script (past ++ e ∷ []) (refreshed (with_queue manager q x) q))
    (fence_only e fence at there (no_fence past seat q ∙ sym is) (λ v. votes_on_push past e q v))
    (stands_set script past e manager q queue manager.next_order (unfence_sets past seat q) at there (undrawn e at refl).0 (undrawn e at refl).1))
  where
    e : Entry
    e = entry_by seat (kinds.Unfence q)

-- a voter of the queue votes
pub has_voter : {script : Plan} {past : List Entry} {manager : Manager} {q voter : ℕ} {queue : TaskQueue} → CanVote script past manager q voter
    → slice_get manager.queues q ≡ Some queue → voter < length queue.voters
has_voter {script = script} {past = past} {q = q} {queue = queue} can there =
    let long : length queue.voters ≡ voters_of script q = ap length (votes_there can.at there)
    ∙ length-map-range_with_len (votes_on past q) 0 (voters_of script q) in
    omega (arith, long, can.has)

votes_behind : {script : Plan} {past : List Entry} {manager : Manager} {q voter : ℕ} {queue : TaskQueue} {votes : List Bool} (seat : ℕ) (on : Bool)
    → CanVote script past manager q voter → slice_get manager.queues q ≡ Some queue → votes ≡ slice_set queue.voters voter on
    → votes_of script (past ++ entry_by seat (kinds.Vote q voter on) ∷ []) q ≡ votes
votes_behind {script = script} {past = past} {q = q} {voter = voter} seat on can there is =
    votes_set script past seat q voter on can.has ∙ ap (λ v. slice_set v voter on) (sym (votes_there can.at there)) ∙ sym is

pub can_vote : {script : Plan} {past : List Entry} {manager : Manager} {q voter : ℕ} {queue : TaskQueue} {votes : List Bool} (on : Bool)
    → CanVote script past manager q voter → slice_get manager.queues q ≡ Some queue → votes ≡ slice_set queue.voters voter on
    → CanRefresh (main_arrivals past) (with_queue manager q (voted queue votes)) q
can_vote {script = script} {past = past} {manager = manager} {q = q} {voter = voter} {queue = queue} {votes = votes} on can there is =
    subst (λ x. CanRefresh (main_arrivals past) (with_queue manager q x) q)
    (votes_only (entry_by 0 (kinds.Vote q voter on)) votes can.at there (fence_of_push past (entry_by 0 (kinds.Vote q voter on)) q) (votes_behind 0 on can there is))
    (can_set script past (entry_by 0 (kinds.Vote q voter on)) manager q queue manager.next_order (vote_sets past 0 q voter on) can.at there)

pub stands_at_vote : {script : Plan} {past : List Entry} {manager after : Manager} {q voter : ℕ} {queue : TaskQueue} {votes : List Bool} (seat : ℕ) (on : Bool)
    → CanVote script past manager q voter → slice_get manager.queues q ≡ Some queue → votes ≡ slice_set queue.voters voter on
    → after ≡ refreshed (with_queue manager q (voted queue votes)) q → StandsFor script (after_vote past seat q voter on) after
stands_at_vote {script = script} {past = past} {manager = manager} {q = q} {voter = voter} {queue = queue} {votes = votes} seat on can there is after =
    subst (StandsFor script (past ++ e ∷ [])) (sym after)
    (subst (λ x. StandsFor script (past ++ e ∷ []) (refreshed (with_queue manager q x) q))
    (votes_only e votes can.at there (fence_of_push past e q) (votes_behind seat on can there is))
    (stands_set script past e manager q queue manager.next_order (vote_sets past seat q voter on) can.at there (undrawn e can.at refl).0
    (undrawn e can.at refl).1))
  where
    e : Entry
    e = entry_by seat (kinds.Vote q voter on)
