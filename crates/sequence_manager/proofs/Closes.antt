-- A queue is closed: its tasks are dropped.
-- Cited by `Manager::close`.
use Rattle.std.proofs.Common.{◌≡◌, ℕ, ◌+◌, ◌≤◌, Bool, true, false, List, [], ◌∷◌, ◌++◌, length, refl, sym, ap, ◌∙◌, subst, Some, inl, inr, arith}
use Rattle.std.specs.Prelude.{◌⊎◌, ◌&&◌, ◌||◌, ◌==◌, nat_lt, not, filter, slice_get}
use Rattle.std.proofs.lemmas.Bool.{cases_eq, ne_eqb, not_from_false}
use Rattle.std.proofs.Math.Bool.{or-false, or-true}
use Rattle.list_laws.specs.Lists.{count}
use Rattle.list_laws.specs.Sorts.{sort_by}
use Rattle.list_laws.proofs.Counts.{count_le}
use Rattle.list_laws.proofs.Filters.{filter-filter, filter_congr, filter_never}
use Rattle.list_laws.proofs.Values.{eqb-same, eqb-turned}
use Rattle.pool_laws.proofs.Keys.Posts.{main_posts_same}
use Rattle.pool_laws.proofs.Seats.Cells.{main_cell_same}
use Rattle.queue_laws.proofs.Arrivals.{main_arrivals_rise, main_arrivals_same}
use Rattle.task_base.specs.Plan.{Plan}
use Rattle.task_base.specs.declared.entry.Entry.{Entry}
use Rattle.task_base.specs.declared.entry.Kind.TheVariants as kinds
use Rattle.task_model.proofs.Growth.{draws_push, fence_of_push, is_closed_push, is_main_taken_push, streak_of_push, votes_on_push}
use Rattle.task_model.specs.Orders.{next_draw}
use Rattle.queue_laws.specs.Orders.{Ordered, main_arrivals}
use Rattle.task_model.specs.Posts.{Posted, is_delayed, is_main_taken, main_posts, ripens_before}
use Rattle.task_model.specs.Refusal.{is_closed}
use Rattle.task_model.specs.Time.{now_of}
use Rattle.sequence_manager.specs.Calls.{HasQueue, after_close}
use Rattle.sequence_manager.specs.Queues.{queue_of, unripe, waits}
use Rattle.sequence_manager.specs.StandsFor.{ArePartsOf, StandsFor}
use Rattle.sequence_manager.specs.State.{CanRefresh, closed, refreshed, with_queue}
use Rattle.sequence_manager.specs.declared.manager.Manager.{Manager}
use Rattle.sequence_manager.specs.declared.task_queue.TaskQueue.{TaskQueue}
use Rattle.sequence_manager.proofs.Fences.{queue_is}
use Rattle.sequence_manager.proofs.Kept.{class_kept, driver_same, other_keeps, queue_kept, votes_same}
use Rattle.sequence_manager.proofs.Others.{longer}
use Rattle.sequence_manager.proofs.Parts.{can_tell, load, parts_changed, posted_to}
use Rattle.sequence_manager.proofs.Quiet.{now_kept, past_kept}
use Rattle.sequence_manager.proofs.Waiting.{sort_unripe}

abbrev entry : ℕ → ℕ → Entry
entry seat q = record { seat = seat; kind = kinds.Close q }

-- the tasks that wait in other queues
abbrev others : ℕ → List Posted → List Posted
others q waiting = filter (λ p. not (p.home == q)) waiting

unripe_at_close : (past : List Entry) (seat q : ℕ) → unripe (after_close past seat q) ≡ others q (unripe past)
unripe_at_close past seat q =
    ap (λ ps. sort_by ripens_before (filter (waits (past ++ entry seat q ∷ [])) ps)) (main_posts_same past (entry seat q) refl)
    ∙ ap (sort_by ripens_before) (filter_congr (waits (past ++ entry seat q ∷ [])) (λ p. waits past p && not (p.home == q)) (main_posts past) left)
    ∙ sort_unripe past (λ p. not (p.home == q))
  where
    apart : (a b c d : Bool) → (a && not (b || c) && d) ≡ ((a && not b && d) && not c)
    apart true true true true = refl
    apart true true true false = refl
    apart true true false true = refl
    apart true true false false = refl
    apart true false true true = refl
    apart true false true false = refl
    apart true false false true = refl
    apart true false false false = refl
    apart false b c d = refl

    left : (p : Posted) → waits (past ++ entry seat q ∷ []) p ≡ (waits past p && not (p.home == q))
    left p =
        ap (λ b. is_delayed p && not b && nat_lt (now_of (past ++ entry seat q ∷ [])) p.ripe) (is_closed_push past (entry seat q) p.home)
        ∙ ap (λ n. is_delayed p && not (is_closed past p.home || q == p.home) && nat_lt n p.ripe) (now_kept past (entry seat q) refl)
        ∙ apart (is_delayed p) (is_closed past p.home) (q == p.home) (nat_lt (now_of past) p.ripe)
        ∙ ap (λ b. waits past p && not b) (eqb-turned q p.home)

-- none of them is of the queue
none_waits : (q : ℕ) (waiting : List Posted) → filter (λ p. p.home == q) (others q waiting) ≡ []
none_waits q waiting = filter-filter (λ p. p.home == q) (λ p. not (p.home == q)) waiting ∙ filter_never (λ p. not (p.home == q) && p.home == q) waiting
    (λ p. never (p.home == q))
  where
    never : (b : Bool) → (not b && b) ≡ false
    never true = refl
    never false = refl

-- and all of another
same_wait : (q other : ℕ) (waiting : List Posted) → (other ≡ q → ⊥) → filter (λ p. p.home == other) (others q waiting) ≡ filter (λ p. p.home == other) waiting
same_wait q other waiting apart = filter-filter (λ p. p.home == other) (λ p. not (p.home == q)) waiting
    ∙ filter_congr (λ p. not (p.home == q) && p.home == other) (λ p. p.home == other) waiting (λ p. by_posted p (cases_eq p.home other))
  where
    by_posted : (p : Posted) → (p.home ≡ other) ⊎ (p.home ≡ other → ⊥) → (not (p.home == q) && p.home == other) ≡ (p.home == other)
    by_posted p (inl is) = rw (is, ne_eqb other q apart) refl
    by_posted p (inr differs) = rw (ne_eqb p.home other differs) (none (not (p.home == q)))
      where
        none : (b : Bool) → (b && false) ≡ false
        none true = refl
        none false = refl

is_closed_now : (past : List Entry) (seat q : ℕ) → is_closed (after_close past seat q) q ≡ true
is_closed_now past seat q = is_closed_push past (entry seat q) q ∙ ap (λ b. is_closed past q || b) (eqb-same q) ∙ or-true (is_closed past q)

-- the closed queue has no task any more
closed_queue : (script : Plan) (past : List Entry) (seat q : ℕ) (arrivals : List Ordered) (waiting : List Posted)
    → closed (queue_of script past arrivals waiting q) ≡ queue_of script (after_close past seat q) arrivals (others q waiting) q
unfolding queue_of
closed_queue script past seat q arrivals waiting =
    rw (
      is_closed_now past seat q,
      none_waits q waiting,
      fence_of_push past (entry seat q) q,
      votes_same script past (past ++ entry seat q ∷ []) q (λ v. votes_on_push past (entry seat q) q v),
      driver_same past (entry seat q) refl,
      main_cell_same past (entry seat q) q refl,
    )
    refl

-- other tasks wait, and those of the queue are the same
fewer : (script : Plan) (past : List Entry) (q : ℕ) (arrivals : List Ordered) (waiting left : List Posted)
    → filter (λ p. p.home == q) left ≡ filter (λ p. p.home == q) waiting → queue_of script past arrivals left q ≡ queue_of script past arrivals waiting q
unfolding queue_of
fewer script past q arrivals waiting left same = rw same refl

other_queue : (script : Plan) (past : List Entry) (seat q p : ℕ) (arrivals : List Ordered) (waiting : List Posted) → (p ≡ q → ⊥)
    → queue_of script past arrivals waiting p ≡ queue_of script (after_close past seat q) arrivals (others q waiting) p
other_queue script past seat q p arrivals waiting other =
    sym (queue_kept script past (past ++ entry seat q ∷ []) arrivals waiting p
    (other_keeps past (entry seat q) p (not_from_false (q == p) (ne_eqb q p (λ is. other (sym is)))) (driver_same past (entry seat q) refl)))
    ∙ sym (fewer script (past ++ entry seat q ∷ []) p arrivals waiting (others q waiting) (same_wait q p waiting other))

-- the selector may be told of it
pub can_close : {script : Plan} {past : List Entry} {manager : Manager} {q : ℕ} {queue behind : TaskQueue} → HasQueue script past manager q
    → slice_get manager.queues q ≡ Some queue → behind ≡ closed queue → CanRefresh (main_arrivals past) (with_queue manager q behind) q
can_close {script = script} {past = past} {manager = manager} {q = q} {behind = behind} at there is =
    can_tell script past (after_close past 0 q) (main_arrivals past) (main_arrivals past) (unripe past) (others q (unripe past))
    (next_draw past) manager.next_order
    manager q behind at.stands.parts at.declared
    (is ∙ ap closed (queue_is at there) ∙ closed_queue script past 0 q (main_arrivals past) (unripe past)) (main_arrivals_rise past) (λ o among. among)

-- the manager that told the selector stands for the past with the entry
pub stands_at_close : {script : Plan} {past : List Entry} {manager after : Manager} {q : ℕ} {queue behind : TaskQueue} (seat : ℕ)
    → HasQueue script past manager q
    → slice_get manager.queues q ≡ Some queue → behind ≡ closed queue → after ≡ refreshed (with_queue manager q behind) q
    → StandsFor script (after_close past seat q) after
stands_at_close {script = script} {past = past} {manager = manager} {q = q} {behind = behind} seat at there is after =
    subst (StandsFor script then) (sym after) (record {
      script_fits = at.stands.script_fits;
      past_fits = past_kept script past e refl (λ t. is_main_taken_push past e t ∙ or-false (is_main_taken past t)) at.stands.past_fits;
      parts =
          subst (λ order. ArePartsOf script then (main_arrivals then) (unripe then) order told) (order ∙ sym drawn)
          (subst (λ waiting. ArePartsOf script then (main_arrivals then) waiting manager.next_order told) (sym (unripe_at_close past seat q))
          (subst (λ arrivals. ArePartsOf script then arrivals (others q (unripe past)) manager.next_order told) (sym
          (main_arrivals_same past e refl)) parts));
      moment = at.stands.moment ∙ sym (now_kept past e refl);
    })
  where
    e : Entry
    e = entry seat q

    then : List Entry
    then = past ++ e ∷ []

    told : Manager
    told = refreshed (with_queue manager q behind) q

    order : manager.next_order ≡ next_draw past
    order = at.stands.parts.order_is

    drawn : next_draw then ≡ next_draw past
    drawn = omega (arith, draws_push past e)

    posts : (p : ℕ) → posted_to then p ≡ posted_to past p
    posts p = ap (count (λ x. x.home == p)) (main_posts_same past e refl)

    none : load (queue_of script then (main_arrivals past) (others q (unripe past)) q) ≤ posted_to then q
    none = subst (λ x. load x ≤ posted_to then q) (closed_queue script past seat q (main_arrivals past) (unripe past)) (omega arith)

    parts : ArePartsOf script then (main_arrivals past) (others q (unripe past)) manager.next_order told
    parts = parts_changed script past then (main_arrivals past) (main_arrivals past) (unripe past) (others q (unripe past)) (next_draw past) manager.next_order
        manager q behind at.stands.parts at.declared
        (is ∙ ap closed (queue_is at there) ∙ closed_queue script past seat q (main_arrivals past) (unripe past))
        (λ p within other. other_queue script past seat q p (main_arrivals past) (unripe past) other)
        (λ p. sym (class_kept script past e p refl)) (streak_of_push script past e) none (λ p. omega (arith, posts p))
        (let had : next_draw past + length (unripe past) ≤ 2 + length past = at.stands.parts.few_orders in
        omega (arith, had, order, longer past e, count_le (λ p. not (p.home == q)) (unripe past)))
