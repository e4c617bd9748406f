-- The tables of tasks and seats as the past grows.
-- Cited by `Calls/EmptyPool`, `Calls/Ends`, `Calls/Kept`, `Calls/Others`, `Calls/Posts`, `Calls/Reprio`, `Calls/Shutdown`, `Calls/Takes`,
-- `Calls/Ticks`, `Jobs/JobStands`, `Works/AtSeat`.
use Rattle.list_laws.proofs.Places.{slice_get-replicate, slice_get-set_other, slice_get-set_same}
use Rattle.list_laws.specs.Lists.{holds_of, keep}
use Rattle.pool_core.proofs.Accepted.{one_post}
use Rattle.pool_core.proofs.Lists.{get_there}
use Rattle.pool_core.specs.Calls.{after_end, after_post}
use Rattle.pool_core.specs.Pasts.{IsPoolPast, pool_running}
use Rattle.pool_core.specs.Tables.{ArePostings, ArePriorities, AreSeats, posting_of}
use Rattle.pool_core.specs.declared.posting.Posting.{Posting}
use Rattle.pool_laws.proofs.Choice.Waiting.{priority_same}
use Rattle.pool_laws.proofs.Keys.Posts.{post_of_grows, posts_same}
use Rattle.pool_laws.proofs.Seats.Running.{running_here, running_other, running_same}
use Rattle.pool_laws.specs.Choice.{moves_priorities}
use Rattle.pool_laws.specs.Keys.{moves_posts}
use Rattle.pool_laws.specs.Seats.{moves_main, moves_running, runs_pool_task}
use Rattle.std.proofs.Common.{Bool, List, None, Option, Some, [], ap, arith, false, inl, inr, length, refl, sym, true, ℕ, ◌++◌, ◌+◌, ◌<◌, ◌∙◌, ◌∷◌, ◌≡◌, ◌≤◌}
use Rattle.std.proofs.lemmas.Bool.{eqb-false, eqb-true, true≢false}
use Rattle.std.proofs.lemmas.List.{length-map, length-replicate, length-set}
use Rattle.std.proofs.lemmas.List.Elements.{Contains-push_cases}
use Rattle.std.proofs.lemmas.Option.{none-some, slice_get-map}
use Rattle.std.specs.Option.{option_map, option_map_or, option_or}
use Rattle.std.specs.Prelude.{Contains, find, is_some, map, not, replicate, slice_get, slice_set, ◌==◌, ◌⊎◌}
use Rattle.task_base.specs.Plan.{Plan}
use Rattle.task_base.specs.declared.entry.Entry.{Entry}
use Rattle.task_base.specs.declared.entry.Kind.{Kind}
use Rattle.task_base.specs.declared.script.Runner.{Runner}
use Rattle.task_model.proofs.Growth.{posts_push}
use Rattle.task_model.specs.Capacity.{priority_of}
use Rattle.task_model.specs.Past.{fold_past}
use Rattle.task_model.specs.Posts.{Posted, post_behind, posts}
use Rattle.pool_laws.specs.Posts.{post_of}
use Rattle.task_model.specs.Refusal.{effective_at}
use Rattle.task_model.specs.Seats.{Running, running, running_after}
use Rattle.task_traits.specs.declared.traits.Priority.{Priority}
use Rattle.task_traits.specs.declared.traits.Priority.TheVariants.{BestEffort}
use Rattle.task_base.specs.declared.entry.Kind.TheVariants as kinds
use Rattle.task_base.specs.Entries.{next}

-- The postings.

pub postings_at_start : (script : Plan) → ArePostings script [] (replicate (length script.tasks) None)
unfolding posts fold_past
postings_at_start script = record {
  all = length-replicate (length script.tasks) None;
  known = λ p among. absurd (omega (arith, among.1));
  unknown = λ t less none. slice_get-replicate (length script.tasks) t None less;
}

pub postings_at_post : (script : Plan) (past : List Entry) (seat task runner delay : ℕ) (postings : List (Option Posting)) → ArePostings script past postings
    → IsPoolPast script past → task < length script.tasks → post_of past task ≡ None
    → ArePostings script (after_post past seat task runner delay true)
    (slice_set postings task (Some (record { runner = runner; effective = effective_at script runner delay })))
postings_at_post script past seat task runner delay postings are fits declared new = record {
  all = rw length-set are.all;
  known = λ p among. known p (Contains-push_cases (posts past) posted p (rw (posts_push past e) at among));
  unknown = λ t less none. unknown t less (task == t) refl (rw (post_of_grows past e t) at none);
}
  where
    e : Entry
    e = record { seat = seat; kind = kinds.Post task runner delay true }

    posted : Posted
    posted = post_behind past task runner delay

    postings_after : List (Option Posting)
    postings_after = slice_set postings task (Some (posting_of script posted))

    known : (p : Posted) → Contains (posts past) p ⊎ (posted ≡ p) → slice_get postings_after p.task ≡ Some (Some (posting_of script p))
    known p (inl before) = rw (slice_get-set_other postings task p.task (Some (posting_of script posted))
        (λ same. none-some p (sym new ∙ ap (post_of past) same ∙ one_post past p fits.in_order before))) (are.known p before)
    known p (inr is) = rw (← is) (slice_get-set_same postings task (Some (posting_of script posted)) (omega (arith, declared, are.all)))

    no_other : (o : Option Posted) → option_or o None ≡ None → o ≡ None
    no_other None h = refl
    no_other (Some p) h = h

    none_here : (o : Option Posted) → option_or o (Some posted) ≡ None → ⊥
    none_here None h = none-some posted (sym h)
    none_here (Some p) h = none-some p (sym h)

    unknown : (t : ℕ) → t < length script.tasks → (b : Bool) → (task == t) ≡ b
        → option_or (post_of past t) (find (λ p. p.task == t) (posted ∷ [])) ≡ None → slice_get postings_after t ≡ Some None
    unknown t less true here none = absurd (none_here (post_of past t) (rw here at none))
    unknown t less false other none = rw (slice_get-set_other postings task t (Some (posting_of script posted)) (eqb-false task t other))
        (are.unknown t less (no_other (post_of past t) (rw other at none)))

pub postings_kept : (script : Plan) (past : List Entry) (e : Entry) (postings : List (Option Posting)) → moves_posts e.kind ≡ false
    → ArePostings script past postings → ArePostings script (past ++ e ∷ []) postings
postings_kept script past e postings still are = record {
  all = are.all;
  known = λ p among. are.known p (rw (posts_same past e still) at among);
  unknown = λ t less none. are.unknown t less (rw (posts_same past e still) at none);
}

-- The present priorities.

pub priorities_at_start : (script : Plan) → ArePriorities script [] (map (λ r. r.traits.priority) script.runners)
unfolding priority_of
priorities_at_start script = record {
  all = length-map script.runners (λ r. r.traits.priority);
  each = λ runner less. slice_get-map (λ r. r.traits.priority) script.runners runner
      ∙ by_runner (slice_get script.runners runner) (get_there script.runners runner less);
}
  where
    by_runner : (o : Option Runner) → is_some o ≡ true
        → option_map (λ r. r.traits.priority) o ≡ Some (option_map_or (λ r. r.traits.priority) o BestEffort)
    by_runner None none = absurd (true≢false (sym none))
    by_runner (Some r) some = refl

pub priorities_kept : (script : Plan) (past : List Entry) (e : Entry) (priorities : List Priority) → moves_priorities e.kind ≡ false
    → ArePriorities script past priorities → ArePriorities script (past ++ e ∷ []) priorities
priorities_kept script past e priorities still are =
    record { all = are.all; each = λ runner less. rw (priority_same script past e still runner) (are.each runner less) }

-- The seats.

pub seats_at_start : (script : Plan) → AreSeats script [] (replicate (script.workers + 1) None)
unfolding running
seats_at_start script = record {
  all = length-replicate (script.workers + 1) None;
  runs = λ seat less. slice_get-replicate (script.workers + 1) seat None less;
}

-- the entry's seat runs this task of the pool after it, or none
seats_changed : (script : Plan) (past : List Entry) (e : Entry) (seats : List (Option ℕ)) (task : Option ℕ) → AreSeats script past seats
    → e.seat ≤ script.workers → option_map (λ w. w.task) (keep (λ w. not w.is_main) (running_after (running past e.seat) e.kind)) ≡ task
    → AreSeats script (past ++ e ∷ []) (slice_set seats e.seat task)
seats_changed script past e seats task are known is = record { all = rw length-set are.all; runs = λ seat less. runs seat less (e.seat == seat) refl }
  where
    runs : (seat : ℕ) → seat < script.workers + 1 → (b : Bool) → (e.seat == seat) ≡ b
        → slice_get (slice_set seats e.seat task) seat ≡ Some (option_map (λ w. w.task) (pool_running (past ++ e ∷ []) seat))
    runs seat less true here = rw (running_here past e seat here, is, ← eqb-true e.seat seat here)
        (slice_get-set_same seats e.seat task (omega (arith, known, are.all)))
    runs seat less false other = rw (running_other past e seat other, slice_get-set_other seats e.seat seat task (eqb-false e.seat seat other))
        (are.runs seat less)

-- the seats run the same tasks of the pool
seats_same : (script : Plan) (past : List Entry) (e : Entry) (seats : List (Option ℕ))
    → ((seat : ℕ) → pool_running (past ++ e ∷ []) seat ≡ pool_running past seat) → AreSeats script past seats → AreSeats script (past ++ e ∷ []) seats
seats_same script past e seats same are = record { all = are.all; runs = λ seat less. rw (same seat) (are.runs seat less) }

pub seats_at_take : (script : Plan) (past : List Entry) (seat task runner found : ℕ) (seats : List (Option ℕ)) → AreSeats script past seats
    → seat ≤ script.workers → AreSeats script (next past seat (kinds.Take task runner found)) (slice_set seats seat (Some task))
seats_at_take script past seat task runner found seats are known =
    seats_changed script past (record { seat = seat; kind = kinds.Take task runner found }) seats (Some task) are known refl

pub seats_at_end : (script : Plan) (past : List Entry) (seat task left : ℕ) (seats : List (Option ℕ)) → AreSeats script past seats
    → seat ≤ script.workers → AreSeats script (after_end past seat task left) (slice_set seats seat None)
seats_at_end script past seat task left seats are known =
    seats_changed script past (record { seat = seat; kind = kinds.End task left }) seats None are known refl

pub seats_kept : (script : Plan) (past : List Entry) (e : Entry) (seats : List (Option ℕ)) → moves_running e.kind ≡ false
    → AreSeats script past seats → AreSeats script (past ++ e ∷ []) seats
seats_kept script past e seats still are = seats_same script past e seats (λ seat. rw (running_same past e seat still) refl) are

-- a main task is no task of the pool
pub pool_running_at_main : (past : List Entry) (e : Entry) → moves_main e.kind ≡ true → runs_pool_task past e.seat ≡ false
    → (seat : ℕ) → pool_running (past ++ e ∷ []) seat ≡ pool_running past seat
pool_running_at_main past e main apart seat = by_seat (e.seat == seat) refl
  where
    before : (o : Option Running) → holds_of (λ w. not w.is_main) o ≡ false → keep (λ w. not w.is_main) o ≡ None
    before None h = refl
    before (Some w) h = rw h refl

    after : (kind : Kind) → moves_main kind ≡ true → (o : Option Running) → keep (λ w. not w.is_main) (running_after o kind) ≡ None
    after (kinds.MainTake task queue found) h o = refl
    after (kinds.MainEnd task left) h o = refl
    after kind h o = absurd (true≢false (sym h))

    by_seat : (b : Bool) → (e.seat == seat) ≡ b → pool_running (past ++ e ∷ []) seat ≡ pool_running past seat
    by_seat true here = rw (running_here past e seat here, after e.kind main (running past e.seat), ← eqb-true e.seat seat here)
        (sym (before (running past e.seat) apart))
    by_seat false other = rw (running_other past e seat other) refl

pub seats_at_main : (script : Plan) (past : List Entry) (e : Entry) (seats : List (Option ℕ)) → moves_main e.kind ≡ true → runs_pool_task past e.seat ≡ false
    → AreSeats script past seats → AreSeats script (past ++ e ∷ []) seats
seats_at_main script past e seats main apart are = seats_same script past e seats (pool_running_at_main past e main apart) are

-- the place of the seat of a task that runs
pub seat_is : (script : Plan) (past : List Entry) (seat : ℕ) (w : Running) (seats : List (Option ℕ)) → IsPoolPast script past → AreSeats script past seats
    → running past seat ≡ Some w → w.is_main ≡ false → slice_get seats seat ≡ Some (Some w.task)
seat_is script past seat w seats fits are runs pool =
    rw (are.runs seat (let r = fits.singly.runs seat w runs pool in omega (arith, r.can.known)), runs, pool) refl
