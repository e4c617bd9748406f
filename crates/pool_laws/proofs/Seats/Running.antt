-- What one more entry does to the seats: what they run and hold, the sequences that run, and the seats inside a job.
--
-- An entry of one seat leaves what the others run and hold, and a kind that takes or ends nothing leaves what all of
-- them do. A task counts with the priority that it was taken with.
--
-- After the take of a task its sequence runs; after an end, a sequence that no other seat runs does not; main tasks are
-- of no sequence. No other kind changes which sequences run.
--
-- One more seat is inside a job where a seat enters it, one fewer where a seat leaves it, and as many where a seat claims
-- its next item. No other kind changes that, and no entry of another job.
--
-- All is quiet exactly where each seat is free, and a sequence runs exactly where a seat runs a task of it.
-- Cited by `Jobs`, `Choice/Waiting`, `Seats/Runs`, `Seats/Whose`, `Shutdown/Jobs`, `env_core`, `env_threads`, `hist_model`, `live_core`,
-- `pool_core`, `run_summary`, `sequence_manager`, `trace_json`.
use Rattle.std.proofs.Common.{◌≡◌, ℕ, ◌+◌, Bool, true, false, cond, eqb, List, [], ◌∷◌, ◌++◌, length, refl, sym, ◌∙◌, Option, Some, None, arith}
use Rattle.std.specs.Prelude.{not, ◌||◌, is_some, ◌==◌}
use Rattle.std.proofs.lemmas.Bool.{true≢false, eqb-true}
use Rattle.std.proofs.Math.Bool.{and-true}
use Rattle.task_base.specs.Plan.{Plan}
use Rattle.task_base.specs.declared.entry.Entry.{Entry}
use Rattle.task_base.specs.declared.entry.Kind.{Kind}
use Rattle.task_traits.specs.declared.traits.Priority.{Priority}
use Rattle.task_base.specs.declared.entry.Kind.TheVariants.{Take, End, MainTake, MainEnd, JobTake, JobStep}
use Rattle.list_laws.specs.Lists.{count, holds_of}
use Rattle.task_base.specs.Runners.{sequence_of}
use Rattle.task_model.specs.Past.{fold_past}
use Rattle.task_model.specs.Seats.{Running, Holding, running, running_after, holding, holding_after, acts_done}
use Rattle.task_model.specs.Seats.{is_free, is_quiet, runs_of, runs_sequence, inside, all_seats}
use Rattle.task_model.specs.Capacity.{taken_after, taken_with}
use Rattle.pool_laws.specs.Seats.{moves_main, moves_running, moves_holding, IsSeat, moves_seats, runs_pool_task, holds_job, running_parts, seat_parts}
use Rattle.task_model.proofs.Growth.{running_push, holding_push, acts_done_push, taken_with_push}
use Rattle.list_laws.proofs.Values.{eqb-same}
use Rattle.list_laws.proofs.Elements.{push_induction}
use Rattle.list_laws.proofs.Filters.{filter_congr}
use Rattle.list_laws.proofs.Tests.{list_any_congr, list_all_congr, list_any_none, any_change, list_all-from_recursion}
use Rattle.list_laws.proofs.Counts.{count_change, any_from_count}
use Rattle.list_laws.proofs.Ranges.{range_with, AllByRecursion-range, range_all_at, range_any_at}
use Rattle.pool_laws.specs.Moves.{Items}
use Rattle.pool_laws.proofs.Moves.{moves_fewer}

pub both : {A : Type 0} (b : Bool) (x : A) → cond b x x ≡ x
both true x = refl
both false x = refl

-- the seat of an entry, and the others
pub running_here : (past : List Entry) (e : Entry) (seat : ℕ) → eqb e.seat seat ≡ true
    → running (past ++ e ∷ []) seat ≡ running_after (running past e.seat) e.kind
running_here past e seat is = rw (running_push past e seat, is, ← eqb-true e.seat seat is) refl

pub running_other : (past : List Entry) (e : Entry) (seat : ℕ) → (e.seat == seat) ≡ false → running (past ++ e ∷ []) seat ≡ running past seat
running_other past e seat other = rw (running_push past e seat, other) refl

pub holding_here : (past : List Entry) (e : Entry) (seat : ℕ) → eqb e.seat seat ≡ true
    → holding (past ++ e ∷ []) seat ≡ holding_after (holding past e.seat) e.kind
holding_here past e seat is = rw (holding_push past e seat, is, ← eqb-true e.seat seat is) refl

pub holding_other : (past : List Entry) (e : Entry) (seat : ℕ) → (e.seat == seat) ≡ false → holding (past ++ e ∷ []) seat ≡ holding past seat
holding_other past e seat other = rw (holding_push past e seat, other) refl

pub acts_other : (past : List Entry) (e : Entry) (seat : ℕ) → (e.seat == seat) ≡ false → acts_done (past ++ e ∷ []) seat ≡ acts_done past seat
acts_other past e seat other = rw (acts_done_push past e seat, other) refl

nothing_taken : (script : Plan) (seat : ℕ) → is_some (taken_with script [] seat) ≡ runs_pool_task [] seat
unfolding taken_with running fold_past
nothing_taken script seat = refl

-- a task of the pool that a seat runs counts with a priority, and nothing else of a seat does
pub taken_where_runs : (script : Plan) (past : List Entry) (seat : ℕ) → is_some (taken_with script past seat) ≡ runs_pool_task past seat
taken_where_runs script past seat = push_induction (λ before. is_some (taken_with script before seat) ≡ runs_pool_task before seat)
    (nothing_taken script seat)
    (λ before e same. rw (taken_with_push script before e seat, running_push before e seat)
    (step before (eqb e.seat seat) (taken_with script before seat) (running before seat) e.kind same)) past
  where
    step : (before : List Entry) (b : Bool) (now : Option Priority) (run : Option Running) (kind : Kind) → is_some now ≡ holds_of (λ w. not w.is_main) run
        → is_some (cond b (taken_after script before now kind) now) ≡ holds_of (λ w. not w.is_main) (cond b (running_after run kind) run)
    step before false now run kind same = same
    step before true now run (Take task runner found) same = refl
    step before true now run (End task left) same = refl
    step before true now run (MainTake task queue found) same = refl
    step before true now run (MainEnd task left) same = refl
    step before true now run kind same = same

-- that priority is the one of the take, whatever comes until the end
pub taken_here : (script : Plan) (past : List Entry) (e : Entry) (seat : ℕ) → eqb e.seat seat ≡ true
    → taken_with script (past ++ e ∷ []) seat ≡ taken_after script past (taken_with script past e.seat) e.kind
taken_here script past e seat is = rw (taken_with_push script past e seat, is, ← eqb-true e.seat seat is) refl

pub taken_other : (script : Plan) (past : List Entry) (e : Entry) (seat : ℕ) → (e.seat == seat) ≡ false
    → taken_with script (past ++ e ∷ []) seat ≡ taken_with script past seat
taken_other script past e seat other = rw (taken_with_push script past e seat, other) refl

pub taken_same : (script : Plan) (past : List Entry) (e : Entry) (seat : ℕ) → moves_running e.kind ≡ false
    → taken_with script (past ++ e ∷ []) seat ≡ taken_with script past seat
taken_same script past e seat quiet =
    rw (taken_with_push script past e seat, still (taken_with script past seat) e.kind quiet) (both (eqb e.seat seat) (taken_with script past seat))
  where
    still : (now : Option Priority) (kind : Kind) → moves_running kind ≡ false → taken_after script past now kind ≡ now
    still now (Take task runner found) h = absurd (true≢false h)
    still now (End task left) h = absurd (true≢false h)
    still now (MainTake task queue found) h = absurd (true≢false h)
    still now (MainEnd task left) h = absurd (true≢false h)
    still now kind h = refl

pub running_same : (past : List Entry) (e : Entry) (seat : ℕ) → moves_running e.kind ≡ false → running (past ++ e ∷ []) seat ≡ running past seat
running_same past e seat quiet = rw (running_push past e seat, still (running past seat) e.kind quiet) (both (eqb e.seat seat) (running past seat))
  where
    still : (now : Option Running) (kind : Kind) → moves_running kind ≡ false → running_after now kind ≡ now
    still now (Take task runner found) h = absurd (true≢false h)
    still now (End task left) h = absurd (true≢false h)
    still now (MainTake task queue found) h = absurd (true≢false h)
    still now (MainEnd task left) h = absurd (true≢false h)
    still now kind h = refl

pub holding_same : (past : List Entry) (e : Entry) (seat : ℕ) → moves_holding e.kind ≡ false → holding (past ++ e ∷ []) seat ≡ holding past seat
holding_same past e seat quiet = rw (holding_push past e seat, still (holding past seat) e.kind quiet) (both (eqb e.seat seat) (holding past seat))
  where
    still : (now : Option Holding) (kind : Kind) → moves_holding kind ≡ false → holding_after now kind ≡ now
    still now (JobTake job id item) h = absurd (true≢false h)
    still now (JobStep job id item value next) h = absurd (true≢false h)
    still now kind h = refl

pub is_free_same : (past : List Entry) (e : Entry) (seat : ℕ) → moves_seats e.kind ≡ false → is_free (past ++ e ∷ []) seat ≡ is_free past seat
is_free_same past e seat quiet =
    rw (
      running_same past e seat (moves_fewer running_parts seat_parts e.kind refl quiet),
      holding_same past e seat (moves_fewer (Items ∷ []) seat_parts e.kind refl quiet),
    ) refl

pub is_quiet_same : (script : Plan) (past : List Entry) (e : Entry) → moves_seats e.kind ≡ false → is_quiet script (past ++ e ∷ []) ≡ is_quiet script past
unfolding is_quiet
is_quiet_same script past e quiet = list_all_congr _ _ _ (λ seat. is_free_same past e seat quiet)

-- the seats of the script
pub seat_once : (script : Plan) (seat : ℕ) → IsSeat script seat → count (λ x. eqb seat x) (all_seats script) ≡ 1
seat_once script seat is = range_with seat 0 (script.workers + 1) (omega arith) (omega (arith, is))

-- all is quiet where each seat is free
pub quiet_is_free : (script : Plan) (past : List Entry) (seat : ℕ) → is_quiet script past ≡ true → IsSeat script seat → is_free past seat ≡ true
unfolding is_quiet
quiet_is_free script past seat quiet is = range_all_at _ 0 (script.workers + 1) seat quiet (omega arith) (omega (arith, is))

pub free_is_quiet : (script : Plan) (past : List Entry) → ((seat : ℕ) → IsSeat script seat → is_free past seat ≡ true) → is_quiet script past ≡ true
unfolding is_quiet
free_is_quiet script past free = list_all-from_recursion _ _ (AllByRecursion-range _ 0 (script.workers + 1) (λ seat from to. free seat (omega (arith, to))))

-- Sequences that run.

-- the seat runs a task of the sequence
abbrev runs : Plan → List Entry → ℕ → ℕ → Bool
runs script past s seat = holds_of (runs_of script s) (running past seat)

-- the entry's seat runs a task of the sequence after it
abbrev runs_after : Plan → List Entry → Entry → ℕ → Bool
runs_after script past e s = holds_of (runs_of script s) (running_after (running past e.seat) e.kind)

runs_here : (script : Plan) (past : List Entry) (e : Entry) (s seat : ℕ) → eqb e.seat seat ≡ true
    → runs script (past ++ e ∷ []) s seat ≡ runs_after script past e s
runs_here script past e s seat here = rw (running_here past e seat here) refl

runs_other : (script : Plan) (past : List Entry) (e : Entry) (s seat : ℕ) → eqb e.seat seat ≡ false
    → runs script (past ++ e ∷ []) s seat ≡ runs script past s seat
runs_other script past e s seat other = rw (running_other past e seat other) refl

-- a sequence runs where a seat runs a task of it
pub seat_runs : (script : Plan) (past : List Entry) (s seat : ℕ) → IsSeat script seat → holds_of (runs_of script s) (running past seat) ≡ true
    → runs_sequence script past s ≡ true
unfolding runs_sequence
seat_runs script past s seat is runs_it = range_any_at _ 0 (script.workers + 1) seat runs_it (omega arith) (omega (arith, is))

pub no_seat_runs : (script : Plan) (past : List Entry) (s : ℕ) → ((seat : ℕ) → IsSeat script seat → holds_of (runs_of script s) (running past seat) ≡ false)
    → runs_sequence script past s ≡ false
unfolding runs_sequence
no_seat_runs script past s none = list_any_none _ _ (AllByRecursion-range _ 0 (script.workers + 1) (λ x from to. none x (omega (arith, to))))

pub runs_same : (script : Plan) (past : List Entry) (e : Entry) (s : ℕ) → moves_running e.kind ≡ false
    → runs_sequence script (past ++ e ∷ []) s ≡ runs_sequence script past s
unfolding runs_sequence
runs_same script past e s quiet = list_any_congr _ _ (all_seats script) (λ seat. rw (running_same past e seat quiet) refl)

-- an entry of a seat that runs no task of the sequence, before it and after it
runs_kept : (script : Plan) (past : List Entry) (e : Entry) (s : ℕ) → runs script past s e.seat ≡ runs_after script past e s
    → runs_sequence script (past ++ e ∷ []) s ≡ runs_sequence script past s
unfolding runs_sequence
runs_kept script past e s same = list_any_congr _ _ _ (λ seat. by_seat seat (eqb e.seat seat) refl)
  where
    by_seat : (seat : ℕ) (b : Bool) → eqb e.seat seat ≡ b → runs script (past ++ e ∷ []) s seat ≡ runs script past s seat
    by_seat seat true is = rw (runs_here script past e s seat is, ← eqb-true e.seat seat is) (sym same)
    by_seat seat false is = runs_other script past e s seat is

-- main tasks are of no sequence
pub runs_at_main : (script : Plan) (past : List Entry) (e : Entry) (s : ℕ) → moves_main e.kind ≡ true → runs_pool_task past e.seat ≡ false
    → runs_sequence script (past ++ e ∷ []) s ≡ runs_sequence script past s
runs_at_main script past e s main none = runs_kept script past e s (before (running past e.seat) none ∙ sym (after e.kind main (running past e.seat)))
  where
    before : (o : Option Running) → holds_of (λ w. not w.is_main) o ≡ false → holds_of (runs_of script s) o ≡ false
    before None h = refl
    before (Some w) h = rw h refl

    after : (kind : Kind) → moves_main kind ≡ true → (o : Option Running) → holds_of (runs_of script s) (running_after o kind) ≡ false
    after (MainTake task queue found) h o = refl
    after (MainEnd task left) h o = refl
    after kind h o = absurd (true≢false (sym h))

-- the sequence of the task that is taken runs, and the others as before
pub runs_at_take : (script : Plan) (past : List Entry) (e : Entry) (s task runner found : ℕ) → e.kind ≡ Take task runner found → IsSeat script e.seat
    → running past e.seat ≡ None
    → runs_sequence script (past ++ e ∷ []) s ≡ (runs_sequence script past s || sequence_of script runner task == s)
unfolding runs_sequence
runs_at_take script past e s task runner found is seat free =
    any_change (λ x. eqb e.seat x) _ _ (eqb (sequence_of script runner task) s) _
    (λ x here. rw (← eqb-true e.seat x here, free) refl) (λ x here. runs_here script past e s x here ∙ rw is refl)
    (λ x other. sym (runs_other script past e s x other))
    ∙ rw (any_from_count (λ x. eqb e.seat x) (all_seats script) 0 (seat_once script e.seat seat)) (rw (and-true (eqb (sequence_of script runner task) s)) refl)

-- a sequence that only the ending seat ran does not run any more
pub runs_at_end : (script : Plan) (past : List Entry) (e : Entry) (s task left : ℕ) → e.kind ≡ End task left
    → ((seat : ℕ) → IsSeat script seat → (e.seat == seat) ≡ false → holds_of (runs_of script s) (running past seat) ≡ false)
    → runs_sequence script (past ++ e ∷ []) s ≡ false
runs_at_end script past e s task left is alone = no_seat_runs script (past ++ e ∷ []) s (λ x seat. at_each x seat (eqb e.seat x) refl)
  where
    at_each : (x : ℕ) → IsSeat script x → (b : Bool) → eqb e.seat x ≡ b → runs script (past ++ e ∷ []) s x ≡ false
    at_each x seat true here = runs_here script past e s x here ∙ rw is refl
    at_each x seat false other = runs_other script past e s x other ∙ alone x seat other

-- a sequence that the ending seat did not run is as before
pub runs_at_other_end : (script : Plan) (past : List Entry) (e : Entry) (s task left : ℕ) → e.kind ≡ End task left
    → holds_of (runs_of script s) (running past e.seat) ≡ false
    → runs_sequence script (past ++ e ∷ []) s ≡ runs_sequence script past s
runs_at_other_end script past e s task left is none = runs_kept script past e s (rw (none, is) refl)

-- The seats inside a job.

-- the test of an item that a seat holds
abbrev of_job : ℕ → Option Holding → Bool
of_job j held = holds_of (λ h. eqb h.job j) held

-- the test of the seats inside
abbrev in_job : List Entry → ℕ → ℕ → Bool
in_job past j seat = of_job j (holding past seat)

-- the entry's seat is inside after it
abbrev in_job_after : List Entry → Entry → ℕ → Bool
in_job_after past e j = of_job j (holding_after (holding past e.seat) e.kind)

in_job_here : (past : List Entry) (e : Entry) (j seat : ℕ) → eqb e.seat seat ≡ true → in_job (past ++ e ∷ []) j seat ≡ in_job_after past e j
in_job_here past e j seat here = rw (holding_here past e seat here) refl

in_job_other : (past : List Entry) (e : Entry) (j seat : ℕ) → eqb e.seat seat ≡ false → in_job (past ++ e ∷ []) j seat ≡ in_job past j seat
in_job_other past e j seat other = rw (holding_other past e seat other) refl

pub inside_same : (script : Plan) (past : List Entry) (e : Entry) (j : ℕ) → moves_holding e.kind ≡ false
    → inside script (past ++ e ∷ []) j ≡ inside script past j
unfolding inside
inside_same script past e j quiet = filter_congr _ _ (all_seats script) (λ seat. rw (holding_same past e seat quiet) refl)

inside_kept : (script : Plan) (past : List Entry) (e : Entry) (j : ℕ) → in_job past j e.seat ≡ in_job_after past e j
    → inside script (past ++ e ∷ []) j ≡ inside script past j
unfolding inside
inside_kept script past e j same = filter_congr _ _ _ (λ seat. by_seat seat (eqb e.seat seat) refl)
  where
    by_seat : (seat : ℕ) (b : Bool) → eqb e.seat seat ≡ b → in_job (past ++ e ∷ []) j seat ≡ in_job past j seat
    by_seat seat true is = rw (in_job_here past e j seat is, ← eqb-true e.seat seat is) (sym same)
    by_seat seat false is = in_job_other past e j seat is

-- how many are inside, by what the entry's seat held and holds
inside_change : (script : Plan) (past : List Entry) (e : Entry) (j : ℕ) (b c : Bool) → IsSeat script e.seat
    → in_job past j e.seat ≡ b → in_job_after past e j ≡ c
    → length (inside script past j) + cond c 1 0 ≡ length (inside script (past ++ e ∷ []) j) + cond b 1 0
unfolding inside
inside_change script past e j b c seat before after =
    count_change (λ x. eqb e.seat x) _ _ b c _ (seat_once script e.seat seat)
    (λ x here. rw (← eqb-true e.seat x here) before) (λ x here. in_job_here past e j x here ∙ after) (λ x other. sym (in_job_other past e j x other))

-- one more seat is inside the job that it enters
pub inside_at_take : (script : Plan) (past : List Entry) (e : Entry) (job id item : ℕ) → e.kind ≡ JobTake job id item → IsSeat script e.seat
    → holding past e.seat ≡ None
    → length (inside script (past ++ e ∷ []) job) ≡ length (inside script past job) + 1
inside_at_take script past e job id item is seat free =
    omega (arith, inside_change script past e job false true seat (rw free refl) (rw is (eqb-same job)))

pub inside_at_other_take : (script : Plan) (past : List Entry) (e : Entry) (j job id item : ℕ) → e.kind ≡ JobTake job id item → (job == j) ≡ false
    → holding past e.seat ≡ None
    → inside script (past ++ e ∷ []) j ≡ inside script past j
inside_at_other_take script past e j job id item is other free = inside_kept script past e j (rw (is, free, other) refl)

-- what a seat holds is of one job
held_of : (j job : ℕ) (o : Option Holding) → of_job job o ≡ true → of_job j o ≡ eqb job j
held_of j job None h = absurd (true≢false (sym h))
held_of j job (Some held) h = rw (eqb-true held.job job h) refl

-- a seat that claims the next item stays inside
pub inside_at_step : (script : Plan) (past : List Entry) (e : Entry) (j job id item value next : ℕ) → e.kind ≡ JobStep job id item value (Some next)
    → holds_job past e.seat job ≡ true
    → inside script (past ++ e ∷ []) j ≡ inside script past j
inside_at_step script past e j job id item value next is held = inside_kept script past e j (rw is (held_of j job (holding past e.seat) held))

-- a seat that claims no item leaves
pub inside_at_leave : (script : Plan) (past : List Entry) (e : Entry) (job id item value : ℕ) → e.kind ≡ JobStep job id item value None → IsSeat script e.seat
    → holds_job past e.seat job ≡ true
    → length (inside script past job) ≡ length (inside script (past ++ e ∷ []) job) + 1
inside_at_leave script past e job id item value is seat held = omega (arith, inside_change script past e job true false seat held (rw is refl))

pub inside_at_other_leave : (script : Plan) (past : List Entry) (e : Entry) (j job id item value : ℕ) → e.kind ≡ JobStep job id item value None
    → (job == j) ≡ false → holds_job past e.seat job ≡ true
    → inside script (past ++ e ∷ []) j ≡ inside script past j
inside_at_other_leave script past e j job id item value is other held =
    inside_kept script past e j (rw is (held_of j job (holding past e.seat) held ∙ other))
