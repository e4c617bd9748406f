-- What the pool tells of its workers: how many are at work, and whether one may take a source.
-- Cited by `Pool::idle`, `Pool::is_any_ready`.
use Rattle.list_laws.proofs.Elements.{AllByRecursion-filter}
use Rattle.list_laws.proofs.Ranges.{AllByRecursion-range}
use Rattle.list_laws.proofs.Values.{eqb-same}
use Rattle.list_laws.specs.Lists.{holds_of}
use Rattle.pool_core.proofs.Sources.Choosing.{lane_tells, takes_one}
use Rattle.pool_core.proofs.Lists.{all_at, any_filtered, count_parts}
use Rattle.pool_core.proofs.Works.Room.{load_is}
use Rattle.pool_core.specs.Calls.{KnowsSeat, is_any_ready, is_working, running_tasks}
use Rattle.pool_core.specs.Choice.{HasOffer}
use Rattle.pool_core.specs.Pasts.{IsPoolPast}
use Rattle.pool_core.specs.Queues.{is_representative, is_stated}
use Rattle.pool_core.specs.StandsFor.{StandsFor}
use Rattle.pool_core.specs.declared.pool.Pool.{Pool}
use Rattle.pool_laws.proofs.Choice.Candidates.{job_within, sequence_within, waiting_is_free, waiting_job, waiting_sequence}
use Rattle.pool_laws.proofs.Choice.Least.{best_is_best}
use Rattle.pool_laws.proofs.Seats.Running.{taken_where_runs}
use Rattle.pool_laws.specs.Choice.{source_waiting, IsTakeable, IsWaiting}
use Rattle.std.proofs.Common.{Bool, List, None, Option, Some, [], ◌∷◌, ap, arith, cond, eqb, false, get_or}
use Rattle.std.proofs.Common.{inl, length, refl, subst, suc, sym, true, zero, ℕ, ◌+◌, ◌<◌, ◌∙◌, ◌≡◌, ◌≤◌}
use Rattle.std.proofs.Math.Dec.{eqb-suc-zero}
use Rattle.std.proofs.lemmas.Bool.{and_from, and_parts, eqb-true, false≢true, or_right}
use Rattle.std.proofs.lemmas.Map.Keys.{any_passes_from_place}
use Rattle.std.proofs.lemmas.Option.{none-some}
use Rattle.std.specs.List.{list_any, range_with_len}
use Rattle.std.specs.Option.{option_map_or}
use Rattle.std.specs.Prelude.{filter, is_some, not, option_and_then, slice_get, ◌==◌, ◌||◌}
use Rattle.task_base.specs.Groups.{Background, Foreground, Group, group_of, same_group}
use Rattle.task_base.specs.Plan.{Plan}
use Rattle.task_base.specs.Runners.{seat_of_kind}
use Rattle.task_base.specs.declared.entry.Entry.{Entry}
use Rattle.task_base.specs.declared.script.Runner.{Runner}
use Rattle.task_base.specs.declared.source.TaskSource.{TaskSource}
use Rattle.task_base.specs.declared.source.TaskSource.TheVariants.{Job, Sequence}
use Rattle.task_model.specs.Capacity.{has_room, is_in, priority_of_holding, priority_of_job, taken_with, work_at}
use Rattle.task_model.specs.Seats.{Holding, Running, holding, running, worker_seats}
use Rattle.task_model.specs.Sources.{Candidate, best_of}
use Rattle.task_traits.specs.declared.traits.Priority.{Priority}
use Rattle.thread_group.specs.Group.{load}

-- How many are at work.

-- work is of one group
in_one : (group : Group) → cond (same_group group Foreground) 1 0 + cond (same_group group Background) 1 0 ≡ 1
in_one Foreground = refl
in_one Background = refl

-- a worker at work does work of one group, and each other one none
works_in_one : (script : Plan) (past : List Entry) (seat : ℕ) → IsPoolPast script past → 1 ≤ seat
    → cond (holds_of (is_in script Foreground) (work_at script past seat)) 1 0 + cond (holds_of (is_in script Background) (work_at script past seat)) 1 0
    ≡ cond (is_working past seat) 1 0
works_in_one script past seat fits worker = by_running (running past seat) (taken_with script past seat) (holding past seat) (taken_where_runs script past seat)
    (λ h held. fits.inside.one_thing seat h worker held)
  where
    does : Option Running → Option Priority → Option Holding → Option Priority
    does run taken held = cond (is_some run) taken (priority_of_holding script held)

    by_running : (run : Option Running) (taken : Option Priority) (held : Option Holding) → is_some taken ≡ holds_of (λ w. not w.is_main) run
        → ((h : Holding) → held ≡ Some h → run ≡ None)
        → cond (holds_of (is_in script Foreground) (does run taken held)) 1 0 + cond (holds_of (is_in script Background) (does run taken held)) 1 0
        ≡ cond (holds_of (λ w. not w.is_main) run || is_some held) 1 0
    by_running None taken None counts one = refl
    by_running None taken (Some h) counts one = in_one (group_of script (priority_of_job script h.job))
    by_running (Some w) taken (Some h) counts one = absurd (none-some w (sym (one h refl)))
    by_running (Some w) None None counts one = rw (sym counts) refl
    by_running (Some w) (Some priority) None counts one = rw (sym counts) (in_one (group_of script priority))

-- what the groups run is what workers do
pub running_is : (script : Plan) (past : List Entry) (pool : Pool) → StandsFor script past pool
    → load pool.groups.foreground + load pool.groups.background ≡ running_tasks script past
running_is script past pool stands = rw (
  load_is script past Foreground pool.groups.foreground stands.script_fits stands.past_fits stands.groups.foreground,
  load_is script past Background pool.groups.background stands.script_fits stands.past_fits stands.groups.background,
) (count_parts (works_in Foreground) (works_in Background) (is_working past) (worker_seats script)
    (AllByRecursion-range (λ seat. cond (works_in Foreground seat) 1 0 + cond (works_in Background seat) 1 0 ≡ cond (is_working past seat) 1 0)
    1 script.workers (λ seat from to. works_in_one script past seat stands.past_fits from)))
  where
    works_in : Group → ℕ → Bool
    works_in group seat = holds_of (is_in script group) (work_at script past seat)

-- Whether one may take a source.

-- the worker may take a source
abbrev pub may_take : Plan → List Entry → ℕ → Bool
may_take script past worker = is_some (best_of script past worker)

-- where a source that waits is for one seat, a runner states that
seat_is_stated : (script : Plan) (past : List Entry) (c : Candidate) (only : ℕ) → IsWaiting script past c → c.seat ≡ Some only → is_stated script only ≡ true
seat_is_stated script past c only waits seated = by_source c.source (waiting_is_free script past c waits).candidate
  where
    states : (runner : ℕ) (o : Option Runner) → slice_get script.runners runner ≡ o → option_and_then (λ r. seat_of_kind r.kind) o ≡ Some only
        → is_stated script only ≡ true
    states runner None at none = absurd (none-some only none)
    states runner (Some r) at some =
        any_passes_from_place (λ q. holds_of (λ n. n == only) (seat_of_kind q.kind)) script.runners runner r at (rw some (eqb-same only))

    by_source : (source : TaskSource) → source_waiting script past source ≡ Some c → is_stated script only ≡ true
    by_source (Sequence s) is =
        let waits = waiting_sequence script past s c (sequence_within script past s c is).1 in
        let runner : ℕ = waits.0.posted.home in
        states runner (slice_get script.runners runner) refl (ap (λ (d : Candidate). d.seat) waits.3 ∙ seated)
    by_source (Job j) is =
        let waits = waiting_job script past j c (job_within script past j c is).1 in
        absurd (none-some only (ap (λ (d : Candidate). d.seat) waits.3 ∙ seated))

-- a worker that may take a source where the first one may not is stated by a runner
answers_for_itself : (script : Plan) (past : List Entry) (worker : ℕ) → may_take script past 1 ≡ false → may_take script past worker ≡ true
    → is_representative script worker ≡ true
answers_for_itself script past worker first may = by_best (best_of script past worker) refl may
  where
    seated : (c : Candidate) → IsTakeable script past worker c → (o : Option ℕ) → c.seat ≡ o → is_representative script worker ≡ true
    seated c takeable None is = absurd (false≢true (sym first ∙ takes_one script past 1 c
        (takeable.0, and_from _ _ (and_parts (has_room script past c.priority) _ takeable.1).0 (rw is refl))))
    seated c takeable (Some only) is =
        let same : only ≡ worker = eqb-true only worker (subst (λ o. option_map_or (λ n. n == worker) o true ≡ true) is
        (and_parts (has_room script past c.priority) _ takeable.1).1) in
        or_right (worker == 1) (is_stated script worker)
        (subst (λ n. is_stated script n ≡ true) same (seat_is_stated script past c only takeable.0 is))

    by_best : (o : Option Candidate) → best_of script past worker ≡ o → is_some o ≡ true → is_representative script worker ≡ true
    by_best None is none = absurd (false≢true none)
    by_best (Some c) is some = seated c (best_is_best script past worker c is).takeable c.seat refl

-- so those that answer for all do
pub representatives_tell : (script : Plan) (past : List Entry) (pool : Pool) (seats : List ℕ) → StandsFor script past pool
    → seats ≡ pool.representatives.items → list_any (may_take script past) seats ≡ is_any_ready script past
representatives_tell script past pool seats stands same = rw (same, stands.representatives) (by_workers script.workers (may_take script past 1) refl)
  where
    by_workers : (n : ℕ) (first : Bool) → may_take script past 1 ≡ first
        → list_any (may_take script past) (filter (is_representative script) (range_with_len 1 n)) ≡ list_any (may_take script past) (range_with_len 1 n)
    by_workers zero first is = refl
    by_workers (suc n) true is = rw is refl
    by_workers (suc n) false is = ap (λ b. may_take script past 1 || b) (any_filtered (may_take script past) (is_representative script) (range_with_len 2 n)
        (λ worker may. answers_for_itself script past worker is may))

-- each of them is a worker
pub representative_known : (script : Plan) (past : List Entry) (pool : Pool) (seats : List ℕ) (i d : ℕ) → StandsFor script past pool
    → seats ≡ pool.representatives.items → i < length seats → KnowsSeat script past pool (get_or seats i d)
representative_known script past pool seats i d stands same less = record {
  stands = stands;
  known = all_at (λ seat. seat ≤ script.workers) seats i d (rw (same, stands.representatives)
      (AllByRecursion-filter (λ seat. seat ≤ script.workers) (is_representative script) (worker_seats script)
      (AllByRecursion-range (λ seat. seat ≤ script.workers) 1 script.workers (λ seat from to. omega (arith, to))))) less;
}

-- where any seat may take a source, one may exactly where there is a worker
pub shared_tells : (script : Plan) (past : List Entry) (pool : Pool) (seats : List ℕ) → StandsFor script past pool → seats ≡ pool.representatives.items
    → HasOffer pool 0 true → not (eqb (length seats) 0) ≡ is_any_ready script past
shared_tells script past pool [] stands same shared = representatives_tell script past pool [] stands same
shared_tells script past pool (first ∷ rest) stands same shared =
    let knows = representative_known script past pool (first ∷ rest) 0 0 stands same (omega arith) in
    ap not (eqb-suc-zero (length rest)) ∙ sym (ap (λ b. b || list_any (may_take script past) rest)
    (lane_tells script past pool first 0 stands knows.known (inl refl) shared))
    ∙ representatives_tell script past pool (first ∷ rest) stands same
