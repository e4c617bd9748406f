-- A job as the pool keeps it says what the rules say of it.
-- Cited by `Pool::enter_job`, `Pool::job_step`, `Pool::joined`, `Calls/Shutdown`, `Jobs/JobStands`, `Jobs/JobSteps`, `Sources/Choosing`.
use Rattle.job_source.specs.Job as source
use Rattle.list_laws.proofs.Tests.{find_congr}
use Rattle.list_laws.proofs.Values.{some-injective}
use Rattle.list_laws.specs.Lists.{holds_of}
use Rattle.pool_core.proofs.Jobs.HeldItems.{free_by_under, held_at, held_is_inside}
use Rattle.pool_core.specs.Holdings.{AreInside}
use Rattle.pool_core.specs.JobCalls.{entering, has_to_leave, joined_of}
use Rattle.pool_core.specs.Jobs.{job_as, post_as, view_of}
use Rattle.pool_core.specs.PoolJobs.{entered_in, is_accepted, is_open, is_refused, joined_in, may_enter_in, rank_in}
use Rattle.pool_core.specs.Queues.{rank_as}
use Rattle.std.proofs.Common.{Bool, List, None, Option, Some, ap, arith, cond, false, length, refl, true, ℕ, ◌+◌, ◌<◌, ◌∙◌, ◌≡◌}
use Rattle.std.proofs.lemmas.Bool.{and_parts, ltb-true, ne_eqb, not-true}
use Rattle.std.proofs.lemmas.Option.{none-some}
use Rattle.std.specs.List.{range_with_len}
use Rattle.std.specs.Option.{option_map}
use Rattle.std.specs.Prelude.{find, is_some, nat_lt, not, ◌&&◌, ◌==◌, ◌||◌}
use Rattle.task_base.specs.Plan.{Plan}
use Rattle.task_base.specs.declared.entry.Entry.{Entry}
use Rattle.task_model.specs.Capacity.{priority_of_job}
use Rattle.task_model.specs.Jobs.{JobPosted, claimed, concurrency, done, free_id, has_unclaimed, is_cancelled, is_empty, is_finished_job}
use Rattle.task_model.specs.Jobs.{is_free_id, is_job_accepted, is_over, items_of, job_post_of, may_enter}
use Rattle.task_model.specs.Phase.{phase_of}
use Rattle.task_model.specs.Refusal.{is_job_forbidden}
use Rattle.task_model.specs.Seats.{inside}
use Rattle.task_model.specs.Sources.{job_candidate, job_waiting, leaves, makes_way, next_item}
use Rattle.std.proofs.Math.Bool.{or-true}

-- as many are inside
pub inside_is : (script : Plan) (past : List Entry) (j : ℕ) → AreInside script past → source.inside (view_of script past j) ≡ length (inside script past j)
inside_is script past j known = held_is_inside script past j known

-- it is over, and empty, exactly where it is by the rules
pub empty_is : (script : Plan) (past : List Entry) (j : ℕ) → AreInside script past → source.is_empty (view_of script past j) ≡ is_empty script past j
empty_is script past j known = ap (λ n. n == 0) (inside_is script past j known)

pub over_is : (script : Plan) (past : List Entry) (j : ℕ) → AreInside script past → source.is_over (view_of script past j) ≡ is_over script past j
over_is script past j known = ap (λ b. b && (is_finished_job script past j || is_cancelled past j)) (empty_is script past j known)

-- its post was accepted, or refused
pub accepted_is : (script : Plan) (past : List Entry) (j : ℕ) → is_accepted (job_as script past j) ≡ is_job_accepted past j
accepted_is script past j = by_job_post (job_post_of past j)
  where
    by_job_post : (o : Option JobPosted) → holds_of (λ p. p.ok) (option_map post_as o) ≡ holds_of (λ p. p.ok) o
    by_job_post None = refl
    by_job_post (Some p) = refl

refused_is : (script : Plan) (past : List Entry) (j : ℕ) → is_refused (job_as script past j) ≡ holds_of (λ p. not p.ok) (job_post_of past j)
refused_is script past j = by_job_post (job_post_of past j)
  where
    by_job_post : (o : Option JobPosted) → holds_of (λ p. not p.ok) (option_map post_as o) ≡ holds_of (λ p. not p.ok) o
    by_job_post None = refl
    by_job_post (Some p) = refl

pub open_is : (script : Plan) (past : List Entry) (j : ℕ) → AreInside script past
    → is_open (job_as script past j) ≡ (is_job_accepted past j && not (is_over script past j))
open_is script past j known = rw (accepted_is script past j, over_is script past j known) refl

-- a seat may enter
pub may_enter_is : (script : Plan) (past : List Entry) (j : ℕ) → AreInside script past
    → may_enter_in (phase_of past) (job_as script past j) ≡ may_enter script past j
unfolding may_enter
may_enter_is script past j known = rw (accepted_is script past j, inside_is script past j known)
    (turned (is_job_accepted past j) (not (is_job_forbidden script past j)) (not (is_cancelled past j)) (has_unclaimed script past j)
    (nat_lt (length (inside script past j)) (concurrency script past j)))
  where
    turned : (a f c u r : Bool) → ((a && f) && ((c && u) && r)) ≡ (a && c && f && u && r)
    turned false f c u r = refl
    turned true false false u r = refl
    turned true false true u r = refl
    turned true true false u r = refl
    turned true true true u r = refl

-- where a seat may enter, the job was accepted, the phase does not forbid it, and it is not over
pub enters_parts : (script : Plan) (past : List Entry) (j : ℕ) → may_enter script past j ≡ true
    → (is_job_accepted past j ≡ true) × (is_job_forbidden script past j ≡ false) × (is_over script past j ≡ false)
unfolding may_enter
enters_parts script past j may =
    let room = and_parts _ _ may in
    let unclaimed = and_parts _ _ room.0 in
    let allowed = and_parts _ _ unclaimed.0 in
    let running = and_parts _ _ allowed.0 in
    (running.0, not-true _ allowed.1, not_over (not-true _ running.1) (ltb-true _ _ room.1))
  where
    within : length (inside script past j) < concurrency script past j → done past j ≡ items_of script j → ⊥
    within less all = omega (arith, less, all)

    not_over : is_cancelled past j ≡ false → length (inside script past j) < concurrency script past j → is_over script past j ≡ false
    not_over running less = rw (ne_eqb (done past j) (items_of script j) (within less), running) (none (is_empty script past j))
      where
        none : (b : Bool) → (b && false) ≡ false
        none true = refl
        none false = refl

-- its place among what waits
pub rank_is : (script : Plan) (past : List Entry) (j : ℕ) → AreInside script past
    → rank_in (phase_of past) (job_as script past j) ≡ option_map rank_as (job_waiting script past j)
rank_is script past j known = rw (may_enter_is script past j known, inside_is script past j known) (by_may_enter (may_enter script past j) (job_post_of past j))
  where
    by_may_enter : (b : Bool) (o : Option JobPosted)
        → cond b (option_map (λ p. record {
          priority = priority_of_job script j;
          inside = length (inside script past j);
          key = record { place = p.place; ripe = 0; post = p.place };
        }) (option_map post_as o)) None
        ≡ option_map rank_as (cond b (option_map (job_candidate script past j) o) None)
    by_may_enter false o = refl
    by_may_enter true None = refl
    by_may_enter true (Some p) = refl

-- its reply to a join
pub joined_is : (script : Plan) (past : List Entry) (j : ℕ) → AreInside script past
    → joined_in (phase_of past) (job_as script past j) ≡ joined_of script past j
joined_is script past j known = rw (empty_is script past j known, refused_is script past j) refl

-- the least free number
pub free_id_is : (script : Plan) (past : List Entry) (j : ℕ) → AreInside script past
    → source.free_id (view_of script past j) ≡ free_id script past j
free_id_is script past j known = ap (λ n. find_of n) (inside_is script past j known)
    ∙ find_congr (source.is_free_id (view_of script past j)) (is_free_id script past j) (range_with_len 0 (length (inside script past j) + 1))
    (λ id. ap (λ o. not (is_some o)) (held_at script past j id known) ∙ free_by_under script past j id)
  where
    find_of : ℕ → Option ℕ
    find_of n = find (source.is_free_id (view_of script past j)) (range_with_len 0 (n + 1))

-- what a seat that asks to enter gets
pub entered_is : (script : Plan) (past : List Entry) (j : ℕ) → AreInside script past
    → entered_in (phase_of past) (job_as script past j) ≡ entering script past j
entered_is script past j known = rw (may_enter_is script past j known) (by_may_enter (may_enter script past j) refl)
  where
    by_may_enter : (b : Bool) → may_enter script past j ≡ b
        → cond b (source.entered (view_of script past j)) None ≡ cond b (option_map (λ id. (id, claimed past j)) (free_id script past j)) None
    by_may_enter false is = refl
    by_may_enter true is = rw (within is, free_id_is script past j known) refl
      where
        within : may_enter script past j ≡ true → source.may_enter (view_of script past j) ≡ true
        within may = (and_parts (is_accepted (job_as script past j) && not (is_job_forbidden script past j)) (source.may_enter (view_of script past j))
            (may_enter_is script past j known ∙ may)).1

-- who gets something may enter, and gets the least free number and the least unclaimed item
pub entering_parts : (script : Plan) (past : List Entry) (j : ℕ) (got : ℕ × ℕ) → entering script past j ≡ Some got
    → (may_enter script past j ≡ true) × (free_id script past j ≡ Some got.0) × (got.1 ≡ claimed past j)
entering_parts script past j got = by_may_enter (may_enter script past j) (free_id script past j)
  where
    by_may_enter : (may : Bool) (free : Option ℕ) → cond may (option_map (λ id. (id, claimed past j)) free) None ≡ Some got
        → (may ≡ true) × (free ≡ Some got.0) × (got.1 ≡ claimed past j)
    by_may_enter false free is = absurd (none-some got is)
    by_may_enter true None is = absurd (none-some got is)
    by_may_enter true (Some id) is = let same : (id, claimed past j) ≡ got = some-injective is in rw (← same) (refl, refl, refl)

-- what a seat that has ended its item goes on with
pub next_is : (script : Plan) (past : List Entry) (seat j : ℕ)
    → source.next_item (view_of script past j) (has_to_leave script past seat j) ≡ next_item script past seat j
unfolding leaves
next_is script past seat j = by_job_forbidden (is_job_forbidden script past j)
    (nat_lt 0 seat && makes_way script past (priority_of_job script j)) (is_cancelled past j)
    (has_unclaimed script past j)
  where
    by_job_forbidden : (f m c u : Bool) → cond (f || m || c || not u) None (Some (claimed past j)) ≡ cond (not u || c || f || m) None (Some (claimed past j))
    by_job_forbidden true m c u = rw (or-true (not u || c)) refl
    by_job_forbidden false m true u = rw (or-true m, or-true (not u)) refl
    by_job_forbidden false true false u = rw (or-true (not u || false || false)) refl
    by_job_forbidden false false false true = refl
    by_job_forbidden false false false false = refl
