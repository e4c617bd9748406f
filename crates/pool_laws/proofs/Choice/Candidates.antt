-- What would wait, were nothing held back, by its sources: the candidates of the sequences and jobs that wait, one of each,
-- and no others. So it stays where each source stays, as at the driver's main tasks, which are no work of the pool.
--
-- What waits is what would wait and is not held back. So it stays where both stay: at the entries of the main queues, the
-- blocking scopes, refused posts, joins, and the entries that only report.
-- Cited by `Choice/Sources`, `hist_model`, `log_count`, `next_entry`, `pool_core`, `run_summary`, `situation`.
use Rattle.std.proofs.Common.{◌≡◌, ℕ, ◌<◌, Bool, true, false, cond, List, [], ◌∷◌, ◌++◌, length, refl, sym, ap, ◌∙◌, Option, Some, None, inl, inr, arith}
use Rattle.std.specs.Prelude.{not, ◌⊎◌, nat_lt, Contains}
use Rattle.std.specs.Option.{option_map}
use Rattle.std.specs.List.{filter_map, range_with_len}
use Rattle.std.proofs.lemmas.Bool.{not-true, ltb-true, lt-ltb}
use Rattle.std.proofs.lemmas.Option.{none-some}
use Rattle.std.proofs.lemmas.List.Elements.{Contains-append_left, Contains-append_right, Contains-append_cases}
use Rattle.task_base.specs.Plan.{Plan}
use Rattle.task_base.specs.Runners.{sequence_count}
use Rattle.task_base.specs.declared.entry.Entry.{Entry}
use Rattle.task_base.specs.declared.source.TaskSource.{TaskSource}
use Rattle.task_base.specs.declared.source.TaskSource.TheVariants.{Sequence, Job}
use Rattle.task_traits.specs.declared.traits.Priority.{Priority}
use Rattle.task_model.specs.Keys.{Ready}
use Rattle.task_model.specs.Policies.{is_held}
use Rattle.task_model.specs.Sequences.{head_of}
use Rattle.task_model.specs.Seats.{runs_sequence}
use Rattle.task_model.specs.Jobs.{JobPosted, job_post_of, may_enter}
use Rattle.pool_laws.specs.Jobs.{MayEnter, job_parts}
use Rattle.task_model.specs.Sources.{Candidate, sequence_candidate, sequence_waiting, job_candidate, job_waiting, would_wait, waiting}
use Rattle.pool_laws.specs.Choice.{IsWaiting, source_waiting, WouldWait, IsFree, moves_sources, moves_waiting, sequence_waiting_parts, source_parts, waiting_parts, held_parts}
use Rattle.pool_laws.specs.Seats.{moves_main, runs_pool_task}
use Rattle.list_laws.proofs.Filters.{filter_congr, filter_map_congr_in}
use Rattle.list_laws.proofs.Made.{filter_contains, contains_filter, filter_map_contains, contains_filter_map, contains_range, range_contains}
use Rattle.list_laws.proofs.Ranges.{AllByRecursion-range}
use Rattle.list_laws.proofs.Values.{some-injective}
use Rattle.pool_laws.proofs.Jobs.Answers.{job_at_main, job_same, job_waiting_kept}
use Rattle.pool_laws.proofs.Choice.Waiting.{sequence_waiting_same, sequence_waiting_at_main}
use Rattle.pool_laws.proofs.Choice.Held.{held_same}
use Rattle.pool_laws.proofs.Moves.{moves_fewer}

-- The candidate of a source.

-- a sequence that waits does not run, and has a head, by which it waits
pub waiting_sequence : (script : Plan) (past : List Entry) (s : ℕ) (c : Candidate) → sequence_waiting script past s ≡ Some c
    → (r : Ready) × (runs_sequence script past s ≡ false) × (head_of script past s ≡ Some r) × (sequence_candidate script past s r ≡ c)
waiting_sequence script past s c is = by_runs_sequence (runs_sequence script past s) (head_of script past s) refl refl is
  where
    by_runs_sequence : (b : Bool) (o : Option Ready) → runs_sequence script past s ≡ b → head_of script past s ≡ o
        → cond b None (option_map (sequence_candidate script past s) o) ≡ Some c
        → (r : Ready) × (runs_sequence script past s ≡ false) × (head_of script past s ≡ Some r) × (sequence_candidate script past s r ≡ c)
    by_runs_sequence true o runs head none = absurd (none-some c none)
    by_runs_sequence false None runs head none = absurd (none-some c none)
    by_runs_sequence false (Some r) runs head some = (r, runs, head, some-injective some)

-- a job that waits may be entered, and was posted, and waits by its post
pub waiting_job : (script : Plan) (past : List Entry) (j : ℕ) (c : Candidate) → job_waiting script past j ≡ Some c
    → (p : JobPosted) × MayEnter script past j × (job_post_of past j ≡ Some p) × (job_candidate script past j p ≡ c)
waiting_job script past j c is = by_may_enter (may_enter script past j) (job_post_of past j) refl refl is
  where
    by_may_enter : (b : Bool) (o : Option JobPosted) → may_enter script past j ≡ b → job_post_of past j ≡ o
        → cond b (option_map (job_candidate script past j) o) None ≡ Some c
        → (p : JobPosted) × MayEnter script past j × (job_post_of past j ≡ Some p) × (job_candidate script past j p ≡ c)
    by_may_enter false o enters post none = absurd (none-some c none)
    by_may_enter true None enters post none = absurd (none-some c none)
    by_may_enter true (Some p) enters post some = (p, enters, post, some-injective some)

-- a sequence or a job of the script has the candidate by which it waits, and no other has one
pub sequence_in : (script : Plan) (past : List Entry) (s : ℕ) → s < sequence_count script
    → source_waiting script past (Sequence s) ≡ sequence_waiting script past s
sequence_in script past s less = rw (lt-ltb s (sequence_count script) less) refl

pub job_in : (script : Plan) (past : List Entry) (j : ℕ) → j < length script.jobs → source_waiting script past (Job j) ≡ job_waiting script past j
job_in script past j less = rw (lt-ltb j (length script.jobs) less) refl

within : (k n : ℕ) (o : Option Candidate) (c : Candidate) → cond (nat_lt k n) o None ≡ Some c → (k < n) × (o ≡ Some c)
within k n o c is = by_order (nat_lt k n) refl is
  where
    by_order : (b : Bool) → nat_lt k n ≡ b → cond b o None ≡ Some c → (k < n) × (o ≡ Some c)
    by_order true less some = (ltb-true k n less, some)
    by_order false more none = absurd (none-some c none)

pub sequence_within : (script : Plan) (past : List Entry) (s : ℕ) (c : Candidate) → source_waiting script past (Sequence s) ≡ Some c
    → (s < sequence_count script) × (sequence_waiting script past s ≡ Some c)
sequence_within script past s c is = within s (sequence_count script) (sequence_waiting script past s) c is

pub job_within : (script : Plan) (past : List Entry) (j : ℕ) (c : Candidate) → source_waiting script past (Job j) ≡ Some c
    → (j < length script.jobs) × (job_waiting script past j ≡ Some c)
job_within script past j c is = within j (length script.jobs) (job_waiting script past j) c is

-- a candidate names its source
pub candidate_names : (script : Plan) (past : List Entry) (source : TaskSource) (c : Candidate) → source_waiting script past source ≡ Some c → c.source ≡ source
candidate_names script past (Sequence s) c is =
    rw (← (waiting_sequence script past s c (sequence_within script past s c is).1).3) refl
candidate_names script past (Job j) c is = rw (← (waiting_job script past j c (job_within script past j c is).1).3) refl

-- What would wait.

-- what would wait is the candidate of its source
pub would_wait_is_candidate : (script : Plan) (past : List Entry) (c : Candidate) → WouldWait script past c → source_waiting script past c.source ≡ Some c
unfolding would_wait
would_wait_is_candidate script past c is = by_side (Contains-append_cases (filter_map (sequence_waiting script past) (range_with_len 0 (sequence_count script)))
    (filter_map (job_waiting script past) (range_with_len 0 (length script.jobs))) c is)
  where
    its_own : (source : TaskSource) → source_waiting script past source ≡ Some c → source_waiting script past c.source ≡ Some c
    its_own source is = ap (source_waiting script past) (candidate_names script past source c is) ∙ is

    by_side : Contains (filter_map (sequence_waiting script past) (range_with_len 0 (sequence_count script))) c
        ⊎ Contains (filter_map (job_waiting script past) (range_with_len 0 (length script.jobs))) c → source_waiting script past c.source ≡ Some c
    by_side (inl among) =
        let made : (s : ℕ) × Contains (range_with_len 0 (sequence_count script)) s × (sequence_waiting script past s ≡ Some c) =
        filter_map_contains (sequence_waiting script past) (range_with_len 0 (sequence_count script)) c among in
        its_own (Sequence made.0) (sequence_in script past made.0 (range_contains (sequence_count script) made.0 made.1) ∙ made.2)
    by_side (inr among) =
        let made : (j : ℕ) × Contains (range_with_len 0 (length script.jobs)) j × (job_waiting script past j ≡ Some c) =
        filter_map_contains (job_waiting script past) (range_with_len 0 (length script.jobs)) c among in
        its_own (Job made.0) (job_in script past made.0 (range_contains (length script.jobs) made.0 made.1) ∙ made.2)

-- and the candidate of a source would wait
pub candidate_would_wait : (script : Plan) (past : List Entry) (source : TaskSource) (c : Candidate) → source_waiting script past source ≡ Some c
    → WouldWait script past c
unfolding would_wait
candidate_would_wait script past (Sequence s) c is =
    let parts : (s < sequence_count script) × (sequence_waiting script past s ≡ Some c) = sequence_within script past s c is in
    Contains-append_left (filter_map (sequence_waiting script past) (range_with_len 0 (sequence_count script)))
    (filter_map (job_waiting script past) (range_with_len 0 (length script.jobs))) c
    (contains_filter_map (sequence_waiting script past) (range_with_len 0 (sequence_count script)) s c
    (contains_range (sequence_count script) s parts.0) parts.1)
candidate_would_wait script past (Job j) c is =
    let parts : (j < length script.jobs) × (job_waiting script past j ≡ Some c) = job_within script past j c is in
    Contains-append_right (filter_map (sequence_waiting script past) (range_with_len 0 (sequence_count script)))
    (filter_map (job_waiting script past) (range_with_len 0 (length script.jobs))) c
    (contains_filter_map (job_waiting script past) (range_with_len 0 (length script.jobs)) j c (contains_range (length script.jobs) j parts.0) parts.1)

-- what would wait is the same where each source waits as before
pub would_wait_by_sources : (script : Plan) (past later : List Entry)
    → ((source : TaskSource) → source_waiting script later source ≡ source_waiting script past source) → would_wait script later ≡ would_wait script past
unfolding would_wait
would_wait_by_sources script past later sources = rw (
  filter_map_congr_in (sequence_waiting script later) (sequence_waiting script past) (range_with_len 0 (sequence_count script))
      (AllByRecursion-range (λ s. sequence_waiting script later s ≡ sequence_waiting script past s) 0 (sequence_count script)
      (λ s from to. sequence s (omega (arith, to)))),
  filter_map_congr_in (job_waiting script later) (job_waiting script past) (range_with_len 0 (length script.jobs))
      (AllByRecursion-range (λ j. job_waiting script later j ≡ job_waiting script past j) 0 (length script.jobs) (λ j from to. job j (omega (arith, to)))),
) refl
  where
    sequence : (s : ℕ) → s < sequence_count script → sequence_waiting script later s ≡ sequence_waiting script past s
    sequence s less = sym (sequence_in script later s less) ∙ sources (Sequence s) ∙ sequence_in script past s less

    job : (j : ℕ) → j < length script.jobs → job_waiting script later j ≡ job_waiting script past j
    job j less = sym (job_in script later j less) ∙ sources (Job j) ∙ job_in script past j less

pub source_same : (script : Plan) (past : List Entry) (e : Entry) (source : TaskSource) → moves_sources e.kind ≡ false
    → source_waiting script (past ++ e ∷ []) source ≡ source_waiting script past source
source_same script past e (Sequence s) quiet =
    rw (sequence_waiting_same script past e s (moves_fewer sequence_waiting_parts source_parts e.kind refl quiet)) refl
source_same script past e (Job j) quiet =
    rw (job_waiting_kept script past (past ++ e ∷ []) j (job_same script past e j (moves_fewer job_parts source_parts e.kind refl quiet))) refl

-- so it stays at each kind that moves no source: a policy, for one, leaves it
pub would_wait_same : (script : Plan) (past : List Entry) (e : Entry) → moves_sources e.kind ≡ false
    → would_wait script (past ++ e ∷ []) ≡ would_wait script past
would_wait_same script past e quiet = would_wait_by_sources script past (past ++ e ∷ []) (λ source. source_same script past e source quiet)

-- a main task is no work of the pool
pub source_at_main : (script : Plan) (past : List Entry) (e : Entry) (source : TaskSource) → moves_main e.kind ≡ true → runs_pool_task past e.seat ≡ false
    → source_waiting script (past ++ e ∷ []) source ≡ source_waiting script past source
source_at_main script past e (Sequence s) main none = rw (sequence_waiting_at_main script past e s main none) refl
source_at_main script past e (Job j) main none = rw (job_waiting_kept script past (past ++ e ∷ []) j (job_at_main script past e j main)) refl

-- What waits.

-- what waits would wait, and is not held back
pub waiting_is_not_held : (script : Plan) (past : List Entry) (c : Candidate) → IsWaiting script past c
    → WouldWait script past c × (is_held past c.priority ≡ false)
unfolding waiting
waiting_is_not_held script past c is =
    let parts : WouldWait script past c × (not (is_held past c.priority) ≡ true) =
    filter_contains (λ d. not (is_held past d.priority)) (would_wait script past) c is in
    (parts.0, not-true (is_held past c.priority) parts.1)

-- and what would wait, and is not held back, waits
pub not_held_is_waiting : (script : Plan) (past : List Entry) (c : Candidate) → WouldWait script past c → is_held past c.priority ≡ false
    → IsWaiting script past c
unfolding waiting
not_held_is_waiting script past c is free = contains_filter (λ d. not (is_held past d.priority)) (would_wait script past) c is (ap not free)

pub waiting_is_free : (script : Plan) (past : List Entry) (c : Candidate) → IsWaiting script past c → IsFree script past c
waiting_is_free script past c is =
    let parts : WouldWait script past c × (is_held past c.priority ≡ false) = waiting_is_not_held script past c is in
    record { candidate = would_wait_is_candidate script past c parts.0; not_held = parts.1 }

pub free_is_waiting : (script : Plan) (past : List Entry) (c : Candidate) → IsFree script past c → IsWaiting script past c
free_is_waiting script past c free = not_held_is_waiting script past c (candidate_would_wait script past c.source c free.candidate) free.not_held

-- what waits is the same where the same would wait, and the same work is held back
waiting_kept : (script : Plan) (past later : List Entry) → would_wait script later ≡ would_wait script past
    → ((priority : Priority) → is_held later priority ≡ is_held past priority) → waiting script later ≡ waiting script past
unfolding waiting
waiting_kept script past later same held = rw same
    (filter_congr (λ c. not (is_held later c.priority)) (λ c. not (is_held past c.priority)) (would_wait script past) (λ c. ap not (held c.priority)))

pub waiting_same : (script : Plan) (past : List Entry) (e : Entry) → moves_waiting e.kind ≡ false → waiting script (past ++ e ∷ []) ≡ waiting script past
waiting_same script past e quiet = waiting_kept script past (past ++ e ∷ [])
    (would_wait_same script past e (moves_fewer source_parts waiting_parts e.kind refl quiet))
    (λ priority. held_same past e priority (moves_fewer held_parts waiting_parts e.kind refl quiet))
