-- The pool at the start of shutdown and at its end, and where another policy comes into force.
-- Cited by `Pool::blockers`, `Pool::policy`, `Pool::start_shutdown`, `Pool::try_done`.
use Rattle.std.proofs.lemmas.Bool.{cases_lt, false≢true, le-ltb, true≢false}
use Rattle.task_base.specs.declared.source.TaskSource.{TaskSource}
use Rattle.task_base.specs.declared.source.TaskSource.TheVariants.{Job, Sequence}
use Rattle.std.specs.List.{range_with_len}
use Rattle.pool_core.proofs.Sources.Listing.{listed_shrunk}
use Rattle.pool_core.specs.Pasts.{IsPoolPast}
use Rattle.pool_core.proofs.Sources.Following.{hold_from, hold_standing, nothing_first, sequence_waits}
use Rattle.pool_core.proofs.Jobs.JobQueues.{hold_all_jobs}
use Rattle.pool_core.proofs.Jobs.JobTables.{holders_kept, jobs_kept}
use Rattle.pool_core.proofs.Jobs.JobViews.{enters_parts, rank_is}
use Rattle.pool_core.specs.JobState.{job_at, jobs_placed, jobs_refreshed_below, no_job}
use Rattle.pool_core.specs.Jobs.{job_as}
use Rattle.pool_core.specs.PoolJobs.{rank_in}
use Rattle.pool_core.specs.Queues.{HoldWaiting, rank_as}
use Rattle.pool_laws.proofs.Choice.Candidates.{job_in}
use Rattle.pool_laws.proofs.Choice.Entering.{job_waiting_at_done}
use Rattle.list_laws.proofs.Places.{none_from_count}
use Rattle.list_laws.proofs.Ranges.{range_any_at}
use Rattle.task_model.specs.Blockers.{block_part, blockers_of, is_block, is_open_job}
use Rattle.task_model.specs.Jobs.{job_post_of, may_enter}
use Rattle.task_model.specs.Refusal.{behaviour_of_job}
use Rattle.task_model.specs.Sources.{job_candidate, job_waiting}
use Rattle.task_model.proofs.Growth.{now_of_push, phase_of_push}
use Rattle.task_traits.specs.Behaviour.{forbids}
use Rattle.task_traits.specs.declared.traits.Behaviour.{Behaviour}
use Rattle.task_traits.specs.declared.traits.Behaviour.TheVariants.{BlockShutdown, ContinueOnShutdown, SkipOnShutdown}
use Rattle.pool_core.proofs.Delays.{unripe_kept}
use Rattle.pool_core.proofs.Works.GroupGrowth.{groups_kept}
use Rattle.pool_core.proofs.Calls.Kept.{stands_kept, stands_with}
use Rattle.pool_core.proofs.LineGrowth.{lines_at_done, lines_at_shutdown}
use Rattle.pool_core.proofs.Pasts.{past_kept}
use Rattle.pool_core.proofs.Sources.Places.{all_declared, hold_placed, placed_by_table, unposted_is_empty}
use Rattle.pool_core.proofs.Tables.{postings_kept, priorities_kept, seats_kept}
use Rattle.pool_core.proofs.Tracking.{counted_is, tracked_at_done, tracked_at_policy, tracked_at_shutdown}
use Rattle.pool_core.specs.Calls.{IsInPhase, after_done, after_policy, after_shutdown}
use Rattle.pool_core.specs.Refreshes.{IsUnposted, placed, refreshed_below}
use Rattle.pool_core.specs.StandsFor.{StandsFor}
use Rattle.pool_core.specs.State.{candidate_by, rank_by, runner_of, standing}
use Rattle.pool_core.specs.declared.pool.Pool.{Pool}
use Rattle.pool_laws.proofs.Keys.Arrivals.{arrivals_same}
use Rattle.pool_laws.proofs.Keys.Posts.{posts_same}
use Rattle.std.proofs.Common.{Bool, List, None, [], ap, arith, cond, false, inl, inr, length, map, refl, sym, true, ℕ, ◌++◌, ◌+◌, ◌<◌, ◌∙◌, ◌∷◌, ◌≡◌, ◌≤◌}
use Rattle.std.proofs.lemmas.List.{get_or-map, get_or_past, length-map}
use Rattle.std.proofs.lemmas.Option.{get_or_from_slice_get}
use Rattle.std.specs.Option.{option_map}
use Rattle.std.specs.Prelude.{filter, option_and_then, ◌⊎◌}
use Rattle.task_base.specs.Plan.{Plan}
use Rattle.task_base.specs.Runners.{sequence_count}
use Rattle.task_base.specs.declared.entry.Entry.{Entry}
use Rattle.task_base.specs.declared.policy.Policy.{Policy}
use Rattle.pool_laws.specs.Choice.{source_waiting}
use Rattle.task_model.specs.Phase.{phase_of}
use Rattle.task_sequence.specs.Sequences.{Held, Waiting, first_of, fresh, may_stay, purged, sequence_at}
use Rattle.task_tracker.specs.Tracked.{Tracked, blocker_count}
use Rattle.task_base.specs.declared.entry.Kind.TheVariants as kinds
use Rattle.task_sequence.specs.Sequences as sequences
use Rattle.task_traits.specs.declared.phase.Phase.TheVariants as phases

-- The start.

-- a purge leaves a sequence without tasks as it is
purged_empty : (sequence : sequences.Sequence) → sequence.tasks ≡ [] → purged phases.Started sequence ≡ sequence
purged_empty sequence none = ap (λ tasks. record sequence { tasks = filter (may_stay phases.Started) tasks }) none
    ∙ ap (λ tasks. record sequence { tasks = tasks }) (sym none)

-- the queues hold what waits once shutdown has started, when each task's sequence, and then each job, has been given its place again
hold_at_shutdown : (script : Plan) (past : List Entry) (pool : Pool) (seat room : ℕ) → StandsFor script past pool → phase_of past ≡ phases.Running
    → HoldWaiting script (after_shutdown past seat) (jobs_placed phases.Started pool.jobs.items (placed script pool.priorities.items pool.postings.items
    (record pool.sequences { sequences = map (purged phases.Started) pool.sequences.sequences; room = room }) pool.lanes (length pool.postings.items))
    (length pool.jobs.items))
hold_at_shutdown script past pool seat room stands phase_is =
    rw stands.jobs.all (hold_all_jobs script past later phases.Started pool.jobs.items _ (standing script past pool.priorities.items pool.postings.items left)
    (hold_placed script past pool.priorities.items pool.priorities.items pool.postings.items pool.sequences left pool.lanes stands.script_fits
    (all_declared script past pool.postings.items stands.past_fits stands.postings) same (hold_standing script past pool stands))
    (λ s. sym (sequence_waits script later pool.priorities.items pool.postings.items left s (record {
      fits = fits;
      lines = lines_at_shutdown script past pool.sequences seat room stands.lines phase_is;
      postings_are = postings_kept script past e pool.postings.items refl stands.postings;
      priorities_are = priorities_kept script past e pool.priorities.items refl stands.priorities;
    }))) (λ j. refl) job_rank)
  where
    left : Held
    left = record pool.sequences { sequences = map (purged phases.Started) pool.sequences.sequences; room = room }

    e : Entry
    e = record { seat = seat; kind = kinds.Shutdown }

    later : List Entry
    later = past ++ e ∷ []

    fits : IsPoolPast script later
    fits = past_kept script past e refl stands.past_fits

    now_started : phase_of later ≡ phases.Started
    now_started = phase_of_push past e ∙ rw phase_is refl

    job_rank : (j : ℕ) → j < length script.jobs → rank_in phases.Started (job_at pool.jobs.items j) ≡ option_map rank_as (job_waiting script later j)
    job_rank j declared =
        ap (rank_in phases.Started) (get_or_from_slice_get pool.jobs.items j (job_as script later j) no_job
        ((jobs_kept script past e pool.jobs.items refl stands.jobs).each j declared))
        ∙ ap (λ phase. rank_in phase (job_as script later j)) (sym now_started) ∙ rank_is script later j fits.inside

    unchanged : (s : ℕ) → IsUnposted script pool.postings.items (Sequence s) (length pool.postings.items)
        → (s < sequence_count script) ⊎ (sequence_count script ≤ s) → sequence_at left s ≡ sequence_at pool.sequences s
    unchanged s none (inl there) = get_or-map (purged phases.Started) pool.sequences.sequences s fresh fresh (omega (arith, there, stands.lines.all))
        ∙ purged_empty (sequence_at pool.sequences s) (nothing_first (sequence_at pool.sequences s).tasks
        (unposted_is_empty script past pool s stands there none))
    unchanged s none (inr behind) =
        get_or_past left.sequences s fresh (omega (arith, behind, stands.lines.all, length-map pool.sequences.sequences (purged phases.Started)))
        ∙ sym (get_or_past pool.sequences.sequences s fresh (omega (arith, behind, stands.lines.all)))

    same : (source : TaskSource) → IsUnposted script pool.postings.items source (length pool.postings.items)
        → standing script past pool.priorities.items pool.postings.items left source
        ≡ standing script past pool.priorities.items pool.postings.items pool.sequences source
    same (Job j) none = refl
    same (Sequence s) none = ap (λ q. option_and_then (λ r. option_map (candidate_by script s r) (rank_by pool.priorities.items r q))
        (runner_of script pool.postings.items s)) (unchanged s none (cases_lt s (sequence_count script)))

-- a sequence without tasks has none after a purge
purged_shrinks : (held : Held) (room s : ℕ) → (sequence_at held s).tasks ≡ []
    → (sequence_at (record held { sequences = map (purged phases.Started) held.sequences; room = room }) s).tasks ≡ []
purged_shrinks held room s none = elim (cases_lt s (length held.sequences)) [
  | inl there ↦ ap (λ q. q.tasks) (get_or-map (purged phases.Started) held.sequences s fresh fresh there) ∙ ap (filter (may_stay phases.Started)) none
  | inr past ↦ ap (λ q. q.tasks) (get_or_past (map (purged phases.Started) held.sequences) s fresh
      (omega (arith, past, length-map held.sequences (purged phases.Started))))
]

-- the pool at the start of shutdown
pub stands_at_shutdown : (script : Plan) (past : List Entry) (pool : Pool) (seat removed : ℕ) → IsInPhase script past pool phases.Running
    → StandsFor script (after_shutdown past seat) (jobs_refreshed_below (refreshed_below (record pool {
      tracker = record pool.tracker { phase = phases.Started };
      sequences = record pool.sequences { sequences = map (purged phases.Started) pool.sequences.sequences; room = pool.sequences.room + removed };
    }) (length pool.postings.items)) (length pool.jobs.items))
stands_at_shutdown script past pool seat removed in_phase = let stands = in_phase.stands in let phase_is = in_phase.phase_is in record {
  script_fits = stands.script_fits;
  past_fits = past_kept script past _ refl stands.past_fits;
  runners = stands.runners;
  priorities = priorities_kept script past _ pool.priorities.items refl stands.priorities;
  lines = lines_at_shutdown script past pool.sequences seat (pool.sequences.room + removed) stands.lines phase_is;
  queues = rw stands.runners (rw (placed_by_table script pool.priorities.items pool.postings.items _ pool.lanes (length pool.postings.items))
      (hold_at_shutdown script past pool seat (pool.sequences.room + removed) stands phase_is));
  listed = listed_shrunk script pool.postings.items pool.sequences _ pool.lists stands.listed (purged_shrinks pool.sequences (pool.sequences.room + removed));
  representatives = stands.representatives;
  groups = groups_kept script past _ pool.groups refl stands.groups;
  delayed = rw (unripe_kept past (record { seat = seat; kind = kinds.Shutdown }) refl) stands.delayed;
  tracker = rw (tracked_at_shutdown script past seat phase_is) (ap {A = Tracked} {B = Tracked} (λ t. record t { phase = phases.Started }) stands.tracker);
  postings = postings_kept script past _ pool.postings.items refl stands.postings;
  seats = seats_kept script past _ pool.seats.items refl stands.seats;
  jobs = jobs_kept script past _ pool.jobs.items refl stands.jobs;
  holders = holders_kept script past _ pool.holders.items refl stands.holders;
  moment = rw (now_of_push past (record { seat = seat; kind = kinds.Shutdown })) stands.moment;
  room = rw (posts_same past (record { seat = seat; kind = kinds.Shutdown }) refl) (omega (arith, stands.room));
}

-- The end, after which no source waits, and a policy, which the tracker keeps.

-- what the tracker counts is what shutdown waits for
pub count_is : (script : Plan) (past : List Entry) (pool : Pool) → StandsFor script past pool → blocker_count pool.tracker ≡ blockers_of script past
count_is script past pool stands = rw stands.tracker (counted_is script past)

-- where nothing blocks shutdown that has started, no job waits
no_job_waits : (script : Plan) (past : List Entry) (j : ℕ) → phase_of past ≡ phases.Started → blockers_of script past ≡ 0 → j < length script.jobs
    → job_waiting script past j ≡ None
unfolding blockers_of block_part
no_job_waits script past j started none declared = by_may_enter (may_enter script past j) refl
  where
    blocks : (b : Behaviour) → forbids phases.Started b ≡ false → is_block b ≡ true
    blocks BlockShutdown allowed = refl
    blocks ContinueOnShutdown allowed = absurd (true≢false allowed)
    blocks SkipOnShutdown allowed = absurd (true≢false allowed)

    is_open : may_enter script past j ≡ true → is_open_job script past j ≡ true
    is_open may =
        let parts = enters_parts script past j may in
        rw (blocks (behaviour_of_job script j) (ap (λ phase. forbids phase (behaviour_of_job script j)) (sym started) ∙ parts.1), parts.0, parts.2) refl

    by_may_enter : (b : Bool) → may_enter script past j ≡ b → cond b (option_map (job_candidate script past j) (job_post_of past j)) None ≡ None
    by_may_enter false closed = refl
    by_may_enter true may = absurd (false≢true (sym (none_from_count (is_open_job script past) (range_with_len 0 (length script.jobs)) (omega (arith, none)))
        ∙ range_any_at (is_open_job script past) 0 (length script.jobs) j (is_open may) (omega arith) (omega (arith, declared))))

-- and none waits once shutdown is done
job_at_done : (script : Plan) (past : List Entry) (seat j : ℕ) → phase_of past ≡ phases.Started → blockers_of script past ≡ 0
    → source_waiting script (after_done past seat) (Job j) ≡ source_waiting script past (Job j)
job_at_done script past seat j started none = elim (cases_lt j (length script.jobs)) [
  | inl declared ↦ job_in script (after_done past seat) j declared ∙ job_waiting_at_done script past (record { seat = seat; kind = kinds.Done }) j refl
      ∙ sym (job_in script past j declared ∙ no_job_waits script past j started none declared)
  | inr behind ↦ rw (le-ltb j (length script.jobs) behind) refl
]

pub stands_at_done : (script : Plan) (past : List Entry) (pool : Pool) (seat : ℕ) (tracker : Tracked) → IsInPhase script past pool phases.Started
    → blockers_of script past ≡ 0 → tracker ≡ record pool.tracker { phase = phases.Done }
    → StandsFor script (after_done past seat) (record pool { tracker = tracker })
stands_at_done script past pool seat tracker can none is =
    let e : Entry = record { seat = seat; kind = kinds.Done } in
    let stands = can.stands in
    let lines = lines_at_done script past pool.sequences seat stands.past_fits stands.lines can.phase_is none in
    let fits = past_kept script past e refl stands.past_fits in
    stands_with script past pool e pool.groups tracker stands refl fits
    (rw (arrivals_same past e refl) at lines)
    (hold_from script past (past ++ e ∷ []) pool.priorities.items pool.postings.items pool.sequences pool.lanes (record {
      fits = fits;
      lines = lines;
      postings_are = postings_kept script past e pool.postings.items refl stands.postings;
      priorities_are = priorities_kept script past e pool.priorities.items refl stands.priorities;
    }) (λ j. job_at_done script past seat j can.phase_is none) (hold_standing script past pool stands))
    (groups_kept script past e pool.groups refl stands.groups)
    (is ∙ ap (λ (t : Tracked). record t { phase = phases.Done }) stands.tracker ∙ sym (tracked_at_done script past seat))
    (seats_kept script past e pool.seats.items refl stands.seats)

pub stands_at_policy : (script : Plan) (past : List Entry) (pool : Pool) (seat : ℕ) (policy : Policy) (tracker : Tracked) → StandsFor script past pool
    → tracker ≡ record pool.tracker { policy = policy } → StandsFor script (after_policy past seat policy) (record pool { tracker = tracker })
stands_at_policy script past pool seat policy tracker stands is =
    let e : Entry = record { seat = seat; kind = kinds.Policy policy } in
    stands_kept script past pool e pool.groups tracker stands refl
    (past_kept script past e refl stands.past_fits) (groups_kept script past e pool.groups refl stands.groups)
    (is ∙ ap (λ (t : Tracked). record t { policy = policy }) stands.tracker ∙ sym (tracked_at_policy script past seat policy))
