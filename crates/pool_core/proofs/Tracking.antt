-- The phase, the policy and what shutdown waits for, as the past grows.
-- Cited by 5 functions of `Pool`, `Calls/EmptyPool`, `Calls/Ends`, `Calls/Others`, `Calls/Posts`, `Calls/Reprio`, `Calls/Scopes`,
-- `Calls/Shutdown`, `Calls/Takes`, `Calls/Ticks`, `Jobs/AtJob`, `Jobs/JobStands`, `Jobs/JobSteps`, `Works/AtSeat`.
use Rattle.pool_laws.proofs.Seats.Runs.{singly_unended}
use Rattle.list_laws.proofs.Counts.{count_le}
use Rattle.list_laws.proofs.Filters.{filter_never}
use Rattle.pool_core.proofs.Accepted.{head_accepted, new_is_not_taken, one_post, posts_fit}
use Rattle.pool_core.specs.Calls.{after_done, after_end, after_policy, after_post, after_shutdown}
use Rattle.pool_core.specs.Others.{tracked_parts}
use Rattle.pool_core.specs.Pasts.{IsPoolPast, IsPoolScript}
use Rattle.pool_core.specs.Tables.{tracked}
use Rattle.pool_laws.proofs.Shutdown.Tasks.{blocks_and_skips}
use Rattle.pool_laws.proofs.Shutdown.Blockers.{block_part_at_cancel, block_part_at_end, block_part_at_job_post, block_part_at_job_take, block_part_at_leave}
use Rattle.pool_laws.proofs.Shutdown.Blockers.{block_part_at_post, block_part_at_step, block_part_same, skip_part_at_end, skip_part_at_job_take}
use Rattle.pool_laws.proofs.Shutdown.Blockers.{skip_part_at_leave, skip_part_at_post, skip_part_at_step, skip_part_at_take, skip_part_same}
use Rattle.pool_laws.specs.Seats.{holds_job}
use Rattle.list_laws.proofs.Values.{eqb-same}
use Rattle.std.proofs.Math.Bool.{and-false, and-true}
use Rattle.std.proofs.Math.Nat.{add-zero}
use Rattle.std.proofs.lemmas.List.FromFn.{length-range_with_len}
use Rattle.std.specs.List.{range_with_len}
use Rattle.task_model.specs.Jobs.{is_empty, is_job_accepted, is_over, job_post_of}
use Rattle.pool_laws.specs.Room.{share}
use Rattle.pool_laws.specs.Shutdown.{block_parts, skip_parts}
use Rattle.shutdown_phase.specs.declared.phase_count.TheConstants.{MAX_BLOCKERS}
use Rattle.std.proofs.Common.{Bool, List, None, Some, [], ap, arith, false, length, refl, true, ℕ, ◌++◌, ◌+◌, ◌-◌, ◌<◌, ◌∙◌, ◌∷◌, ◌≡◌, ◌≤◌}
use Rattle.std.specs.Prelude.{if◌then◌else◌, not, ◌&&◌}
use Rattle.task_base.specs.Plan.{Plan}
use Rattle.task_base.specs.declared.entry.Entry.{Entry}
use Rattle.task_base.specs.declared.policy.Policy.{Policy}
use Rattle.task_model.proofs.Growth.{phase_of_push, policy_of_push}
use Rattle.task_model.specs.Blockers.{block_part, blockers_of, is_block, is_in_skip_job, is_open_job, is_skip, open_jobs, seats_in_skip_jobs, skip_part}
use Rattle.task_model.specs.Keys.{Ready}
use Rattle.task_model.specs.Past.{fold_past}
use Rattle.task_model.specs.Phase.{phase_of}
use Rattle.task_model.specs.Policies.{policy_of}
use Rattle.task_model.specs.Posts.{Posted, is_ended, is_taken, posts}
use Rattle.pool_laws.specs.Posts.{post_of}
use Rattle.task_model.specs.Refusal.{behaviour_of_job, effective_at}
use Rattle.task_model.specs.Seats.{Holding, Running, all_seats, holding, running}
use Rattle.task_model.specs.Sequences.{head_of}
use Rattle.task_tracker.specs.Tracked.{block_share, blocker_count, skip_share}
use Rattle.task_traits.specs.declared.phase.Phase.{Phase}
use Rattle.task_traits.specs.declared.traits.Behaviour.{Behaviour}
use Rattle.task_traits.specs.declared.traits.Behaviour.TheVariants.{BlockShutdown, ContinueOnShutdown, SkipOnShutdown}
use Rattle.task_base.specs.declared.entry.Kind.TheVariants as kinds
use Rattle.task_base.specs.declared.policy.Policy.TheVariants as policies
use Rattle.task_traits.specs.declared.phase.Phase.TheVariants as phases
use Rattle.task_base.specs.Entries.{next}
use Rattle.pool_laws.specs.Moves.{moves}
use Rattle.pool_laws.proofs.Moves.{moves_fewer, same_phase, same_policy}

-- what is tracked, part by part
tracked_is : (script : Plan) (past : List Entry) (phase : Phase) (policy : Policy) (blocks skips : ℕ) → phase_of past ≡ phase → policy_of past ≡ policy
    → block_part script past ≡ blocks → skip_part script past ≡ skips
    → tracked script past ≡ record { phase = phase; policy = policy; block_items = blocks; skip_items = skips }
tracked_is script past phase policy blocks skips phase_is policy_is blocks_are skips_are = rw (phase_is, policy_is, blocks_are, skips_are) refl

-- a task counts for as much in the tracker as by the rules
block_share_is : (b : Behaviour) → share (is_block b) ≡ block_share b
block_share_is ContinueOnShutdown = refl
block_share_is SkipOnShutdown = refl
block_share_is BlockShutdown = refl

skip_share_is : (b : Behaviour) → share (is_skip b) ≡ skip_share b
skip_share_is ContinueOnShutdown = refl
skip_share_is SkipOnShutdown = refl
skip_share_is BlockShutdown = refl

-- no job was accepted, and nobody is inside one
no_open_jobs : (script : Plan) → open_jobs script [] ≡ 0
unfolding job_post_of fold_past
no_open_jobs script = ap length (filter_never (is_open_job script []) (range_with_len 0 (length script.jobs))
    (λ j. rw (and-false (is_block (behaviour_of_job script j))) refl))

no_skip_seats : (script : Plan) → seats_in_skip_jobs script [] ≡ 0
unfolding holding
no_skip_seats script = ap length (filter_never (is_in_skip_job script []) (all_seats script) (λ seat. refl))

pub tracked_at_start : (script : Plan) → tracked script [] ≡ record { phase = phases.Running; policy = policies.All; block_items = 0; skip_items = 0 }
unfolding phase_of policy_of block_part skip_part posts fold_past
tracked_at_start script = rw (no_open_jobs script, no_skip_seats script) refl

pub tracked_at_post : (script : Plan) (past : List Entry) (seat task runner delay : ℕ) → IsPoolPast script past → post_of past task ≡ None
    → tracked script (after_post past seat task runner delay true)
    ≡ record (tracked script past) { block_items = block_part script past + block_share (effective_at script runner delay) }
tracked_at_post script past seat task runner delay fits new =
    let e : Entry = record { seat = seat; kind = kinds.Post task runner delay true } in
    let none : (is_taken past task ≡ false) × (is_ended past task ≡ false) = new_is_not_taken script past task fits new in
    tracked_is script (past ++ e ∷ []) (phase_of past) (policy_of past) _ (skip_part script past) (phase_of_push past e) (policy_of_push past e)
    (block_part_at_post script past e task runner delay refl none.1 ∙ rw (block_share_is (effective_at script runner delay)) refl)
    (skip_part_at_post script past e task runner delay refl none.0)

pub tracked_at_refusal : (script : Plan) (past : List Entry) (seat task runner delay : ℕ)
    → tracked script (after_post past seat task runner delay false) ≡ tracked script past
tracked_at_refusal script past seat task runner delay =
    let e : Entry = record { seat = seat; kind = kinds.Post task runner delay false } in
    rw (phase_of_push past e, policy_of_push past e, block_part_same script past e refl, skip_part_same script past e refl) refl

pub tracked_at_take : (script : Plan) (past : List Entry) (seat s found : ℕ) (head : Ready) → IsPoolPast script past → head_of script past s ≡ Some head
    → tracked script (next past seat (kinds.Take head.posted.task head.posted.home found))
    ≡ record (tracked script past) { skip_items = skip_part script past + skip_share (effective_at script head.posted.home head.posted.delay) }
tracked_at_take script past seat s found head fits is_head =
    let e : Entry = record { seat = seat; kind = kinds.Take head.posted.task head.posted.home found } in
    let accepted = head_accepted script past s head is_head in
    tracked_is script (past ++ e ∷ []) (phase_of past) (policy_of past) (block_part script past) _ (phase_of_push past e) (policy_of_push past e)
    (block_part_same script past e refl)
    (skip_part_at_take script past e head.posted head.posted.task head.posted.home found refl fits.in_order
    (one_post past head.posted fits.in_order accepted.0) accepted.2
    (singly_unended script past false head.posted.task fits.singly accepted.2)
    ∙ rw (skip_share_is (effective_at script head.posted.home head.posted.delay)) refl)

-- the end of a task that was posted in this way
block_at_end : (script : Plan) (past : List Entry) (seat left : ℕ) (w : Running) (p : Posted) → IsPoolPast script past → running past seat ≡ Some w
    → w.is_main ≡ false → post_of past w.task ≡ Some p
    → block_part script past ≡ block_part script (after_end past seat w.task left) + block_share (effective_at script p.home p.delay)
block_at_end script past seat left w p fits runs pool posted =
    block_part_at_end script past (record { seat = seat; kind = kinds.End w.task left }) p w.task left refl fits.in_order posted
    (fits.singly.runs seat w runs pool).not_ended ∙ rw (block_share_is (effective_at script p.home p.delay)) refl

skip_at_end : (script : Plan) (past : List Entry) (seat left : ℕ) (w : Running) (p : Posted) → IsPoolPast script past → running past seat ≡ Some w
    → w.is_main ≡ false → post_of past w.task ≡ Some p
    → skip_part script past ≡ skip_part script (after_end past seat w.task left) + skip_share (effective_at script p.home p.delay)
skip_at_end script past seat left w p fits runs pool posted =
    skip_part_at_end script past (record { seat = seat; kind = kinds.End w.task left }) p w.task left refl fits.in_order posted
    (fits.singly.runs seat w runs pool).taken (fits.singly.runs seat w runs pool).not_ended ∙ rw (skip_share_is (effective_at script p.home p.delay)) refl

-- what it counts for, and what is left
pub counts_at_end : (script : Plan) (past : List Entry) (seat : ℕ) (w : Running) (p : Posted) → IsPoolPast script past → running past seat ≡ Some w
    → w.is_main ≡ false → post_of past w.task ≡ Some p
    → (block_share (effective_at script p.home p.delay) ≤ block_part script past) × (skip_share (effective_at script p.home p.delay) ≤ skip_part script past)
counts_at_end script past seat w p fits runs pool posted = (
  omega (arith, block_at_end script past seat 0 w p fits runs pool posted),
  omega (arith, skip_at_end script past seat 0 w p fits runs pool posted),
)

pub tracked_at_end : (script : Plan) (past : List Entry) (seat left : ℕ) (w : Running) (p : Posted) → IsPoolPast script past → running past seat ≡ Some w
    → w.is_main ≡ false → post_of past w.task ≡ Some p
    → tracked script (after_end past seat w.task left) ≡ record (tracked script past) {
      block_items = block_part script past - block_share (effective_at script p.home p.delay);
      skip_items = skip_part script past - skip_share (effective_at script p.home p.delay);
    }
tracked_at_end script past seat left w p fits runs pool posted =
    let e : Entry = record { seat = seat; kind = kinds.End w.task left } in
    tracked_is script (past ++ e ∷ []) (phase_of past) (policy_of past) _ _ (phase_of_push past e) (policy_of_push past e)
    (omega (arith, block_at_end script past seat left w p fits runs pool posted)) (omega (arith, skip_at_end script past seat left w p fits runs pool posted))

pub tracked_at_policy : (script : Plan) (past : List Entry) (seat : ℕ) (policy : Policy)
    → tracked script (after_policy past seat policy) ≡ record (tracked script past) { policy = policy }
tracked_at_policy script past seat policy =
    let e : Entry = record { seat = seat; kind = kinds.Policy policy } in
    rw (phase_of_push past e, policy_of_push past e, block_part_same script past e refl, skip_part_same script past e refl) refl

pub tracked_at_shutdown : (script : Plan) (past : List Entry) (seat : ℕ) → phase_of past ≡ phases.Running
    → tracked script (after_shutdown past seat) ≡ record (tracked script past) { phase = phases.Started }
tracked_at_shutdown script past seat running =
    let e : Entry = record { seat = seat; kind = kinds.Shutdown } in
    rw (phase_of_push past e, policy_of_push past e, block_part_same script past e refl, skip_part_same script past e refl, running) refl

pub tracked_at_done : (script : Plan) (past : List Entry) (seat : ℕ)
    → tracked script (after_done past seat) ≡ record (tracked script past) { phase = phases.Done }
tracked_at_done script past seat =
    let e : Entry = record { seat = seat; kind = kinds.Done } in
    rw (phase_of_push past e, policy_of_push past e, block_part_same script past e refl, skip_part_same script past e refl) refl

-- an entry that moves none of the counts, neither the phase nor the policy
pub tracked_kept : (script : Plan) (past : List Entry) (e : Entry) → moves tracked_parts e.kind ≡ false
    → tracked script (past ++ e ∷ []) ≡ tracked script past
tracked_kept script past e still =
    rw (
      phase_of_push past e,
      same_phase tracked_parts e.kind refl still (phase_of past),
      policy_of_push past e,
      same_policy tracked_parts e.kind refl still (policy_of past),
      block_part_same script past e (moves_fewer block_parts tracked_parts e.kind refl still),
      skip_part_same script past e (moves_fewer skip_parts tracked_parts e.kind refl still),
    )
    refl

-- what is counted, and that it is little
pub counted_is : (script : Plan) (past : List Entry) → blocker_count (tracked script past) ≡ blockers_of script past
unfolding blockers_of
counted_is script past = refl

pub few_blockers : (script : Plan) (past : List Entry) → IsPoolScript script → IsPoolPast script past
    → blocker_count (tracked script past) < MAX_BLOCKERS
unfolding block_part skip_part
few_blockers script past limits fits = omega (
  arith,
  count_le (is_open_job script past) (range_with_len 0 (length script.jobs)),
  length-range_with_len 0 (length script.jobs),
  count_le (is_in_skip_job script past) (all_seats script),
  length-range_with_len 0 (script.workers + 1),
  blocks_and_skips script past,
  posts_fit script past fits,
  limits.tasks_fit,
  limits.jobs_fit,
  limits.workers_fit,
)

-- Jobs.

-- what counts where both hold
shared : (b : Behaviour) (c : Bool) → share (is_block b && c) ≡ (if c then block_share b else 0)
shared ContinueOnShutdown true = refl
shared ContinueOnShutdown false = refl
shared SkipOnShutdown true = refl
shared SkipOnShutdown false = refl
shared BlockShutdown true = refl
shared BlockShutdown false = refl

pub tracked_at_job_post : (script : Plan) (past : List Entry) (seat job : ℕ) → job < length script.jobs → job_post_of past job ≡ None
    → tracked script (next past seat (kinds.JobPost job true)) ≡ record (tracked script past) {
      block_items = block_part script past + (if not (is_over script past job) then block_share (behaviour_of_job script job) else 0);
    }
tracked_at_job_post script past seat job declared new =
    let e : Entry = record { seat = seat; kind = kinds.JobPost job true } in
    tracked_is script (past ++ e ∷ []) (phase_of past) (policy_of past) _ (skip_part script past) (phase_of_push past e) (policy_of_push past e)
    (block_part_at_job_post script past e job true refl declared new
    ∙ ap (λ n. block_part script past + n) (ap share (flat (is_block (behaviour_of_job script job)) (not (is_over script past job)))
    ∙ shared (behaviour_of_job script job) (not (is_over script past job)))) (skip_part_same script past e refl)
  where
    flat : (a b : Bool) → (a && true && b) ≡ (a && b)
    flat true b = refl
    flat false b = refl

pub tracked_at_job_refusal : (script : Plan) (past : List Entry) (seat job : ℕ) → job < length script.jobs → job_post_of past job ≡ None
    → tracked script (next past seat (kinds.JobPost job false)) ≡ tracked script past
tracked_at_job_refusal script past seat job declared new =
    let e : Entry = record { seat = seat; kind = kinds.JobPost job false } in
    tracked_is script (past ++ e ∷ []) (phase_of past) (policy_of past) _ (skip_part script past) (phase_of_push past e) (policy_of_push past e)
    (block_part_at_job_post script past e job false refl declared new
    ∙ rw (and-false (is_block (behaviour_of_job script job))) (add-zero (block_part script past))) (skip_part_same script past e refl)

pub tracked_at_job_take : (script : Plan) (past : List Entry) (seat job id item : ℕ) → seat ≤ script.workers → holding past seat ≡ None
    → is_over script past job ≡ false
    → tracked script (next past seat (kinds.JobTake job id item))
    ≡ record (tracked script past) { skip_items = skip_part script past + skip_share (behaviour_of_job script job) }
tracked_at_job_take script past seat job id item known nothing not_over =
    let e : Entry = record { seat = seat; kind = kinds.JobTake job id item } in
    tracked_is script (past ++ e ∷ []) (phase_of past) (policy_of past) (block_part script past) _ (phase_of_push past e) (policy_of_push past e)
    (block_part_at_job_take script past e job id item refl (omega (arith, known)) nothing not_over)
    (skip_part_at_job_take script past e job id item refl (omega (arith, known)) nothing ∙ rw (skip_share_is (behaviour_of_job script job)) refl)

-- a seat holds an item of its job
holds_its : (past : List Entry) (seat : ℕ) (h : Holding) → holding past seat ≡ Some h → holds_job past seat h.job ≡ true
holds_its past seat h is = rw is (eqb-same h.job)

pub tracked_at_goes_on : (script : Plan) (past : List Entry) (seat value goes_on : ℕ) (h : Holding) → seat ≤ script.workers → holding past seat ≡ Some h
    → tracked script (next past seat (kinds.JobStep h.job h.id h.item value (Some goes_on))) ≡ tracked script past
tracked_at_goes_on script past seat value goes_on h known is =
    let e : Entry = record { seat = seat; kind = kinds.JobStep h.job h.id h.item value (Some goes_on) } in
    rw (
      phase_of_push past e,
      policy_of_push past e,
      block_part_at_step script past e h.job h.id h.item value goes_on refl (omega (arith, known)) (holds_its past seat h is),
      skip_part_at_step script past e h.job h.id h.item value goes_on refl (omega (arith, known)) (holds_its past seat h is),
    ) refl

-- what the last leaving of a job takes off
abbrev pub left_share : Plan → List Entry → ℕ → ℕ
left_share script later job = if is_over script later job then block_share (behaviour_of_job script job) else 0

block_at_left : (script : Plan) (past : List Entry) (seat value : ℕ) (h : Holding) → seat ≤ script.workers → holding past seat ≡ Some h
    → h.job < length script.jobs → is_job_accepted past h.job ≡ true
    → block_part script past ≡ block_part script (next past seat (kinds.JobStep h.job h.id h.item value None))
    + left_share script (next past seat (kinds.JobStep h.job h.id h.item value None)) h.job
block_at_left script past seat value h known is declared accepted =
    let e : Entry = record { seat = seat; kind = kinds.JobStep h.job h.id h.item value None } in
    block_part_at_leave script past e h.job h.id h.item value refl (omega (arith, known)) (holds_its past seat h is) declared
    ∙ ap (λ n. block_part script (past ++ e ∷ []) + n)
    (rw (accepted, and-true (is_block (behaviour_of_job script h.job))) (shared (behaviour_of_job script h.job) (is_over script (past ++ e ∷ []) h.job)))

skip_at_left : (script : Plan) (past : List Entry) (seat value : ℕ) (h : Holding) → seat ≤ script.workers → holding past seat ≡ Some h
    → skip_part script past ≡ skip_part script (next past seat (kinds.JobStep h.job h.id h.item value None)) + skip_share (behaviour_of_job script h.job)
skip_at_left script past seat value h known is =
    let e : Entry = record { seat = seat; kind = kinds.JobStep h.job h.id h.item value None } in
    skip_part_at_leave script past e h.job h.id h.item value refl (omega (arith, known)) (holds_its past seat h is)
    ∙ rw (skip_share_is (behaviour_of_job script h.job)) refl

-- what it counts for, and what is left
pub counts_at_left : (script : Plan) (past : List Entry) (seat value : ℕ) (h : Holding) → seat ≤ script.workers → holding past seat ≡ Some h
    → h.job < length script.jobs → is_job_accepted past h.job ≡ true
    → (left_share script (next past seat (kinds.JobStep h.job h.id h.item value None)) h.job ≤ block_part script past)
    × (skip_share (behaviour_of_job script h.job) ≤ skip_part script past)
counts_at_left script past seat value h known is declared accepted = (
  omega (arith, block_at_left script past seat value h known is declared accepted),
  omega (arith, skip_at_left script past seat value h known is),
)

pub tracked_at_left : (script : Plan) (past : List Entry) (seat value : ℕ) (h : Holding) → seat ≤ script.workers → holding past seat ≡ Some h
    → h.job < length script.jobs → is_job_accepted past h.job ≡ true
    → tracked script (next past seat (kinds.JobStep h.job h.id h.item value None)) ≡ record (tracked script past) {
      block_items = block_part script past - left_share script (next past seat (kinds.JobStep h.job h.id h.item value None)) h.job;
      skip_items = skip_part script past - skip_share (behaviour_of_job script h.job);
    }
tracked_at_left script past seat value h known is declared accepted =
    let e : Entry = record { seat = seat; kind = kinds.JobStep h.job h.id h.item value None } in
    tracked_is script (past ++ e ∷ []) (phase_of past) (policy_of past) _ _ (phase_of_push past e) (policy_of_push past e)
    (omega (arith, block_at_left script past seat value h known is declared accepted)) (omega (arith, skip_at_left script past seat value h known is))

-- what a cancel takes off: an accepted job that nobody is inside, and that was not over
abbrev pub cancel_share : Plan → List Entry → ℕ → ℕ
cancel_share script past job =
    if is_job_accepted past job && is_empty script past job && not (is_over script past job) then block_share (behaviour_of_job script job) else 0

block_at_cancel : (script : Plan) (past : List Entry) (seat job : ℕ) → job < length script.jobs
    → block_part script past ≡ block_part script (next past seat (kinds.JobCancel job)) + cancel_share script past job
block_at_cancel script past seat job declared =
    let e : Entry = record { seat = seat; kind = kinds.JobCancel job } in
    block_part_at_cancel script past e job refl declared
    ∙ ap (λ n. block_part script (past ++ e ∷ []) + n)
    (ap share (flat (is_block (behaviour_of_job script job)) (is_job_accepted past job) (is_empty script past job) (not (is_over script past job)))
    ∙ shared (behaviour_of_job script job) (is_job_accepted past job && is_empty script past job && not (is_over script past job)))
  where
    flat : (a b c d : Bool) → (a && b && c && d) ≡ (a && (b && c && d))
    flat true b c d = refl
    flat false b c d = refl

pub counts_at_cancel : (script : Plan) (past : List Entry) (job : ℕ) → job < length script.jobs → cancel_share script past job ≤ block_part script past
counts_at_cancel script past job declared = omega (arith, block_at_cancel script past 0 job declared)

pub tracked_at_cancel : (script : Plan) (past : List Entry) (seat job : ℕ) → job < length script.jobs
    → tracked script (next past seat (kinds.JobCancel job))
    ≡ record (tracked script past) { block_items = block_part script past - cancel_share script past job }
tracked_at_cancel script past seat job declared =
    let e : Entry = record { seat = seat; kind = kinds.JobCancel job } in
    tracked_is script (past ++ e ∷ []) (phase_of past) (policy_of past) _ (skip_part script past) (phase_of_push past e) (policy_of_push past e)
    (omega (arith, block_at_cancel script past seat job declared)) (skip_part_same script past e refl)
