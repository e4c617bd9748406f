-- The queues where a job is given its place.
-- Cited by `Pool::refresh_jobs`, `Calls/Posts`, `Calls/Reprio`, `Calls/Shutdown`, `Calls/Ticks`, `Jobs/AtJob`, `Jobs/JobStands`,
-- `Sources/Choosing`, `Sources/Following`, `Sources/Places`.
use Rattle.pool_core.proofs.Sources.Queues.{IsGiven, IsOfLane, hold_given, hold_same, shape_kept}
use Rattle.pool_core.specs.JobState.{HasJobPlace, HaveJobPlaces, job_at, jobs_placed, jobs_refreshed_below, with_job_place}
use Rattle.pool_core.specs.declared.pool.Pool.{Pool}
use Rattle.pool_core.specs.PoolJobs.{rank_in}
use Rattle.pool_core.specs.Queues.{AreRoomy, HoldBy, HoldWaiting, queue_of, rank_as}
use Rattle.pool_core.specs.declared.lanes.Lane.{Lane}
use Rattle.pool_core.specs.declared.pool_job.PoolJob.{PoolJob}
use Rattle.pool_laws.proofs.Choice.Candidates.{job_in}
use Rattle.pool_laws.proofs.Choice.Waiting.{sequence_waiting_same}
use Rattle.pool_laws.proofs.Jobs.Answers.{job_same, job_waiting_kept}
use Rattle.pool_laws.specs.Choice.{OthersKept, moves_sequence_waiting, source_waiting}
use Rattle.pool_laws.specs.Jobs.{JobKept, moves_jobs}
use Rattle.sequence_queue.specs.Ranked.{IsMadeFor}
use Rattle.sequence_queue.specs.declared.rank.Rank.{Rank}
use Rattle.std.proofs.Common.{Bool, List, None, Option, Some, [], ap, arith, cond, false, inl, inr, length}
use Rattle.std.proofs.Common.{refl, suc, sym, true, zero, ℕ, ◌++◌, ◌<◌, ◌∙◌, ◌∷◌, ◌≡◌, ◌≤◌}
use Rattle.std.proofs.lemmas.Bool.{cases_eq, cases_lt, le-ltb, lt-ltb, ne_eqb}
use Rattle.std.proofs.lemmas.List.{length-set}
use Rattle.std.specs.Option.{option_map}
use Rattle.std.specs.Prelude.{if◌then◌else◌, nat_lt, ◌==◌}
use Rattle.task_base.specs.Plan.{Plan}
use Rattle.task_base.specs.declared.entry.Entry.{Entry}
use Rattle.task_base.specs.declared.source.TaskSource.{TaskSource}
use Rattle.task_base.specs.declared.source.TaskSource.TheVariants.{Job, Sequence}
use Rattle.task_model.specs.Jobs.{JobPosted, job_post_of, may_enter}
use Rattle.task_model.specs.Sources.{Candidate, job_candidate, job_waiting}
use Rattle.task_traits.specs.declared.phase.Phase.{Phase}

-- A job is of the lane for all seats.

job_of_lane : (script : Plan) (past : List Entry) (j : ℕ) → IsOfLane 0 (source_waiting script past (Job j))
job_of_lane script past j = by_order (nat_lt j (length script.jobs)) (may_enter script past j) (job_post_of past j)
  where
    by_order : (declared may : Bool) (o : Option JobPosted) → IsOfLane 0 (cond declared (cond may (option_map (job_candidate script past j) o) None) None)
    by_order false may o = tt
    by_order true false o = tt
    by_order true true None = tt
    by_order true true (Some p) = refl

-- whose queues are made for each job
pub job_made : (script : Plan) (lanes : List Lane) (best : Bool) (j : ℕ) → AreRoomy script lanes → j < length script.jobs
    → IsMadeFor (queue_of lanes 0 best) (Job j)
job_made script lanes best j roomy declared = rw (roomy.jobs 0 best (omega arith)) declared

-- it is given its place there
job_given : (script : Plan) (lanes : List Lane) (j : ℕ) (before now : Option Candidate) (rank : Option Rank) → AreRoomy script lanes → j < length script.jobs
    → IsOfLane 0 before → IsOfLane 0 now → rank ≡ option_map rank_as now → IsGiven script lanes 0 (Job j) before now rank
job_given script lanes j before now rank roomy declared was is rank_is = record {
  there = omega arith;
  made = λ best. job_made script lanes best j roomy declared;
  was = was;
  is = is;
  rank_is = rank_is;
}

-- so the queues hold what waits in the later past
pub hold_at_job : (script : Plan) (past later : List Entry) (lanes : List Lane) (j : ℕ) (job : PoolJob) (phase : Phase) → HoldWaiting script past lanes
    → j < length script.jobs → OthersKept script past later (Job j) → rank_in phase job ≡ option_map rank_as (job_waiting script later j)
    → HoldWaiting script later (with_job_place phase lanes j job)
hold_at_job script past later lanes j job phase hold declared others rank =
    hold_given script (source_waiting script past) (source_waiting script later) lanes 0 (Job j) (rank_in phase job)
    (job_given script lanes j _ _ (rank_in phase job) hold.roomy declared (job_of_lane script past j) (job_of_lane script later j)
    (rank ∙ ap (option_map rank_as) (sym (job_in script later j declared)))) others hold

-- Each job, one by one.

-- what waits where the sequences, and so many of the jobs, wait as in a later past, and the others as before
abbrev waiting_from : Plan → List Entry → List Entry → ℕ → TaskSource → Option Candidate
waiting_from script past later n (Sequence s) = source_waiting script later (Sequence s)
waiting_from script past later n (Job j) = if nat_lt j n then source_waiting script later (Job j) else source_waiting script past (Job j)

-- so many jobs in their places
placed_by : (script : Plan) (past later : List Entry) (phase : Phase) (jobs : List PoolJob) (lanes : List Lane) (n : ℕ) → n ≤ length script.jobs
    → ((j : ℕ) → j < length script.jobs → rank_in phase (job_at jobs j) ≡ option_map rank_as (job_waiting script later j))
    → HoldBy script (waiting_from script past later 0) lanes → HoldBy script (waiting_from script past later n) (jobs_placed phase jobs lanes n)
placed_by script past later phase jobs lanes zero fits are start = start
placed_by script past later phase jobs lanes (suc n) fits are start =
    let declared : n < length script.jobs = omega (arith, fits) in
    let below = placed_by script past later phase jobs lanes n (omega (arith, fits)) are start in
    hold_given script (waiting_from script past later n) (waiting_from script past later (suc n)) (jobs_placed phase jobs lanes n) 0 (Job n)
    (rank_in phase (job_at jobs n))
    (job_given script (jobs_placed phase jobs lanes n) n _ _ (rank_in phase (job_at jobs n)) below.roomy declared
    (of_lane (nat_lt n n)) (of_lane (nat_lt n (suc n)))
    (are n declared ∙ ap (option_map rank_as) (sym (job_in script later n declared)) ∙ rw (lt-ltb n (suc n) (omega arith)) refl)) others below
  where
    of_lane : (b : Bool) → IsOfLane 0 (cond b (source_waiting script later (Job n)) (source_waiting script past (Job n)))
    of_lane true = job_of_lane script later n
    of_lane false = job_of_lane script past n

    others : (source : TaskSource) → (source ≡ Job n → ⊥) → waiting_from script past later (suc n) source ≡ waiting_from script past later n source
    others (Sequence s) another = refl
    others (Job j) another = ap (λ b. cond b (source_waiting script later (Job j)) (source_waiting script past (Job j)))
        (elim (cases_lt j n) [
          | inl less ↦ lt-ltb j (suc n) (omega (arith, less)) ∙ sym (lt-ltb j n less)
          | inr more ↦ elim (cases_eq j n) [
            | inl same ↦ absurd (another cc)
            | inr differs ↦ le-ltb j (suc n) (omega (arith, more, differs)) ∙ sym (le-ltb j n more)
          ]
        ])

-- where the sequences have their places, and then all jobs are given theirs, the queues hold what waits in the later past
pub hold_all_jobs : (script : Plan) (past later : List Entry) (phase : Phase) (jobs : List PoolJob) (lanes : List Lane)
    (before : TaskSource → Option Candidate) → HoldBy script before lanes → ((s : ℕ) → source_waiting script later (Sequence s) ≡ before (Sequence s))
    → ((j : ℕ) → source_waiting script past (Job j) ≡ before (Job j))
    → ((j : ℕ) → j < length script.jobs → rank_in phase (job_at jobs j) ≡ option_map rank_as (job_waiting script later j))
    → HoldWaiting script later (jobs_placed phase jobs lanes (length script.jobs))
hold_all_jobs script past later phase jobs lanes before hold sequences waiting_jobs are =
    hold_same script (waiting_from script past later (length script.jobs)) (source_waiting script later) _ all
    (placed_by script past later phase jobs lanes (length script.jobs) (omega arith) are
    (hold_same script before (waiting_from script past later 0) lanes start hold))
  where
    start : (source : TaskSource) → waiting_from script past later 0 source ≡ before source
    start (Sequence s) = sequences s
    start (Job j) = rw (le-ltb j 0 (omega arith)) (waiting_jobs j)

    all : (source : TaskSource) → source_waiting script later source ≡ waiting_from script past later (length script.jobs) source
    all (Sequence s) = refl
    all (Job j) = by_order (nat_lt j (length script.jobs))
      where
        by_order : (declared : Bool) → cond declared (job_waiting script later j) None
            ≡ cond declared (cond declared (job_waiting script later j) None) (cond declared (job_waiting script past j) None)
        by_order true = refl
        by_order false = refl

-- an entry of one job leaves the sequences and the other jobs as they wait
pub others_wait : (script : Plan) (past : List Entry) (e : Entry) (job : ℕ) → moves_sequence_waiting e.kind ≡ false
    → ((x : ℕ) → (job == x) ≡ false → JobKept script past (past ++ e ∷ []) x) → OthersKept script past (past ++ e ∷ []) (Job job)
others_wait script past e job still kept (Sequence s) another = rw (sequence_waiting_same script past e s still) refl
others_wait script past e job still kept (Job x) another =
    rw (job_waiting_kept script past (past ++ e ∷ []) x (kept x (ne_eqb job x (λ same. another cc)))) refl

-- an entry of no job leaves the jobs as they wait
pub jobs_wait : (script : Plan) (past : List Entry) (e : Entry) (j : ℕ) → moves_jobs e.kind ≡ false
    → source_waiting script (past ++ e ∷ []) (Job j) ≡ source_waiting script past (Job j)
jobs_wait script past e j quiet = rw (job_waiting_kept script past (past ++ e ∷ []) j (job_same script past e j quiet)) refl

-- the lanes where some jobs have got their places are as many, and their queues are made for as many jobs
placed_shape : (phase : Phase) (jobs : List PoolJob) (lanes : List Lane) (n : ℕ) (best : Bool)
    → (length (jobs_placed phase jobs lanes n) ≡ length lanes)
    × ((queue_of (jobs_placed phase jobs lanes n) 0 best).jobs ≡ (queue_of lanes 0 best).jobs)
placed_shape phase jobs lanes zero best = (refl, refl)
placed_shape phase jobs lanes (suc n) best =
    let was = placed_shape phase jobs lanes n best in
    let placed = jobs_placed phase jobs lanes n in
    (length-set placed 0 _ ∙ was.0, (shape_kept placed 0 (Job n) (rank_in phase (job_at jobs n)) 0 best).1 ∙ was.1)

-- so each job has its place there
pub still_placed : (before now : Pool) (n j : ℕ) → HaveJobPlaces before → now ≡ jobs_refreshed_below before n → j < length before.jobs.items
    → HasJobPlace now j
still_placed before now n j places is there =
    let place = places j there in
    let shape = placed_shape before.tracker.phase before.jobs.items before.lanes n in
    rw is (record { there = there; lane_there = rw (shape true).0 place.lane_there; made = λ best. rw (shape best).1 (place.made best) })
