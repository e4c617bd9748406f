-- The pool of a history that has not begun.
-- Cited by `Pool::new`.
use Rattle.pool_core.proofs.Listed.{apart_empty}
use Rattle.pool_core.specs.Listings.{AreListed}
use Rattle.pool_core.specs.TaskLists.{IsAmong, Lists, chain, list_of, no_line}
use Rattle.pool_core.specs.declared.task_lists.TaskLine.{TaskLine}
use Rattle.pool_core.specs.PoolJobs.{fresh_job}
use Rattle.pool_core.proofs.Jobs.JobTables.{holders_at_start}
use Rattle.pool_core.specs.Jobs.{AreJobs, job_as}
use Rattle.std.proofs.lemmas.Option.{slice_get-map}
use Rattle.task_model.specs.Jobs.{claimed, done, is_cancelled, job_post_of, job_sum, may_enter}
use Rattle.pool_core.proofs.Jobs.HeldItems.{held_at_start}
use Rattle.task_model.specs.Sources.{Candidate}
use Rattle.pool_core.proofs.Sources.Following.{hold_from}
use Rattle.pool_core.proofs.Works.GroupGrowth.{groups_at_start}
use Rattle.pool_core.proofs.LineGrowth.{lines_at_start}
use Rattle.pool_core.proofs.Lists.{get_there, replicated}
use Rattle.pool_core.proofs.Pasts.{past_at_start}
use Rattle.pool_core.proofs.Tables.{postings_at_start, priorities_at_start, seats_at_start}
use Rattle.pool_core.proofs.Tracking.{tracked_at_start}
use Rattle.pool_core.specs.Groups.{empty_groups}
use Rattle.pool_core.specs.Pasts.{IsPoolScript}
use Rattle.pool_core.specs.Queues.{AreRoomy, HoldWaiting, belongs, empty_lane, empty_lanes, empty_queue, is_representative}
use Rattle.pool_core.specs.Queues.{job_room, no_lane, queue_in, queue_of, rank_as, sequence_room}
use Rattle.pool_core.specs.StandsFor.{StandsFor}
use Rattle.pool_core.specs.State.{candidate_by, rank_by, runner_of, standing}
use Rattle.pool_core.specs.declared.pool.Pool.{Pool}
use Rattle.pool_core.specs.declared.lanes.Lane.{Lane}
use Rattle.pool_core.specs.declared.posting.Posting.{Posting}
use Rattle.pool_laws.specs.Choice.{source_waiting}
use Rattle.sequence_queue.specs.Ranked.{IsMadeFor, number_in, rank_of}
use Rattle.std.proofs.Common.{Bool, List, None, Option, Some, [], ap, arith, cond, false, inl, inr, length, refl, subst, sym, true, ℕ, ◌+◌, ◌<◌, ◌∙◌, ◌≡◌}
use Rattle.std.proofs.lemmas.List.{get_or_past, length-map, length-replicate}
use Rattle.std.proofs.lemmas.List.FromFn.{get_or-map-range_with_len, length-map-range_with_len}
use Rattle.list_laws.specs.Lists.{keep}
use Rattle.std.proofs.lemmas.Bool.{cases_lt, false≢true}
use Rattle.std.specs.Option.{option_map}
use Rattle.std.specs.Prelude.{filter, is_some, map, nat_lt, option_and_then, replicate, slice_get, slice_index_or}
use Rattle.task_base.specs.Plan.{JobPlan, Plan}
use Rattle.task_base.specs.Runners.{sequence_count}
use Rattle.task_base.specs.declared.source.TaskSource.{TaskSource}
use Rattle.task_base.specs.declared.source.TaskSource.TheVariants.{Job, Sequence}
use Rattle.task_model.specs.Past.{fold_past}
use Rattle.task_model.specs.Seats.{worker_seats}
use Rattle.task_model.specs.Posts.{posts}
use Rattle.task_model.specs.Time.{now_of}
use Rattle.task_runners.specs.Table.{table_of}
use Rattle.task_sequence.specs.Sequences.{Held, fresh, sequence_at}
use Rattle.task_traits.specs.declared.traits.Priority.{Priority}
use Rattle.task_base.specs.declared.policy.Policy.TheVariants as policies
use Rattle.task_traits.specs.declared.phase.Phase.TheVariants as phases

-- each queue of the empty lanes is empty
empty_queue_of : (script : Plan) (lane : ℕ) (best : Bool) → lane < script.workers + 1
    → queue_of (empty_lanes script) lane best ≡ empty_queue (sequence_room script lane) (job_room script lane)
empty_queue_of script lane best less =
    ap (queue_in best) (get_or-map-range_with_len (empty_lane script) 0 (script.workers + 1) lane lane no_lane less (omega arith)) ∙ by_best best
  where
    by_best : (b : Bool) → queue_in b (empty_lane script lane) ≡ empty_queue (sequence_room script lane) (job_room script lane)
    by_best true = refl
    by_best false = refl

empty_lanes_roomy : (script : Plan) → AreRoomy script (empty_lanes script)
empty_lanes_roomy script = record {
  all = length-map-range_with_len (empty_lane script) 0 (script.workers + 1);
  sequences = λ lane best less. ap (λ q. q.sequences) (empty_queue_of script lane best less);
  jobs = λ lane best less. ap (λ q. q.jobs) (empty_queue_of script lane best less);
  ranks = λ lane best less. ap (λ q. length q.ranks) (empty_queue_of script lane best less)
      ∙ length-replicate (sequence_room script lane + job_room script lane) None;
}

-- no job was posted
no_job_waits : (script : Plan) (j : ℕ) → source_waiting script [] (Job j) ≡ None
unfolding job_post_of fold_past
no_job_waits script j = by_order (nat_lt j (length script.jobs)) (may_enter script [] j)
  where
    by_order : (declared may : Bool) → ◌≡◌ {A = Option Candidate} (cond declared (cond may None None) None) None
    by_order false may = refl
    by_order true true = refl
    by_order true false = refl

-- the jobs at the start
jobs_at_start : (script : Plan) → AreJobs script [] (map fresh_job script.jobs)
unfolding job_post_of is_cancelled claimed done job_sum fold_past
jobs_at_start script = record {
  all = length-map script.jobs fresh_job;
  each = λ j less. slice_get-map fresh_job script.jobs j ∙ at_each j (slice_get script.jobs j) refl (get_there script.jobs j less);
}
  where
    at_each : (j : ℕ) (o : Option JobPlan) → slice_get script.jobs j ≡ o → is_some (slice_get script.jobs j) ≡ true
        → option_map fresh_job o ≡ Some (job_as script [] j)
    at_each j None is there = absurd (false≢true (sym (ap is_some is) ∙ there))
    at_each j (Some job) is there = rw (is, held_at_start script j) refl

-- a queue that is made for a source is one of those that there are
lane_there : (lanes : List Lane) (lane : ℕ) (best : Bool) (source : TaskSource) → IsMadeFor (queue_of lanes lane best) source → lane < length lanes
lane_there lanes lane best source made = elim (cases_lt lane (length lanes)) [
  | inl there ↦ there
  | inr past ↦ absurd (none best source (subst (λ l. IsMadeFor (queue_in best l) source) (get_or_past lanes lane no_lane past) made))
]
  where
    none : (b : Bool) (source : TaskSource) → IsMadeFor (queue_in b no_lane) source → ⊥
    none true (Sequence s) made = omega (arith, made)
    none true (Job j) made = omega (arith, made)
    none false (Sequence s) made = omega (arith, made)
    none false (Job j) made = omega (arith, made)

-- nothing waits
hold_at_start : (script : Plan) (held : Held) → held.sequences ≡ replicate (sequence_count script) fresh → IsPoolScript script
    → HoldWaiting script [] (empty_lanes script)
hold_at_start script held fresh_all limits = hold_from script [] [] priorities postings held (empty_lanes script)
    (record {
      fits = past_at_start script;
      lines = lines_at_start script held fresh_all;
      postings_are = postings_at_start script;
      priorities_are = priorities_at_start script;
    }) (λ j. refl) (record {
      roomy = empty_lanes_roomy script;
      places = λ source. record { ranks = λ lane best made. nothing_held lane best source made ∙ sym (no_rank lane best source) };
    })
  where
    priorities : List Priority
    priorities = map (λ r. r.traits.priority) script.runners

    postings : List (Option Posting)
    postings = replicate (length script.tasks) None

    nothing_held : (lane : ℕ) (best : Bool) (source : TaskSource) → IsMadeFor (queue_of (empty_lanes script) lane best) source
        → rank_of (queue_of (empty_lanes script) lane best) source ≡ None
    nothing_held lane best source made =
        let there : lane < script.workers + 1 = omega (arith, lane_there (empty_lanes script) lane best source made, (empty_lanes_roomy script).all) in
        ap (λ q. rank_of q source) (empty_queue_of script lane best there)
        ∙ replicated (sequence_room script lane + job_room script lane) (number_in (sequence_room script lane) source) None

    no_candidate : (source : TaskSource) → standing script [] priorities postings held source ≡ None
    no_candidate (Sequence s) = by_runner (runner_of script postings s)
      where
        by_runner : (o : Option ℕ) → option_and_then (λ r. option_map (candidate_by script s r) (rank_by priorities r (sequence_at held s))) o ≡ None
        by_runner None = refl
        by_runner (Some r) = ap (λ q. option_map (candidate_by script s r) (rank_by priorities r q)) (ap (λ ss. slice_index_or ss s fresh) fresh_all
            ∙ replicated (sequence_count script) s fresh)
    no_candidate (Job j) = no_job_waits script j

    no_rank : (lane : ℕ) (best : Bool) (source : TaskSource)
        → option_map rank_as (keep (belongs lane best) (standing script [] priorities postings held source)) ≡ None
    no_rank lane best source = ap (λ o. option_map rank_as (keep (belongs lane best) o)) (no_candidate source)

-- no task is in a list
listed_at_start : (script : Plan) (held : Held) (lists : Lists) (postings : List (Option Posting)) → held.sequences ≡ replicate (sequence_count script) fresh
    → lists ≡ record { lines = replicate (length script.runners + 1) no_line; after = replicate (length script.tasks) None }
    → AreListed script postings held lists
listed_at_start script held lists postings fresh_all is = record {
  apart = apart_empty lists empty (λ t. ap (λ s. slice_index_or s.after t None) is ∙ replicated (length script.tasks) t None);
  lines = ap (λ s. length s.lines) is ∙ length-replicate (length script.runners + 1) no_line;
  tasks = ap (λ s. length s.after) is ∙ length-replicate (length script.tasks) None;
  owned = λ l t among. absurd (subst (IsAmong t) (empty l) among);
  covered = λ s. inl (ap (λ q. q.tasks) (ap (λ ss. slice_index_or ss s fresh) fresh_all ∙ replicated (sequence_count script) s fresh));
}
  where
    empty : (l : ℕ) → list_of lists l ≡ []
    empty l = ap (λ s. list_of s l) is ∙ ap (λ (q : TaskLine). chain q.count (replicate (length script.tasks) None) q.first)
        (replicated (length script.runners + 1) l no_line)

-- a pool made of new parts stands for a history that has not begun
pub stands_at_start : (script : Plan) (pool : Pool) → IsPoolScript script → pool.runners ≡ table_of script.runners script.background
    → pool.priorities.items ≡ map (λ r. r.traits.priority) script.runners
    → pool.sequences.sequences ≡ replicate (sequence_count script) fresh → pool.sequences.room ≡ length script.tasks → pool.lanes ≡ empty_lanes script
    → pool.lists ≡ record { lines = replicate (length script.runners + 1) no_line; after = replicate (length script.tasks) None }
    → pool.representatives.items ≡ filter (is_representative script) (worker_seats script)
    → pool.groups ≡ empty_groups script → pool.delayed ≡ record { held = []; room = length script.tasks }
    → pool.tracker ≡ record { phase = phases.Running; policy = policies.All; block_items = 0; skip_items = 0 }
    → pool.postings.items ≡ replicate (length script.tasks) None → pool.seats.items ≡ replicate (script.workers + 1) None
    → pool.jobs.items ≡ map fresh_job script.jobs → pool.holders.items ≡ replicate (script.workers + 1) None → pool.moment ≡ 0
    → StandsFor script [] pool
unfolding posts now_of fold_past
stands_at_start script pool fits runners priorities sequences room lanes lists representatives groups delayed tracker postings seats jobs holders moment = record {
  script_fits = fits;
  past_fits = past_at_start script;
  runners = runners;
  priorities = rw priorities (priorities_at_start script);
  lines = lines_at_start script pool.sequences sequences;
  queues = rw lanes (hold_at_start script pool.sequences sequences fits);
  listed = listed_at_start script pool.sequences pool.lists pool.postings.items sequences lists;
  representatives = representatives;
  groups = rw groups (groups_at_start script);
  delayed = delayed;
  tracker = tracker ∙ sym (tracked_at_start script);
  postings = rw postings (postings_at_start script);
  seats = rw seats (seats_at_start script);
  jobs = rw jobs (jobs_at_start script);
  holders = rw holders (holders_at_start script);
  moment = moment;
  room = rw (delayed, room) (omega arith);
}
