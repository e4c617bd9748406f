-- The machines of a script are those of its open plan before anything is done: what they stand for then reads what is declared,
-- and neither what the driver does nor whether the plan is open.
-- Cited by `LiveCore::fresh`.
use Rattle.std.proofs.Common.{◌≡◌, ℕ, suc, ◌<◌, ◌≤◌, ◌^◌, List, [], ◌∷◌, length, length-append, refl, arith, inl, inr, None, Some, replicate}
use Rattle.std.specs.Prelude.{slice_get}
use Rattle.std.specs.List.{AllByRecursion, filter_map}
use Rattle.std.proofs.lemmas.List.Concat.{length-flat_map}
use Rattle.std.proofs.lemmas.List.Sums.{sum_by-le-sum_by}
use Rattle.list_laws.proofs.Elements.{AllByRecursion-append, AllByRecursion-map}
use Rattle.task_base.specs.Plan.{Plan, opened}
use Rattle.task_base.specs.declared.step.Step.{Step}
use Rattle.task_base.specs.declared.step.Step.TheVariants as steps
use Rattle.script_model.specs.Laws.Sound.{IsQueueWithin as IsQueueSound, IsSound, IsStepSound}
use Rattle.task_model.specs.Blockers.{block_part, skip_part}
use Rattle.task_model.specs.Capacity.{priority_of, taken_with}
use Rattle.task_model.specs.Cells.{cell_of}
use Rattle.task_model.specs.Jobs.{may_enter}
use Rattle.task_model.specs.Seats.{inside, running, runs_sequence}
use Rattle.task_model.specs.Sequences.{eligible, head_of}
use Rattle.pool_core.proofs.Pasts.{past_at_start}
use Rattle.pool_core.specs.Holdings.{held_in}
use Rattle.pool_core.specs.Listings.{IsCovered}
use Rattle.pool_core.specs.StandsFor.{StandsFor as PoolStandsFor}
use Rattle.pool_core.specs.declared.pool.Pool.{Pool}
use Rattle.sequence_manager.specs.Pasts.{IsMainScript, IsQueueWithin}
use Rattle.sequence_manager.specs.Postings.{MainPosting, main_postings, posting_of_step, postings_of_tasks}
use Rattle.sequence_manager.specs.Queues.{IsTable}
use Rattle.live_core.proofs.Kept.{repeats}
use Rattle.live_core.specs.StandsFor.{cell_at}

-- ---- the main queues

-- what is posted is posted to a queue of the script
abbrev IsThere : Plan → MainPosting → Type 0
IsThere script p = p.queue < length script.queues

steps_there : (script : Plan) (task : ℕ) (made : List Step) → AllByRecursion (IsStepSound script task) made
    → AllByRecursion (IsThere script) (filter_map posting_of_step made)
steps_there script task [] sound = tt
steps_there script task (steps.Main posted queue delay ∷ made) sound = (sound.0.1.queue_declared, steps_there script task made sound.1)
steps_there script task (step ∷ made) sound = steps_there script task made sound.1

tasks_there : (script : Plan) (tasks : List (List Step))
    → ((task : ℕ) (made : List Step) → slice_get tasks task ≡ Some made → AllByRecursion (IsThere script) (filter_map posting_of_step made))
    → AllByRecursion (IsThere script) (postings_of_tasks tasks)
tasks_there script [] each = tt
tasks_there script (made ∷ tasks) each = AllByRecursion-append (IsThere script) (filter_map posting_of_step made) (postings_of_tasks tasks)
    (each 0 made refl) (tasks_there script tasks (λ task other is. each (suc task) other is))

steps_few : (made : List Step) → length (filter_map posting_of_step made) ≤ length made
steps_few [] = omega arith
steps_few (steps.Main task queue delay ∷ made) = omega (arith, steps_few made)
steps_few (step ∷ made) = omega (arith, steps_few made)

postings_few : (script : Plan) → IsSound script → length (main_postings (opened script)) < 2 ^ 31
unfolding main_postings
postings_few script plan = omega (
  arith,
  length-append (postings_of_tasks script.tasks) [],
  length-flat_map (λ (made : List Step). filter_map posting_of_step made) script.tasks,
  sum_by-le-sum_by (λ (made : List Step). length (filter_map posting_of_step made)) (λ (made : List Step). length made) script.tasks steps_few,
  plan.limits.few_steps,
)

postings_there : (script : Plan) → IsSound script → AllByRecursion (IsThere script) (main_postings (opened script))
unfolding main_postings
postings_there script plan = AllByRecursion-append (IsThere script) (postings_of_tasks script.tasks) []
    (tasks_there script script.tasks (λ task made is. steps_there script task made (plan.declarations.tasks_sound task made is).steps_sound)) tt

pub main_script : (script : Plan) → IsSound script → IsMainScript (opened script)
main_script script plan = record {
  queues_fit = plan.limits.few_queues;
  queues_within = AllByRecursion-map IsQueueSound IsQueueWithin script.queues
      (λ q within. record { class_fits = within.class_within; voters_fit = within.voters_within }) plan.declarations.queues_within;
  postings_fit = postings_few script plan;
  homes_there = postings_there script plan;
  tasks_fit = λ is_open. omega (arith, plan.limits.few_tasks);
}

-- ---- the pool

covered : (script : Plan) (pool : Pool) (s : ℕ) → IsCovered script pool.postings.items pool.sequences pool.lists s
    → IsCovered (opened script) pool.postings.items pool.sequences pool.lists s
covered script pool s (inl empty) = inl empty
covered script pool s (inr (inl owned)) = inr (inl owned)
covered script pool s (inr (inr of)) = inr (inr (record {
  list = of.list;
  task = of.task;
  runner = of.runner;
  listed = of.listed;
  posted = of.posted;
  sequence_is = of.sequence_is;
}))

pub pool_opened : (script : Plan) (pool : Pool) → PoolStandsFor script [] pool → PoolStandsFor (opened script) [] pool
unfolding block_part skip_part priority_of taken_with cell_of may_enter inside runs_sequence eligible head_of held_in
pool_opened script pool stands = record {
  script_fits = record {
    workers_fit = stands.script_fits.workers_fit;
    runners_fit = stands.script_fits.runners_fit;
    tasks_fit = stands.script_fits.tasks_fit;
    jobs_fit = stands.script_fits.jobs_fit;
    seats_fit = stands.script_fits.seats_fit;
  };
  past_fits = past_at_start (opened script);
  runners = stands.runners;
  priorities = record { all = stands.priorities.all; each = stands.priorities.each };
  lines = record { all = stands.lines.all; tasks = stands.lines.tasks; cells = stands.lines.cells };
  queues = record {
    roomy = record {
      all = stands.queues.roomy.all;
      sequences = stands.queues.roomy.sequences;
      jobs = stands.queues.roomy.jobs;
      ranks = stands.queues.roomy.ranks;
    };
    places = stands.queues.places;
  };
  listed = record {
    apart = stands.listed.apart;
    lines = stands.listed.lines;
    tasks = stands.listed.tasks;
    owned = stands.listed.owned;
    covered = λ s. covered script pool s (stands.listed.covered s);
  };
  representatives = stands.representatives;
  groups = record {
    foreground = record {
      limit_is = stands.groups.foreground.limit_is;
      best_limit_is = stands.groups.foreground.best_limit_is;
      threshold_is = stands.groups.foreground.threshold_is;
      moment_is = stands.groups.foreground.moment_is;
      places = stands.groups.foreground.places;
      seats = stands.groups.foreground.seats;
    };
    background = record {
      limit_is = stands.groups.background.limit_is;
      best_limit_is = stands.groups.background.best_limit_is;
      threshold_is = stands.groups.background.threshold_is;
      moment_is = stands.groups.background.moment_is;
      places = stands.groups.background.places;
      seats = stands.groups.background.seats;
    };
  };
  delayed = stands.delayed;
  tracker = stands.tracker;
  postings = record { all = stands.postings.all; known = stands.postings.known; unknown = stands.postings.unknown };
  seats = record { all = stands.seats.all; runs = stands.seats.runs };
  jobs = record { all = stands.jobs.all; each = stands.jobs.each };
  holders = record { all = stands.holders.all; holds = stands.holders.holds };
  moment = stands.moment;
  room = stands.room;
}

-- ---- the cells

pub cells_at_start : (count : ℕ) → IsTable (cell_at []) count (replicate count None)
unfolding running
cells_at_start count = repeats (cell_at []) count None (λ seat. refl)
