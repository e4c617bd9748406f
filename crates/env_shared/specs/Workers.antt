-- The work of jobs, beside the turn.
use Rattle.std.specs.Prelude.{List, map}
use Rattle.task_base.specs.Plan.{Plan}
use Rattle.task_base.specs.declared.step.Step.{Step}

-- the steps of each job
abbrev pub steps_of_jobs : Plan → List (List Step)
steps_of_jobs script = map (λ job. job.steps) script.jobs
