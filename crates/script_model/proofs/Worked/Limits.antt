-- Lines that pass a limit, and lines that just keep it, behind what many lines gave.
use Rattle.std.proofs.Common.{ℕ, false, List, [], ◌∷◌, refl}
use Rattle.std.specs.Prelude.{codes, replicate}
use Rattle.task_base.specs.Plan.{JobPlan}
use Rattle.task_traits.specs.declared.traits.Traits.{Traits}
use Rattle.task_traits.specs.declared.traits.Priority.TheVariants.{UserVisible}
use Rattle.task_traits.specs.declared.traits.Behaviour.TheVariants.{SkipOnShutdown}
use Rattle.task_base.specs.declared.step.Step.TheVariants.{Add, Unblock}
use Rattle.task_base.specs.declared.script.RunnerKind.TheVariants.{Parallel}
use Rattle.task_base.specs.declared.script.Action.TheVariants.{Tick, StartJob, Shutdown}
use Rattle.script_model.specs.Reasons.{shutdown_twice, too_many}
use Rattle.script_model.specs.Draft.{Draft, empty_draft}
use Rattle.script_model.proofs.Worked.Tables.{opened, RowBehind, bad_behind, good_behind, AreRightBehind}

-- so many tasks of one step
abbrev with_tasks : ℕ → Draft
with_tasks n = record empty_draft { tasks = replicate n (Add 1 ∷ []) }

-- one task of so many steps
abbrev with_steps : ℕ → Draft
with_steps n = record empty_draft { tasks = replicate n (Add 1) ∷ [] }

-- a job of so many items and steps
abbrev job_of : ℕ → ℕ → JobPlan
job_of items steps = record { priority = UserVisible; behaviour = SkipOnShutdown; items = items; cap = 1; steps = replicate steps (Add 1) }

-- so many jobs of 65,536 items, as many as one line declares
abbrev with_items : ℕ → Draft
with_items n = record empty_draft { jobs = replicate n (job_of 65536 0) }

-- so many jobs of no items
abbrev with_jobs : ℕ → Draft
with_jobs n = record empty_draft { jobs = replicate n (job_of 0 0) }

-- a runner, so many times
abbrev with_runners : ℕ → Draft
with_runners n =
    let traits : Traits = record { priority = UserVisible; behaviour = SkipOnShutdown; may_block = false } in
    record empty_draft { runners = replicate n (record { kind = Parallel; traits = traits }) }

-- a main queue, so many times
abbrev with_queues : ℕ → Draft
with_queues n = record empty_draft { queues = replicate n (record { class = 0; voters = 0 }) }

-- one tick line of so many readings
abbrev with_ticks : ℕ → Draft
with_ticks n = record empty_draft { actions = Tick n ∷ [] }

-- 524,288 entries for the items of four jobs, 262,144 ticks, and two and so many more for a task
abbrev with_entries : ℕ → Draft
with_entries n = record empty_draft {
  tasks = replicate n Unblock ∷ [];
  jobs = (with_items 4).jobs;
  actions = Tick 262144 ∷ [];
}

-- reason 14: too_many, one more than a limit, and as many as it allows. Task lines 0 to 65536 are one task too many:
-- that line is checked behind the draft that the 65,536 lines before it give, since to compute that draft line by line
-- takes too long here. So are the others, as line 9.
abbrev too_many_lines : List RowBehind
too_many_lines =
    bad_behind 65537 (with_tasks 65536) (codes "task 65536 add 1") too_many  -- task too many
    ∷ good_behind 9 (with_tasks 65535) (codes "task 65535 add 1")  -- last task
    ∷ bad_behind 9 (with_runners 4096) (codes "runner 4096 parallel user_visible skip") too_many  -- runner too many
    ∷ good_behind 9 (with_runners 4095) (codes "runner 4095 parallel user_visible skip")  -- last runner
    ∷ bad_behind 9 (with_queues 256) (codes "queue 256 0 0") too_many  -- queue too many
    ∷ bad_behind 9 (with_jobs 256) (codes "job 256 user_visible skip 0 1") too_many  -- job too many
    ∷ bad_behind 9 (with_steps 262144) (codes "task 1 add 1") too_many  -- step too many
    ∷ bad_behind 9 (with_steps 262144) (codes "job 0 user_visible skip 0 1 add 1") too_many  -- step of job too many
    ∷ good_behind 9 (with_steps 262144) (codes "task 1")  -- no step more
    ∷ bad_behind 9 (with_items 4) (codes "job 4 user_visible skip 1 1") too_many  -- item too many
    ∷ good_behind 9 (with_items 4) (codes "job 4 user_visible skip 0 1")  -- no item more
    ∷ bad_behind 9 (with_ticks 262143) (codes "tick 2") too_many  -- tick too many
    ∷ good_behind 9 (with_ticks 262143) (codes "tick 1")  -- last tick
    ∷ bad_behind 9 (with_entries 262142) (codes "flush") too_many  -- entry too many
    ∷ good_behind 9 (with_entries 262141) (codes "flush")  -- last entry
    ∷ bad_behind 9 (record (with_entries 262142) { runners = (with_runners 1).runners }) (codes "reprio 0 user_visible") too_many  -- change too many
    ∷ good_behind 9 (record (with_entries 262141) { runners = (with_runners 1).runners }) (codes "reprio 0 user_visible")  -- last change
    ∷ bad_behind 9 (with_entries 262141) (codes "shutdown") too_many  -- shutdown takes two
    -- steps of jobs count
    ∷ bad_behind 9 (record (with_steps 131072) { jobs = job_of 0 131072 ∷ [] }) (codes "task 1 add 1") too_many
    ∷ bad_behind 9 (record (with_entries 262140) { actions = Tick 262144 ∷ Shutdown ∷ [] }) (codes "shutdown") shutdown_twice  -- shutdown twice before too many
    ∷ bad_behind 9 (record (with_entries 262140) { actions = Tick 262144 ∷ StartJob 0 ∷ [] }) (codes "cancel 0") too_many  -- cancel takes two
    ∷ good_behind 9 (record (with_entries 262139) { actions = Tick 262144 ∷ StartJob 0 ∷ [] }) (codes "cancel 0")  -- last cancel
    ∷ []

too_many_lines_right : AreRightBehind too_many_lines
unfolding opened
too_many_lines_right = refl
