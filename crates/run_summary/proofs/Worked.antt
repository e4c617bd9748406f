-- Logs that were worked out by hand, and what they add up to.
use Rattle.std.proofs.Common.{◌≡◌, true, false, List, [], ◌∷◌, Some, None, refl}
use Rattle.task_base.specs.Plan.{Plan}
use Rattle.task_base.specs.declared.entry.Entry.{Entry}
use Rattle.task_base.specs.declared.entry.JobReply.TheVariants.{Finished}
use Rattle.task_base.specs.declared.entry.Kind.{Kind}
use Rattle.task_base.specs.declared.entry.Kind.TheVariants as kinds
use Rattle.task_base.specs.declared.script.Action.TheVariants as actions
use Rattle.task_base.specs.declared.script.Runner.{Runner}
use Rattle.task_base.specs.declared.script.RunnerKind.TheVariants.{Sequenced}
use Rattle.task_base.specs.declared.step.Step.TheVariants.{Add, Set}
use Rattle.task_traits.specs.declared.traits.Behaviour.TheVariants.{SkipOnShutdown}
use Rattle.task_traits.specs.declared.traits.Priority.TheVariants.{UserVisible}
use Rattle.task_base.specs.Entries.{entry_by as by}
use Rattle.task_model.specs.Past.{fold_past}
use Rattle.task_model.specs.Seats.{running}
use Rattle.task_model.specs.Cells.{cell_of, main_cell_of}
use Rattle.task_script.specs.Generated.{numbers_behind, generated}
use Rattle.run_summary.specs.Summary.{summary_of}

-- of the generated script of two tasks: the driver runs the main task and does the whole job, and then a worker runs the
-- task of the pool
abbrev two_tasks_log : List Entry
two_tasks_log =
    by 0 (kinds.JobPost 0 true) ∷
    by 0 (kinds.Post 0 2 0 true) ∷
    by 0 (kinds.Main 1 0 0 true) ∷
    by 0 (kinds.MainTake 1 0 0) ∷
    by 0 (kinds.MainEnd 1 222) ∷
    by 0 kinds.MainNone ∷
    by 0 (kinds.JobTake 0 0 0) ∷
    by 0 (kinds.JobStep 0 0 0 1 (Some 1)) ∷
    by 0 (kinds.JobStep 0 0 1 4 (Some 2)) ∷
    by 0 (kinds.JobStep 0 0 2 7 (Some 3)) ∷
    by 0 (kinds.JobStep 0 0 3 10 (Some 4)) ∷
    by 0 (kinds.JobStep 0 0 4 13 (Some 5)) ∷
    by 0 (kinds.JobStep 0 0 5 16 (Some 6)) ∷
    by 0 (kinds.JobStep 0 0 6 19 (Some 7)) ∷
    by 0 (kinds.JobStep 0 0 7 22 (Some 8)) ∷
    by 0 (kinds.JobStep 0 0 8 25 (Some 9)) ∷
    by 0 (kinds.JobStep 0 0 9 28 (Some 10)) ∷
    by 0 (kinds.JobStep 0 0 10 31 (Some 11)) ∷
    by 0 (kinds.JobStep 0 0 11 34 (Some 12)) ∷
    by 0 (kinds.JobStep 0 0 12 37 (Some 13)) ∷
    by 0 (kinds.JobStep 0 0 13 40 (Some 14)) ∷
    by 0 (kinds.JobStep 0 0 14 43 (Some 15)) ∷
    by 0 (kinds.JobStep 0 0 15 46 None) ∷
    by 0 (kinds.Joined 0 (Finished 376)) ∷
    by 1 (kinds.Take 0 2 0) ∷
    by 1 (kinds.End 0 123) ∷
    by 0 kinds.Idle ∷
    []

two_tasks_sums : summary_of (generated 0 2) two_tasks_log ≡ record { tasks = 2; items = 16; cells = 345; sums = 376 }
unfolding fold_past running cell_of main_cell_of numbers_behind generated summary_of
two_tasks_sums = refl

-- a runner whose tasks are one sequence
abbrev sequenced : Runner
sequenced = record { kind = Sequenced; traits = record { priority = UserVisible; behaviour = SkipOnShutdown; may_block = false } }

-- a script whose last task is posted behind a shutdown, which refuses it
abbrev refused_plan : Plan
refused_plan = record {
  workers = 1;
  foreground = 4;
  foreground_best = 2;
  background = 0;
  threshold = 1000000;
  runners = sequenced ∷ sequenced ∷ [];
  queues = [];
  tasks = (Set 18446744073709551615 ∷ []) ∷ (Add 3 ∷ []) ∷ (Add 5 ∷ []) ∷ [];
  jobs = [];
  actions = actions.Post 0 0 0 ∷ actions.Post 1 1 0 ∷ actions.Flush ∷ actions.Shutdown ∷ actions.Post 2 0 0 ∷ [];
  is_open = false;
}

-- a worker runs two tasks, and the third one is refused
abbrev refused_log : List Entry
refused_log =
    by 0 (kinds.Post 0 0 0 true) ∷
    by 0 (kinds.Post 1 1 0 true) ∷
    by 1 (kinds.Take 0 0 0) ∷
    by 1 (kinds.End 0 18446744073709551615) ∷
    by 1 (kinds.Take 1 1 0) ∷
    by 1 (kinds.End 1 3) ∷
    by 0 kinds.Idle ∷
    by 0 kinds.Shutdown ∷
    by 0 kinds.Done ∷
    by 0 (kinds.Post 2 0 0 false) ∷
    []

-- the refused task counts nowhere, and the sum of the cells is modulo 2^64
refused_sums : summary_of refused_plan refused_log ≡ record { tasks = 2; items = 0; cells = 2; sums = 0 }
unfolding fold_past running cell_of main_cell_of summary_of
refused_sums = refl
