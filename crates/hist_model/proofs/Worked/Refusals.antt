-- Histories that are not legal, and the first place that is not allowed.
use Rattle.std.proofs.Common.{true, false, [], ◌∷◌, refl}
use Rattle.std.specs.Prelude.{Some, None}
use Rattle.task_base.specs.Plan.{Plan}
use Rattle.task_base.specs.declared.entry.Kind.TheVariants as kinds
use Rattle.task_base.specs.declared.entry.JobReply.TheVariants.{Finished}
use Rattle.task_base.specs.declared.script.Action.TheVariants as actions
use Rattle.task_base.specs.declared.script.FenceAt.TheVariants.{Now}
use Rattle.task_base.specs.declared.script.RunnerKind.TheVariants.{Parallel, Sequenced, Single}
use Rattle.task_base.specs.declared.step.Scope.TheVariants.{May, Will}
use Rattle.task_base.specs.declared.step.Step.TheVariants as steps
use Rattle.task_traits.specs.declared.traits.Behaviour.TheVariants.{SkipOnShutdown, BlockShutdown}
use Rattle.task_traits.specs.declared.traits.Priority.TheVariants.{BestEffort, UserVisible, UserBlocking}
use Rattle.task_base.specs.Entries.{entry_by as by}
use Rattle.hist_model.proofs.Worked.Rows.{judge, AreRefused, runner_of, queue_of, job_of, at, plain}
use Rattle.hist_model.proofs.Worked.Queues.{starvation_bound_script}
use Rattle.hist_model.proofs.Worked.Pool.{first_run_script}

first_run_refuses : AreRefused first_run_script (
    -- the task was not posted yet
    at 0 (by 1 (kinds.Take 0 0 0) ∷ []) ∷
    -- the driver posts it, and nobody else
    at 0 (by 1 (kinds.Post 0 0 0 true) ∷ []) ∷
    -- nothing forbids the task
    at 0 (by 0 (kinds.Post 0 0 0 false) ∷ []) ∷
    -- the script says no delay
    at 0 (by 0 (kinds.Post 0 0 1 true) ∷ []) ∷
    -- there is one worker
    at 1 (by 0 (kinds.Post 0 0 0 true) ∷ by 2 (kinds.Take 0 0 0) ∷ []) ∷
    -- the driver takes nothing of the pool
    at 1 (by 0 (kinds.Post 0 0 0 true) ∷ by 0 (kinds.Take 0 0 0) ∷ []) ∷
    -- the cell is 0 at first
    at 1 (by 0 (kinds.Post 0 0 0 true) ∷ by 1 (kinds.Take 0 0 1) ∷ []) ∷
    -- 5 added to 0 is 5
    at 2 (by 0 (kinds.Post 0 0 0 true) ∷ by 1 (kinds.Take 0 0 0) ∷ by 1 (kinds.End 0 6) ∷ []) ∷
    -- the task runs
    at 2 (by 0 (kinds.Post 0 0 0 true) ∷ by 1 (kinds.Take 0 0 0) ∷ by 0 kinds.Idle ∷ []) ∷
    -- the task waits
    at 1 (by 0 (kinds.Post 0 0 0 true) ∷ by 0 kinds.Idle ∷ []) ∷
    -- the task was taken
    at 3 (by 0 (kinds.Post 0 0 0 true) ∷ by 1 (kinds.Take 0 0 0) ∷ by 1 (kinds.End 0 5) ∷ by 1 (kinds.Take 0 0 5) ∷ []) ∷
    -- the worker runs nothing
    at 3 (by 0 (kinds.Post 0 0 0 true) ∷ by 1 (kinds.Take 0 0 0) ∷ by 1 (kinds.End 0 5) ∷ by 1 (kinds.End 0 5) ∷ []) ∷
    [])
unfolding judge
first_run_refuses = refl

-- a script that waits for nothing
abbrev unfinished : Plan
unfinished = record plain {
  runners = runner_of Sequenced UserVisible SkipOnShutdown false ∷ [];
  tasks = (steps.Add 5 ∷ []) ∷ [];
  actions = actions.Post 0 0 0 ∷ [];
}

unfinished_refuses : AreRefused unfinished (
    -- the script is finished
    at 1 (by 0 (kinds.Post 0 0 0 true) ∷ by 1 (kinds.Take 0 0 0) ∷ []) ∷
    [])
unfolding judge
unfinished_refuses = refl

-- a skip task and block tasks, and a shutdown
abbrev shutting : Plan
shutting = record plain {
  runners = runner_of Parallel UserVisible SkipOnShutdown false ∷ runner_of Parallel UserVisible BlockShutdown false ∷ [];
  tasks = (steps.Add 1 ∷ []) ∷ (steps.Add 2 ∷ []) ∷ (steps.Add 3 ∷ []) ∷ [];
  actions = actions.Post 0 0 0 ∷ actions.Post 1 1 0 ∷ actions.Shutdown ∷ actions.Post 2 1 0 ∷ [];
}

shutting_refuses : AreRefused shutting (
    -- the block task has not ended
    at 3 (by 0 (kinds.Post 0 0 0 true) ∷ by 0 (kinds.Post 1 1 0 true) ∷ by 0 kinds.Shutdown ∷ by 0 kinds.Done ∷ []) ∷
    -- a skip task does not start any more
    at 3 (by 0 (kinds.Post 0 0 0 true) ∷ by 0 (kinds.Post 1 1 0 true) ∷ by 0 kinds.Shutdown ∷ by 1 (kinds.Take 0 0 0) ∷ []) ∷
    -- the skip task runs, and shutdown waits for its end
    at 4 (by 0 (kinds.Post 0 0 0 true) ∷ by 1 (kinds.Take 0 0 0) ∷ by 0 (kinds.Post 1 1 0 true) ∷ by 0 kinds.Shutdown ∷ by 0 kinds.Done ∷ []) ∷
    -- after the end of shutdown a block task is refused
    at 6 (by 0 (kinds.Post 0 0 0 true) ∷ by 0 (kinds.Post 1 1 0 true) ∷ by 0 kinds.Shutdown ∷ by 1 (kinds.Take 1 1 0) ∷ by 1 (kinds.End 1 2) ∷ by 0 kinds.Done ∷
    by 0 (kinds.Post 2 1 0 true) ∷ []) ∷
    [])
unfolding judge
shutting_refuses = refl

-- two workers, two sequenced tasks, and a parallel one that matters more
abbrev sequenced : Plan
sequenced = record plain {
  workers = 2;
  runners = runner_of Sequenced UserVisible SkipOnShutdown false ∷ runner_of Parallel UserBlocking SkipOnShutdown false ∷ [];
  tasks = (steps.Add 5 ∷ []) ∷ (steps.Mul 3 ∷ steps.Set 18446744073709551615 ∷ steps.Add 2 ∷ []) ∷ [] ∷ [];
  actions = actions.Post 0 0 0 ∷ actions.Post 1 0 0 ∷ actions.Post 2 1 0 ∷ actions.Flush ∷ [];
}

sequenced_refuses : AreRefused sequenced (
    -- the first task of the sequence runs
    at 3 (by 0 (kinds.Post 0 0 0 true) ∷ by 0 (kinds.Post 1 0 0 true) ∷ by 1 (kinds.Take 0 0 0) ∷ by 2 (kinds.Take 1 0 0) ∷ []) ∷
    -- the other task was posted first
    at 2 (by 0 (kinds.Post 0 0 0 true) ∷ by 0 (kinds.Post 1 0 0 true) ∷ by 1 (kinds.Take 1 0 0) ∷ []) ∷
    -- the parallel task matters more
    at 3 (by 0 (kinds.Post 0 0 0 true) ∷ by 0 (kinds.Post 1 0 0 true) ∷ by 0 (kinds.Post 2 1 0 true) ∷ by 1 (kinds.Take 0 0 0) ∷ []) ∷
    -- the other worker runs it
    at 2 (by 0 (kinds.Post 0 0 0 true) ∷ by 1 (kinds.Take 0 0 0) ∷ by 2 (kinds.End 0 5) ∷ []) ∷
    -- the worker runs a task
    at 4 (by 0 (kinds.Post 0 0 0 true) ∷ by 1 (kinds.Take 0 0 0) ∷ by 0 (kinds.Post 1 0 0 true) ∷ by 0 (kinds.Post 2 1 0 true) ∷ by 1 (kinds.Take 2 1 0) ∷ []) ∷
    [])
unfolding judge
sequenced_refuses = refl

-- a delayed task, and two readings of the clock
abbrev delayed : Plan
delayed = record plain {
  runners = runner_of Parallel UserVisible SkipOnShutdown false ∷ [];
  tasks = (steps.Add 1 ∷ []) ∷ [];
  actions = actions.Post 0 0 5 ∷ actions.Tick 2 ∷ actions.Flush ∷ [];
}

delayed_refuses : AreRefused delayed (
    -- the task is not ripe
    at 1 (by 0 (kinds.Post 0 0 5 true) ∷ by 1 (kinds.Take 0 0 0) ∷ []) ∷
    -- the tick is before its ripe moment
    at 2 (by 0 (kinds.Post 0 0 5 true) ∷ by 0 (kinds.Tick 4) ∷ by 1 (kinds.Take 0 0 0) ∷ []) ∷
    -- a moment is at least the last one
    at 2 (by 0 (kinds.Post 0 0 5 true) ∷ by 0 (kinds.Tick 10) ∷ by 0 (kinds.Tick 9) ∷ []) ∷
    -- a moment is at most 2^62
    at 2 (by 0 (kinds.Post 0 0 5 true) ∷ by 0 (kinds.Tick 4611686018427387904) ∷ by 0 (kinds.Tick 4611686018427387905) ∷ []) ∷
    [])
unfolding judge
delayed_refuses = refl

-- a runner that is bound to the second worker
abbrev bound : Plan
bound = record plain {
  workers = 2;
  runners = runner_of (Single 2) UserVisible SkipOnShutdown false ∷ [];
  tasks = (steps.Add 1 ∷ []) ∷ [];
  actions = actions.Post 0 0 0 ∷ actions.Flush ∷ [];
}

bound_refuses : AreRefused bound (
    -- only the second worker takes it
    at 1 (by 0 (kinds.Post 0 0 0 true) ∷ by 1 (kinds.Take 0 0 0) ∷ []) ∷
    [])
unfolding judge
bound_refuses = refl

-- one best-effort task at a time
abbrev best_effort : Plan
best_effort = record plain {
  workers = 2;
  foreground_best = 1;
  runners = runner_of Parallel BestEffort SkipOnShutdown false ∷ [];
  tasks = [] ∷ [] ∷ [];
  actions = actions.Post 0 0 0 ∷ actions.Post 1 0 0 ∷ actions.Flush ∷ [];
}

best_effort_refuses : AreRefused best_effort (
    -- one best-effort task runs
    at 3 (by 0 (kinds.Post 0 0 0 true) ∷ by 0 (kinds.Post 1 0 0 true) ∷ by 1 (kinds.Take 0 0 0) ∷ by 2 (kinds.Take 1 0 0) ∷ []) ∷
    [])
unfolding judge
best_effort_refuses = refl

-- a task that posts another one behind a scope
abbrev acting : Plan
acting = record plain {
  workers = 2;
  runners = runner_of Parallel UserVisible SkipOnShutdown true ∷ [];
  tasks = (steps.Add 1 ∷ []) ∷ (steps.Block Will ∷ steps.Unblock ∷ steps.Post 0 0 0 ∷ []) ∷ [];
  actions = actions.Post 1 0 0 ∷ actions.Flush ∷ [];
}

acting_refuses : AreRefused acting (
    -- its first act step opens the scope
    at 2 (by 0 (kinds.Post 1 0 0 true) ∷ by 1 (kinds.Take 1 0 0) ∷ by 1 (kinds.Leave 1) ∷ []) ∷
    -- the scope will block
    at 2 (by 0 (kinds.Post 1 0 0 true) ∷ by 1 (kinds.Take 1 0 0) ∷ by 1 (kinds.Enter 1 May) ∷ []) ∷
    -- two act steps are left
    at 3 (by 0 (kinds.Post 1 0 0 true) ∷ by 1 (kinds.Take 1 0 0) ∷ by 1 (kinds.Enter 1 Will) ∷ by 1 (kinds.End 1 0) ∷ []) ∷
    -- the other worker runs the task
    at 2 (by 0 (kinds.Post 1 0 0 true) ∷ by 1 (kinds.Take 1 0 0) ∷ by 2 (kinds.Enter 1 Will) ∷ []) ∷
    [])
unfolding judge
acting_refuses = refl

-- a main queue with a fence
abbrev queued : Plan
queued = record plain {
  workers = 2;
  queues = queue_of 3 1 ∷ [];
  tasks = (steps.Add 1 ∷ []) ∷ (steps.Add 2 ∷ []) ∷ [];
  actions = actions.Main 0 0 0 ∷ actions.Fence 0 Now ∷ actions.Main 1 0 0 ∷ actions.Pump 5 ∷ actions.Vote 0 0 false ∷ actions.Close 0 ∷ [];
}

queued_refuses : AreRefused queued (
    -- the fence stands before the task
    at 5 (by 0 (kinds.Main 0 0 0 true) ∷ by 0 (kinds.Fence 0 Now) ∷ by 0 (kinds.Main 1 0 0 true) ∷ by 0 (kinds.MainTake 0 0 0) ∷ by 0 (kinds.MainEnd 0 1) ∷
    by 0 (kinds.MainTake 1 0 1) ∷ []) ∷
    -- a front is open
    at 3 (by 0 (kinds.Main 0 0 0 true) ∷ by 0 (kinds.Fence 0 Now) ∷ by 0 (kinds.Main 1 0 0 true) ∷ by 0 kinds.MainNone ∷ []) ∷
    -- the driver runs the main tasks
    at 3 (by 0 (kinds.Main 0 0 0 true) ∷ by 0 (kinds.Fence 0 Now) ∷ by 0 (kinds.Main 1 0 0 true) ∷ by 1 (kinds.MainTake 0 0 0) ∷ []) ∷
    -- the script wants the pump to go on
    at 3 (by 0 (kinds.Main 0 0 0 true) ∷ by 0 (kinds.Fence 0 Now) ∷ by 0 (kinds.Main 1 0 0 true) ∷ by 0 (kinds.Vote 0 0 false) ∷ []) ∷
    [])
unfolding judge
queued_refuses = refl

starvation_bound_refuses : AreRefused starvation_bound_script (
    -- three delayed tasks went before
    at 12 (by 0 (kinds.Main 0 0 1 true) ∷ by 0 (kinds.Main 1 0 1 true) ∷ by 0 (kinds.Main 2 0 1 true) ∷ by 0 (kinds.Main 3 0 1 true) ∷ by 0 (kinds.Tick 10) ∷
    by 0 (kinds.Main 4 0 0 true) ∷ by 0 (kinds.MainTake 0 0 0) ∷ by 0 (kinds.MainEnd 0 1) ∷ by 0 (kinds.MainTake 1 0 1) ∷ by 0 (kinds.MainEnd 1 2) ∷
    by 0 (kinds.MainTake 2 0 2) ∷ by 0 (kinds.MainEnd 2 3) ∷ by 0 (kinds.MainTake 3 0 3) ∷ []) ∷
    -- the delayed tasks drew lesser orders
    at 6 (by 0 (kinds.Main 0 0 1 true) ∷ by 0 (kinds.Main 1 0 1 true) ∷ by 0 (kinds.Main 2 0 1 true) ∷ by 0 (kinds.Main 3 0 1 true) ∷ by 0 (kinds.Tick 10) ∷
    by 0 (kinds.Main 4 0 0 true) ∷ by 0 (kinds.MainTake 4 0 0) ∷ []) ∷
    [])
unfolding judge
starvation_bound_refuses = refl

-- two main queues of different classes
abbrev ranked : Plan
ranked = record plain {
  workers = 2;
  queues = queue_of 3 0 ∷ queue_of 2 0 ∷ [];
  tasks = (steps.Add 1 ∷ []) ∷ (steps.Add 1 ∷ []) ∷ [];
  actions = actions.Main 0 0 0 ∷ actions.Main 1 1 0 ∷ actions.Pump 1 ∷ [];
}

ranked_refuses : AreRefused ranked (
    -- the other queue has the lesser class
    at 2 (by 0 (kinds.Main 0 0 0 true) ∷ by 0 (kinds.Main 1 1 0 true) ∷ by 0 (kinds.MainTake 0 0 0) ∷ []) ∷
    [])
unfolding judge
ranked_refuses = refl

-- a job that two may enter, and a task beside it
abbrev working : Plan
working = record plain {
  workers = 3;
  runners = runner_of Parallel UserVisible SkipOnShutdown false ∷ [];
  tasks = (steps.Add 1 ∷ []) ∷ [];
  jobs = job_of UserVisible SkipOnShutdown 4 2 (steps.Add 1 ∷ []) ∷ [];
  actions = actions.StartJob 0 ∷ actions.Post 0 0 0 ∷ actions.Join 0 ∷ actions.Flush ∷ [];
}

working_refuses : AreRefused working (
    -- two are inside
    at 5 (by 0 (kinds.JobPost 0 true) ∷ by 1 (kinds.JobTake 0 0 0) ∷ by 0 (kinds.Post 0 0 0 true) ∷ by 2 (kinds.Take 0 0 0) ∷ by 3 (kinds.JobTake 0 1 1) ∷
    by 0 (kinds.JobTake 0 2 2) ∷ []) ∷
    -- the other worker has the number
    at 4 (by 0 (kinds.JobPost 0 true) ∷ by 1 (kinds.JobTake 0 0 0) ∷ by 0 (kinds.Post 0 0 0 true) ∷ by 2 (kinds.Take 0 0 0) ∷ by 3 (kinds.JobTake 0 0 1) ∷ []) ∷
    -- the item is claimed
    at 4 (by 0 (kinds.JobPost 0 true) ∷ by 1 (kinds.JobTake 0 0 0) ∷ by 0 (kinds.Post 0 0 0 true) ∷ by 2 (kinds.Take 0 0 0) ∷ by 3 (kinds.JobTake 0 1 0) ∷ []) ∷
    -- the worker holds an item
    at 3 (by 0 (kinds.JobPost 0 true) ∷ by 1 (kinds.JobTake 0 0 0) ∷ by 0 (kinds.Post 0 0 0 true) ∷ by 1 (kinds.Take 0 0 0) ∷ []) ∷
    -- 1 added to item 0 is 1
    at 2 (by 0 (kinds.JobPost 0 true) ∷ by 1 (kinds.JobTake 0 0 0) ∷ by 1 (kinds.JobStep 0 0 0 2 (Some 1)) ∷ []) ∷
    -- there are items, and nothing better waits
    at 2 (by 0 (kinds.JobPost 0 true) ∷ by 1 (kinds.JobTake 0 0 0) ∷ by 1 (kinds.JobStep 0 0 0 1 None) ∷ []) ∷
    -- no item is done
    at 2 (by 0 (kinds.JobPost 0 true) ∷ by 0 (kinds.Post 0 0 0 true) ∷ by 0 (kinds.Joined 0 (Finished 0)) ∷ []) ∷
    -- the task has nobody inside
    at 3 (by 0 (kinds.JobPost 0 true) ∷ by 1 (kinds.JobTake 0 0 0) ∷ by 0 (kinds.Post 0 0 0 true) ∷ by 2 (kinds.JobTake 0 1 1) ∷ []) ∷
    [])
unfolding judge
working_refuses = refl
