-- Histories of an open plan, worked out by hand: what its driver, its tasks, its workers and its guest may enter, each
-- condition met, and each broken.
use Rattle.std.proofs.Common.{◌≡◌, ℕ, Bool, true, false, List, [], ◌∷◌, ◌++◌, refl, map}
use Rattle.std.specs.Prelude.{Option, Some, None}
use Rattle.task_base.specs.Plan.{Plan, opened}
use Rattle.task_base.specs.declared.entry.Entry.{Entry}
use Rattle.task_base.specs.declared.entry.JobReply.TheVariants as replies
use Rattle.task_base.specs.declared.entry.Kind.TheVariants as kinds
use Rattle.task_base.specs.declared.policy.Policy.TheVariants as policies
use Rattle.task_base.specs.declared.script.Action.TheVariants as actions
use Rattle.task_base.specs.declared.script.FenceAt.TheVariants.{Now}
use Rattle.task_base.specs.declared.script.RunnerKind.TheVariants.{Parallel, Sequenced}
use Rattle.task_base.specs.declared.step.Scope.TheVariants.{May, Will}
use Rattle.task_base.specs.declared.step.Step.TheVariants as steps
use Rattle.task_traits.specs.declared.traits.Behaviour.TheVariants.{ContinueOnShutdown, SkipOnShutdown, BlockShutdown}
use Rattle.task_traits.specs.declared.traits.Priority.TheVariants.{BestEffort, UserVisible}
use Rattle.task_base.specs.Entries.{entry_by as by}
use Rattle.hist_model.proofs.Worked.Rows.{AreRefused, at, job_of, judge, plain, queue_of, runner_of}

-- two workers and a guest, seat 3; runner 0 skips, and runs its tasks in turn; runner 1 blocks shutdown, and its tasks may
-- block; runner 2 continues, at best effort. Task 4 posts task 5. Job 2 has no items. The action is none of the open plan's
abbrev declared : Plan
declared = record plain {
  workers = 3;
  runners = runner_of Sequenced UserVisible SkipOnShutdown false ∷ runner_of Parallel UserVisible BlockShutdown true
      ∷ runner_of Parallel BestEffort ContinueOnShutdown false ∷ [];
  queues = queue_of 3 1 ∷ queue_of 3 0 ∷ [];
  tasks = (steps.Add 1 ∷ []) ∷ (steps.Add 1 ∷ []) ∷ [] ∷ [] ∷ (steps.Add 1 ∷ steps.Post 5 0 0 ∷ []) ∷ [] ∷ [];
  jobs = job_of UserVisible SkipOnShutdown 2 2 [] ∷ job_of UserVisible BlockShutdown 1 1 [] ∷ job_of UserVisible SkipOnShutdown 0 1 [] ∷ [];
  actions = actions.Flush ∷ [];
}

abbrev live : Plan
live = opened declared

-- what is judged of these logs: whether each is legal, whether it is whole, and its first place that is not allowed
abbrev AreJudged : List (List Entry) → List (Bool × Bool × Option ℕ) → Type 0
AreJudged logs found = map (judge live) logs ≡ found

-- ---- the driver

-- every kind of entry of the driver, in an order that no script has
abbrev all_of_the_driver : List Entry
all_of_the_driver = by 0 kinds.MainNone ∷ by 0 (kinds.Policy policies.Foreground) ∷ by 0 (kinds.Tick 7) ∷ by 0 (kinds.Fence 1 Now) ∷ by 0 (kinds.JobPost 0 true)
    ∷ by 0 (kinds.Reprio 0 BestEffort) ∷ by 0 (kinds.JobCancel 0) ∷ by 0 (kinds.Unfence 1) ∷ by 0 (kinds.Cancelled 0) ∷ by 0 kinds.Idle
    ∷ by 0 (kinds.Vote 0 0 false) ∷ by 0 (kinds.Joined 0 replies.Cancelled) ∷ by 0 (kinds.Rank 1 7) ∷ by 0 (kinds.Close 1) ∷ by 0 (kinds.Tick 7)
    ∷ by 0 kinds.Shutdown ∷ by 0 (kinds.Policy policies.Nothing) ∷ []

driver_judged : AreJudged (
    -- nothing was done: legal, and not whole before shutdown is done
    [] ∷
    all_of_the_driver ∷
    -- shutdown is done: whole
    (all_of_the_driver ++ by 0 kinds.Done ∷ []) ∷
    -- a job twice joined and twice cancelled
    (by 0 (kinds.JobPost 2 true) ∷ by 0 (kinds.JobCancel 2) ∷ by 0 (kinds.JobCancel 2) ∷ by 0 (kinds.Joined 2 (replies.Finished 0))
    ∷ by 0 (kinds.Joined 2 (replies.Finished 0)) ∷ []) ∷
    -- a job posted after shutdown began is refused, unless it blocks
    (by 0 kinds.Shutdown ∷ by 0 (kinds.JobPost 0 false) ∷ by 0 (kinds.Joined 0 replies.Refused) ∷ by 0 (kinds.JobPost 1 true) ∷ []) ∷
    [])
    ((true, false, None) ∷ (true, false, None) ∷ (true, true, None) ∷ (true, false, None) ∷ (true, false, None) ∷ [])
unfolding judge
driver_judged = refl

driver_refuses : AreRefused live (
    -- there are three runners, two queues and three jobs; queue 0 has one voter, and queue 1 none; the last class is 7
    at 0 (by 0 (kinds.Reprio 3 BestEffort) ∷ []) ∷
    at 0 (by 0 (kinds.Fence 2 Now) ∷ []) ∷
    at 0 (by 0 (kinds.Unfence 2) ∷ []) ∷
    at 0 (by 0 (kinds.Vote 0 1 false) ∷ []) ∷
    at 0 (by 0 (kinds.Vote 1 0 false) ∷ []) ∷
    at 0 (by 0 (kinds.Rank 2 0) ∷ []) ∷
    at 0 (by 0 (kinds.Rank 0 8) ∷ []) ∷
    at 0 (by 0 (kinds.Close 2) ∷ []) ∷
    at 0 (by 0 (kinds.JobPost 3 true) ∷ []) ∷
    -- the job was posted
    at 1 (by 0 (kinds.JobPost 0 true) ∷ by 0 (kinds.JobPost 0 true) ∷ []) ∷
    -- it was not
    at 0 (by 0 (kinds.JobCancel 0) ∷ []) ∷
    at 0 (by 0 (kinds.Joined 2 (replies.Finished 0)) ∷ []) ∷
    -- it was not cancelled
    at 1 (by 0 (kinds.JobPost 0 true) ∷ by 0 (kinds.Cancelled 0) ∷ []) ∷
    -- its items are not done
    at 1 (by 0 (kinds.JobPost 0 true) ∷ by 0 (kinds.Joined 0 (replies.Finished 0)) ∷ []) ∷
    -- the clock goes back
    at 1 (by 0 (kinds.Tick 7) ∷ by 0 (kinds.Tick 6) ∷ []) ∷
    -- a second shutdown, before it is done and after
    at 1 (by 0 kinds.Shutdown ∷ by 0 kinds.Shutdown ∷ []) ∷
    at 2 (by 0 kinds.Shutdown ∷ by 0 kinds.Done ∷ by 0 kinds.Shutdown ∷ []) ∷
    -- shutdown is done that was not started, and twice
    at 0 (by 0 kinds.Done ∷ []) ∷
    at 2 (by 0 kinds.Shutdown ∷ by 0 kinds.Done ∷ by 0 kinds.Done ∷ []) ∷
    -- a block task that was accepted has no end
    at 2 (by 3 (kinds.Post 0 1 0 true) ∷ by 0 kinds.Shutdown ∷ by 0 kinds.Done ∷ []) ∷
    -- the driver is finished once shutdown is done
    at 2 (by 0 kinds.Shutdown ∷ by 0 kinds.Done ∷ by 0 (kinds.Tick 0) ∷ []) ∷
    at 2 (by 0 kinds.Shutdown ∷ by 0 kinds.Done ∷ by 0 (kinds.Policy policies.Nothing) ∷ []) ∷
    at 2 (by 0 kinds.Shutdown ∷ by 0 kinds.Done ∷ by 0 kinds.Idle ∷ []) ∷
    -- a worker may take the task
    at 1 (by 3 (kinds.Post 0 0 0 true) ∷ by 0 kinds.Idle ∷ []) ∷
    -- the driver takes nothing of the pool, and no worker is the driver
    at 1 (by 3 (kinds.Post 0 0 0 true) ∷ by 0 (kinds.Take 0 0 0) ∷ []) ∷
    at 0 (by 1 (kinds.Tick 7) ∷ []) ∷
    at 0 (by 1 kinds.Shutdown ∷ []) ∷
    [])
unfolding judge
driver_refuses = refl

-- ---- amid a main task and an item

abbrev in_a_main_task : List Entry
in_a_main_task = by 0 (kinds.Main 0 0 0 true) ∷ by 0 (kinds.MainTake 0 0 0) ∷ []

abbrev in_an_item : List Entry
in_an_item = by 0 (kinds.JobPost 0 true) ∷ by 0 (kinds.JobTake 0 0 0) ∷ []

amid_judged : AreJudged (
    -- the clock is read, and tasks are posted, amid a main task and amid an item
    (in_a_main_task ++ by 0 (kinds.Tick 7) ∷ by 0 (kinds.Post 1 0 0 true) ∷ by 0 (kinds.MainEnd 0 1) ∷ []) ∷
    (in_an_item ++ by 0 (kinds.Tick 7) ∷ by 0 (kinds.Main 1 0 0 true) ∷ by 0 (kinds.JobStep 0 0 0 0 (Some 1)) ∷ by 0 (kinds.JobStep 0 0 1 1 None)
    ∷ by 0 (kinds.Joined 0 (replies.Finished 1)) ∷ []) ∷
    [])
    ((true, false, None) ∷ (true, false, None) ∷ [])
unfolding judge
amid_judged = refl

amid_refuses : AreRefused live (
    -- whatever else the driver enters, it enters while it runs and holds nothing
    at 2 (in_a_main_task ++ by 0 (kinds.Policy policies.All) ∷ []) ∷
    at 2 (in_a_main_task ++ by 0 (kinds.Fence 0 Now) ∷ []) ∷
    at 2 (in_a_main_task ++ by 0 kinds.Shutdown ∷ []) ∷
    at 2 (in_a_main_task ++ by 0 kinds.MainNone ∷ []) ∷
    at 3 (by 0 (kinds.Main 0 0 0 true) ∷ by 0 (kinds.Main 1 0 0 true) ∷ by 0 (kinds.MainTake 0 0 0) ∷ by 0 (kinds.MainTake 1 0 0) ∷ []) ∷
    at 2 (in_an_item ++ by 0 (kinds.Close 0) ∷ []) ∷
    at 2 (in_an_item ++ by 0 (kinds.JobTake 0 1 1) ∷ []) ∷
    at 3 (by 0 (kinds.JobPost 2 true) ∷ in_an_item ++ by 0 (kinds.Joined 2 (replies.Finished 0)) ∷ []) ∷
    -- task 0 adds 1 to what it finds
    at 2 (in_a_main_task ++ by 0 (kinds.MainEnd 0 0) ∷ []) ∷
    [])
unfolding judge
amid_refuses = refl

-- ---- posts

abbrev task_4_runs : List Entry
task_4_runs = by 3 (kinds.Post 4 1 0 true) ∷ by 1 (kinds.Take 4 1 0) ∷ []

posts_judged : AreJudged (
    -- the driver, the guest and a task that runs post, to runners and to queues
    (by 0 (kinds.Post 0 1 0 true) ∷ by 3 (kinds.Post 1 1 1000000000000 true) ∷ by 2 (kinds.Take 0 1 0) ∷ by 2 (kinds.Main 2 1 5 true)
    ∷ by 2 (kinds.Post 3 0 0 true) ∷ by 2 (kinds.End 0 1) ∷ []) ∷
    -- task 4 posts task 5, as its step says
    (task_4_runs ++ by 1 (kinds.Post 5 0 0 true) ∷ by 1 (kinds.End 4 1) ∷ []) ∷
    -- it may also end before, or post what no step posts
    (task_4_runs ++ by 1 (kinds.End 4 1) ∷ []) ∷
    (task_4_runs ++ by 1 (kinds.Post 0 2 0 true) ∷ by 1 (kinds.Post 5 0 0 true) ∷ by 1 (kinds.End 4 1) ∷ []) ∷
    -- what shutdown forbids is refused, also once it is done, and whoever posts
    (by 0 kinds.Shutdown ∷ by 3 (kinds.Post 0 0 0 false) ∷ by 3 (kinds.Post 1 1 0 true) ∷ []) ∷
    (by 0 kinds.Shutdown ∷ by 0 kinds.Done ∷ by 3 (kinds.Post 0 1 0 false) ∷ by 0 (kinds.Post 1 1 0 false) ∷ []) ∷
    -- what is posted to a closed queue is refused
    (by 0 (kinds.Close 1) ∷ by 3 (kinds.Main 0 1 0 false) ∷ []) ∷
    [])
    ((true, false, None) ∷ (true, false, None) ∷ (true, false, None) ∷ (true, false, None) ∷ (true, false, None) ∷ (true, true, None)
    ∷ (true, false, None) ∷ [])
unfolding judge
posts_judged = refl

posts_refuse : AreRefused live (
    -- there are six tasks, three runners and two queues; the longest delay is a million seconds
    at 0 (by 3 (kinds.Post 6 0 0 true) ∷ []) ∷
    at 0 (by 3 (kinds.Post 0 3 0 true) ∷ []) ∷
    at 0 (by 3 (kinds.Main 0 2 0 true) ∷ []) ∷
    at 0 (by 3 (kinds.Post 0 0 1000000000001 true) ∷ []) ∷
    -- a free worker posts nothing, and neither does one that holds an item
    at 0 (by 1 (kinds.Post 0 0 0 true) ∷ []) ∷
    at 2 (by 0 (kinds.JobPost 0 true) ∷ by 1 (kinds.JobTake 0 0 0) ∷ by 1 (kinds.Post 0 0 0 true) ∷ []) ∷
    -- a guest posts a task twice; so do the driver and a guest, to a queue and to a runner; and a task that was refused
    at 1 (by 3 (kinds.Post 0 0 0 true) ∷ by 3 (kinds.Post 0 0 0 true) ∷ []) ∷
    at 1 (by 0 (kinds.Main 0 0 0 true) ∷ by 3 (kinds.Post 0 1 0 true) ∷ []) ∷
    at 2 (by 0 kinds.Shutdown ∷ by 3 (kinds.Post 0 0 0 false) ∷ by 3 (kinds.Post 0 1 0 true) ∷ []) ∷
    -- task 5 is task 4's to post
    at 0 (by 3 (kinds.Post 5 0 0 true) ∷ []) ∷
    at 2 (by 3 (kinds.Post 0 1 0 true) ∷ by 1 (kinds.Take 0 1 0) ∷ by 1 (kinds.Post 5 0 0 true) ∷ []) ∷
    -- as its step says
    at 2 (task_4_runs ++ by 1 (kinds.Post 5 1 0 true) ∷ []) ∷
    -- what is not forbidden is accepted, and what is forbidden is refused
    at 0 (by 3 (kinds.Post 0 0 0 false) ∷ []) ∷
    at 1 (by 0 kinds.Shutdown ∷ by 3 (kinds.Post 0 0 0 true) ∷ []) ∷
    -- there is no seat 4
    at 0 (by 4 (kinds.Post 0 0 0 true) ∷ []) ∷
    [])
unfolding judge
posts_refuse = refl

-- ---- workers and the guest

abbrev two_in_turn : List Entry
two_in_turn = by 3 (kinds.Post 0 0 0 true) ∷ by 3 (kinds.Post 1 0 0 true) ∷ by 2 (kinds.Take 0 0 0) ∷ []

workers_judged : AreJudged (
    -- a sequence runs in turn, each task on the state that the one before left
    (two_in_turn ++ by 2 (kinds.End 0 1) ∷ by 1 (kinds.Take 1 0 1) ∷ by 1 (kinds.End 1 2) ∷ []) ∷
    -- a worker and the driver in one job
    (in_an_item ++ by 1 (kinds.JobTake 0 1 1) ∷ by 0 (kinds.JobStep 0 0 0 0 None) ∷ by 1 (kinds.JobStep 0 1 1 1 None)
    ∷ by 0 (kinds.Joined 0 (replies.Finished 1)) ∷ []) ∷
    -- shutdown is done while a continue task runs, and whole once it has ended
    (by 3 (kinds.Post 2 2 0 true) ∷ by 1 (kinds.Take 2 2 0) ∷ by 0 kinds.Shutdown ∷ by 0 kinds.Done ∷ []) ∷
    (by 3 (kinds.Post 2 2 0 true) ∷ by 1 (kinds.Take 2 2 0) ∷ by 0 kinds.Shutdown ∷ by 0 kinds.Done ∷ by 1 (kinds.End 2 0) ∷ []) ∷
    -- a skip task that did not start, and a main task, are left
    (by 3 (kinds.Post 0 0 0 true) ∷ by 3 (kinds.Main 1 0 0 true) ∷ by 0 kinds.Shutdown ∷ by 0 kinds.Done ∷ []) ∷
    [])
    ((true, false, None) ∷ (true, false, None) ∷ (true, false, None) ∷ (true, true, None) ∷ (true, true, None) ∷ [])
unfolding judge
workers_judged = refl

workers_refuse : AreRefused live (
    -- task 0 of the sequence runs
    at 3 (two_in_turn ++ by 1 (kinds.Take 1 0 0) ∷ []) ∷
    -- task 1 is not its head
    at 2 (by 3 (kinds.Post 0 0 0 true) ∷ by 3 (kinds.Post 1 0 0 true) ∷ by 2 (kinds.Take 1 0 0) ∷ []) ∷
    -- it leaves one more than it found
    at 3 (two_in_turn ++ by 2 (kinds.End 0 0) ∷ []) ∷
    -- user-visible work comes before best effort
    at 2 (by 3 (kinds.Post 0 0 0 true) ∷ by 3 (kinds.Post 2 2 0 true) ∷ by 1 (kinds.Take 2 2 0) ∷ []) ∷
    -- the guest takes nothing, and ends nothing
    at 1 (by 3 (kinds.Post 0 0 0 true) ∷ by 3 (kinds.Take 0 0 0) ∷ []) ∷
    at 1 (by 0 (kinds.JobPost 0 true) ∷ by 3 (kinds.JobTake 0 0 0) ∷ []) ∷
    at 2 (by 3 (kinds.Post 0 0 0 true) ∷ by 1 (kinds.Take 0 0 0) ∷ by 3 (kinds.End 0 1) ∷ []) ∷
    at 0 (by 3 (kinds.Tick 7) ∷ []) ∷
    -- a take once shutdown is done: of the pool, of a queue, and of a job
    at 3 (by 3 (kinds.Post 2 2 0 true) ∷ by 0 kinds.Shutdown ∷ by 0 kinds.Done ∷ by 1 (kinds.Take 2 2 0) ∷ []) ∷
    at 3 (by 3 (kinds.Main 0 0 0 true) ∷ by 0 kinds.Shutdown ∷ by 0 kinds.Done ∷ by 0 (kinds.MainTake 0 0 0) ∷ []) ∷
    at 3 (by 0 (kinds.JobPost 0 true) ∷ by 0 kinds.Shutdown ∷ by 0 kinds.Done ∷ by 1 (kinds.JobTake 0 0 0) ∷ []) ∷
    [])
unfolding judge
workers_refuse = refl

-- ---- scopes

abbrev may_block : List Entry
may_block = by 3 (kinds.Post 2 1 0 true) ∷ by 1 (kinds.Take 2 1 0) ∷ []

scopes_judged : AreJudged (
    -- scopes in turn, of both types
    (may_block ++ by 1 (kinds.Enter 2 May) ∷ by 1 (kinds.Leave 2) ∷ by 1 (kinds.Enter 2 Will) ∷ by 1 (kinds.Leave 2) ∷ by 1 (kinds.End 2 0) ∷ []) ∷
    -- a post inside of one
    (may_block ++ by 1 (kinds.Enter 2 May) ∷ by 1 (kinds.Post 3 0 0 true) ∷ by 1 (kinds.Leave 2) ∷ by 1 (kinds.End 2 0) ∷ []) ∷
    [])
    ((true, false, None) ∷ (true, false, None) ∷ [])
unfolding judge
scopes_judged = refl

scopes_refuse : AreRefused live (
    -- one is open
    at 3 (may_block ++ by 1 (kinds.Enter 2 May) ∷ by 1 (kinds.Enter 2 Will) ∷ []) ∷
    at 3 (may_block ++ by 1 (kinds.Enter 2 May) ∷ by 1 (kinds.End 2 0) ∷ []) ∷
    -- none is
    at 2 (may_block ++ by 1 (kinds.Leave 2) ∷ []) ∷
    at 4 (may_block ++ by 1 (kinds.Enter 2 May) ∷ by 1 (kinds.Leave 2) ∷ by 1 (kinds.Leave 2) ∷ []) ∷
    -- another task's, and by a seat that does not run the task
    at 2 (may_block ++ by 1 (kinds.Enter 3 May) ∷ []) ∷
    at 2 (may_block ++ by 2 (kinds.Enter 2 May) ∷ []) ∷
    at 3 (may_block ++ by 1 (kinds.Enter 2 May) ∷ by 2 (kinds.Leave 2) ∷ []) ∷
    -- tasks of runner 0 may not block, and main tasks neither
    at 2 (by 3 (kinds.Post 0 0 0 true) ∷ by 1 (kinds.Take 0 0 0) ∷ by 1 (kinds.Enter 0 May) ∷ []) ∷
    at 2 (in_a_main_task ++ by 0 (kinds.Enter 0 May) ∷ []) ∷
    [])
unfolding judge
scopes_refuse = refl

-- ---- a closed plan

-- with the same declarations, a script's driver does its actions and no more
closed_refuses : AreRefused declared (
    at 0 (by 0 (kinds.Tick 7) ∷ []) ∷
    at 0 (by 3 (kinds.Post 0 0 0 true) ∷ []) ∷
    at 0 (by 0 kinds.Shutdown ∷ []) ∷
    [])
unfolding judge
closed_refuses = refl
