-- Histories that pin single words of the definitions of room: limits, groups, blocking scopes, and who makes way.
use Rattle.std.proofs.Common.{◌≡◌, ℕ, true, false, List, [], ◌∷◌, ◌++◌, refl}
use Rattle.std.specs.Prelude.{codes, Some, None}
use Rattle.task_base.specs.declared.entry.Entry.{Entry}
use Rattle.task_base.specs.declared.entry.JobReply.TheVariants as replies
use Rattle.task_base.specs.declared.entry.Kind.TheVariants as kinds
use Rattle.task_base.specs.declared.script.FenceAt.TheVariants.{Now}
use Rattle.task_base.specs.declared.step.Scope.TheVariants.{May, Will}
use Rattle.task_base.specs.Entries.{entry_by as by}
use Rattle.hist_model.proofs.Worked.Rows.{judge, read}
use Rattle.hist_model.proofs.Worked.Corners.{judged}

abbrev best_effort_and_visible : List ℕ
best_effort_and_visible =
    codes "workers 2\ngroups 2 1 0\nrunner 0 parallel best_effort skip\nrunner 1 parallel user_visible skip\ntask 0\ntask 1\npost 1 0 0\npost 0 1 0\ntick 1\n"

-- the best-effort limit is reached, and binds no other work
visible_starts_beside_best_effort : judged best_effort_and_visible
    (by 0 (kinds.Post 1 0 0 true) ∷ by 1 (kinds.Take 1 0 0) ∷ by 0 (kinds.Post 0 1 0 true) ∷ by 2 (kinds.Take 0 1 0) ∷ []) ≡ Some (true, false, None)
unfolding judge read
visible_starts_beside_best_effort = refl

-- the best-effort limit counts best-effort work alone
best_effort_starts_beside_visible : judged best_effort_and_visible
    (by 0 (kinds.Post 1 0 0 true) ∷ by 0 (kinds.Post 0 1 0 true) ∷ by 1 (kinds.Take 0 1 0) ∷ by 2 (kinds.Take 1 0 0) ∷ []) ≡ Some (true, false, None)
unfolding judge read
best_effort_starts_beside_visible = refl

abbrev three_tasks : List ℕ
three_tasks =
    (codes "workers 3\ngroups 1 1 0\nrunner 0 parallel user_visible skip mayblock\ntask 0 block will ; unblock\n"
    ++ codes "task 1 block will ; unblock\ntask 2\npost 0 0 0\npost 1 0 0\npost 2 0 0\ntick 1\n")

abbrev first_one_blocks : List Entry
first_one_blocks =
    by 0 (kinds.Post 0 0 0 true) ∷ by 0 (kinds.Post 1 0 0 true) ∷ by 0 (kinds.Post 2 0 0 true) ∷ by 1 (kinds.Take 0 0 0) ∷ by 1 (kinds.Enter 0 Will) ∷ []

room_for_one_more : judged three_tasks (first_one_blocks ++ by 2 (kinds.Take 1 0 0) ∷ []) ≡ Some (true, false, None)
unfolding judge read
room_for_one_more = refl

-- the other task that runs is not blocked
scope_makes_room_once : judged three_tasks (first_one_blocks ++ by 2 (kinds.Take 1 0 0) ∷ by 3 (kinds.Take 2 0 0) ∷ []) ≡ Some (false, false, Some 6)
unfolding judge read
scope_makes_room_once = refl

closed_scope_makes_no_room : judged three_tasks (first_one_blocks ++ by 1 (kinds.Leave 0) ∷ by 2 (kinds.Take 1 0 0) ∷ []) ≡ Some (false, false, Some 6)
unfolding judge read
closed_scope_makes_no_room = refl

-- the second task closes its own scope, and the first one is still blocked
scope_of_another_task_stays_open : judged three_tasks
    (first_one_blocks ++ by 2 (kinds.Take 1 0 0) ∷ by 2 (kinds.Enter 1 Will) ∷ by 2 (kinds.Leave 1) ∷ by 2 (kinds.End 1 0)
    ∷ by 2 (kinds.Take 2 0 0) ∷ []) ≡ Some (true, false, None)
unfolding judge read
scope_of_another_task_stays_open = refl

-- a task of the background group is blocked, which makes no room in the foreground group
blocked_in_the_other_group : judged (codes "workers 3\ngroups 1 1 1\nrunner 0 parallel user_visible skip\nrunner 1 parallel best_effort skip mayblock\n"
    ++ codes "task 0 block will ; unblock\ntask 1\ntask 2\npost 0 1 0\npost 1 0 0\npost 2 0 0\ntick 1\n")
    (by 0 (kinds.Post 0 1 0 true) ∷ by 1 (kinds.Take 0 1 0) ∷ by 1 (kinds.Enter 0 Will) ∷ by 0 (kinds.Post 1 0 0 true)
    ∷ by 2 (kinds.Take 1 0 0) ∷ by 0 (kinds.Post 2 0 0 true) ∷ by 3 (kinds.Take 2 0 0) ∷ []) ≡ Some (false, false, Some 6)
unfolding judge read
blocked_in_the_other_group = refl

-- the scope was opened at 3 and counts at 8
threshold_is_not_come : judged (codes "workers 2\ngroups 1 1 0\nthreshold 5\nrunner 0 parallel user_visible skip mayblock\ntask 0 block may ; unblock\ntask 1\n"
    ++ codes "tick 1\npost 0 0 0\npost 1 0 0\ntick 1\nflush\n")
    (by 0 (kinds.Tick 3) ∷ by 0 (kinds.Post 0 0 0 true) ∷ by 0 (kinds.Post 1 0 0 true) ∷ by 1 (kinds.Take 0 0 0)
    ∷ by 1 (kinds.Enter 0 May) ∷ by 0 (kinds.Tick 7) ∷ by 2 (kinds.Take 1 0 0) ∷ []) ≡ Some (false, false, Some 6)
unfolding judge read
threshold_is_not_come = refl

-- the background group is full, and the worker inside the job makes no way for the foreground group
better_work_of_the_other_group_waits : judged
    (codes "workers 1\ngroups 1 1 1\nrunner 0 parallel user_visible skip\ntask 0\njob 0 best_effort skip 2 1\nstartjob 0\n"
    ++ codes "post 0 0 0\ntick 1\n")
    (by 0 (kinds.JobPost 0 true) ∷ by 1 (kinds.JobTake 0 0 0) ∷ by 0 (kinds.Post 0 0 0 true)
    ∷ by 1 (kinds.JobStep 0 0 0 0 (Some 1)) ∷ []) ≡ Some (true, false, None)
unfolding judge read
better_work_of_the_other_group_waits = refl

-- the group is full, and a worker makes no way for work of its own priority
equal_work_waits : judged (codes "workers 1\ngroups 1 1 0\nrunner 0 parallel user_visible skip\ntask 0\njob 0 user_visible skip 2 1\nstartjob 0\n"
    ++ codes "post 0 0 0\ntick 1\n")
    (by 0 (kinds.JobPost 0 true) ∷ by 1 (kinds.JobTake 0 0 0) ∷ by 0 (kinds.Post 0 0 0 true)
    ∷ by 1 (kinds.JobStep 0 0 0 0 (Some 1)) ∷ []) ≡ Some (true, false, None)
unfolding judge read
equal_work_waits = refl

-- a main task of queue 0 runs, and so the sequence of runner 0 does not
main_task_of_the_same_number : judged (codes "workers 1\nrunner 0 sequenced user_visible skip\nqueue 0 0 0\ntask 0\ntask 1\npost 0 0 0\nmain 1 0 0\npump 1\n")
    (by 0 (kinds.Post 0 0 0 true) ∷ by 0 (kinds.Main 1 0 0 true) ∷ by 0 (kinds.MainTake 1 0 0) ∷ by 1 (kinds.Take 0 0 0) ∷ []) ≡ Some (true, false, None)
unfolding judge read
main_task_of_the_same_number = refl

-- the script is finished, though a worker still runs
started_behind_the_end_of_the_script : judged (codes "workers 2\nrunner 0 parallel user_visible skip\ntask 0\ntask 1\npost 0 0 0\npost 1 0 0\ntick 1\n")
    (by 0 (kinds.Post 0 0 0 true) ∷ by 0 (kinds.Post 1 0 0 true) ∷ by 1 (kinds.Take 0 0 0) ∷ by 0 (kinds.Tick 0)
    ∷ by 2 (kinds.Take 1 0 0) ∷ []) ≡ Some (false, false, Some 4)
unfolding judge read
started_behind_the_end_of_the_script = refl

-- a scope that may block counts at once where the threshold is 0
threshold_of_nothing : judged (codes "workers 2\ngroups 1 1 0\nthreshold 0\nrunner 0 parallel user_visible skip mayblock\ntask 0 block may ; unblock\ntask 1\n"
    ++ codes "post 0 0 0\npost 1 0 0\ntick 1\n")
    (by 0 (kinds.Post 0 0 0 true) ∷ by 0 (kinds.Post 1 0 0 true) ∷ by 1 (kinds.Take 0 0 0) ∷ by 1 (kinds.Enter 0 May)
    ∷ by 2 (kinds.Take 1 0 0) ∷ []) ≡ Some (true, false, None)
unfolding judge read
threshold_of_nothing = refl

-- the background group has a limit of its own
background_group_of_two : judged (codes "workers 2\ngroups 1 1 2\nthreshold 0\nrunner 0 parallel best_effort skip\ntask 0\ntask 1\npost 0 0 0\npost 1 0 0\n"
    ++ codes "tick 1\n")
    (by 0 (kinds.Post 0 0 0 true) ∷ by 0 (kinds.Post 1 0 0 true) ∷ by 1 (kinds.Take 0 0 0) ∷ by 2 (kinds.Take 1 0 0) ∷ []) ≡ Some (true, false, None)
unfolding judge read
background_group_of_two = refl

-- the item is best-effort work, and so the best-effort limit is reached
held_item_counts_by_its_job : judged (codes "workers 2\ngroups 2 1 0\nrunner 0 parallel best_effort skip\nrunner 1 parallel user_visible skip\ntask 0\n"
    ++ codes "job 0 user_visible skip 1 1\njob 1 best_effort skip 1 1\nstartjob 1\npost 0 0 0\ntick 1\n")
    (by 0 (kinds.JobPost 1 true) ∷ by 1 (kinds.JobTake 1 0 0) ∷ by 0 (kinds.Post 0 0 0 true) ∷ by 2 (kinds.Take 0 0 0) ∷ []) ≡ Some (false, false, Some 3)
unfolding judge read
held_item_counts_by_its_job = refl

-- the item that the driver holds takes no room
driver_counts_in_no_group : judged (codes "workers 1\ngroups 1 1 0\nrunner 0 parallel user_visible skip\ntask 0\njob 0 user_visible skip 1 1\nstartjob 0\n"
    ++ codes "post 0 0 0\njoin 0\n")
    (by 0 (kinds.JobPost 0 true) ∷ by 0 (kinds.Post 0 0 0 true) ∷ by 0 (kinds.JobTake 0 0 0) ∷ by 1 (kinds.Take 0 0 0) ∷ []) ≡ Some (true, false, None)
unfolding judge read
driver_counts_in_no_group = refl

-- it makes no room for best-effort work
blocked_visible_task : judged (codes "workers 3\ngroups 3 1 0\nrunner 0 parallel user_visible skip mayblock\nrunner 1 parallel best_effort skip\n"
    ++ codes "task 0 block will ; unblock\ntask 1\ntask 2\npost 0 0 0\npost 1 1 0\npost 2 1 0\ntick 1\n")
    (by 0 (kinds.Post 0 0 0 true) ∷ by 0 (kinds.Post 1 1 0 true) ∷ by 0 (kinds.Post 2 1 0 true) ∷ by 1 (kinds.Take 0 0 0)
    ∷ by 1 (kinds.Enter 0 Will) ∷ by 2 (kinds.Take 1 1 0) ∷ by 3 (kinds.Take 2 1 0) ∷ []) ≡ Some (false, false, Some 6)
unfolding judge read
blocked_visible_task = refl

single_thread_runner_of_another_number : judged
    (codes "workers 2\nrunner 0 parallel user_visible skip\nrunner 1 single:1 user_visible skip\ntask 0\npost 0 1 0\nflush\n")
    (by 0 (kinds.Post 0 1 0 true) ∷ by 2 (kinds.Take 0 1 0) ∷ []) ≡ Some (false, false, Some 1)
unfolding judge read
single_thread_runner_of_another_number = refl

more_runners_than_tasks : judged (codes "workers 1\nrunner 0 parallel user_visible skip\nrunner 1 parallel user_visible skip\ntask 0\npost 0 1 0\nflush\n")
    (by 0 (kinds.Post 0 1 0 true) ∷ by 1 (kinds.Take 0 1 0) ∷ []) ≡ Some (true, false, None)
unfolding judge read
more_runners_than_tasks = refl

-- the last worker runs a task
more_workers_than_the_limit : judged (codes "workers 2\ngroups 1 1 0\nrunner 0 parallel user_visible skip\ntask 0\npost 0 0 0\nflush\n")
    (by 0 (kinds.Post 0 0 0 true) ∷ by 2 (kinds.Take 0 0 0) ∷ by 0 kinds.Idle ∷ []) ≡ Some (false, false, Some 2)
unfolding judge read
more_workers_than_the_limit = refl

groups_fill_apart : judged (codes "workers 2\ngroups 1 1 1\nrunner 0 parallel best_effort skip\nrunner 1 parallel user_visible skip\ntask 0\ntask 1\n"
    ++ codes "post 0 0 0\npost 1 1 0\ntick 1\n")
    (by 0 (kinds.Post 0 0 0 true) ∷ by 1 (kinds.Take 0 0 0) ∷ by 0 (kinds.Post 1 1 0 true) ∷ by 2 (kinds.Take 1 1 0) ∷ []) ≡ Some (true, false, None)
unfolding judge read
groups_fill_apart = refl

two_best_effort_tasks : judged (codes "workers 3\ngroups 3 2 0\nrunner 0 parallel best_effort skip\ntask 0\ntask 1\npost 0 0 0\npost 1 0 0\ntick 1\n")
    (by 0 (kinds.Post 0 0 0 true) ∷ by 0 (kinds.Post 1 0 0 true) ∷ by 1 (kinds.Take 0 0 0) ∷ by 2 (kinds.Take 1 0 0) ∷ []) ≡ Some (true, false, None)
unfolding judge read
two_best_effort_tasks = refl

visible_item_is_no_best_effort_work : judged
    (codes "workers 2\ngroups 2 1 0\nrunner 0 parallel best_effort skip\ntask 0\njob 0 user_visible skip 1 1\nstartjob 0\n"
    ++ codes "post 0 0 0\ntick 1\n")
    (by 0 (kinds.JobPost 0 true) ∷ by 1 (kinds.JobTake 0 0 0) ∷ by 0 (kinds.Post 0 0 0 true) ∷ by 2 (kinds.Take 0 0 0) ∷ []) ≡ Some (true, false, None)
unfolding judge read
visible_item_is_no_best_effort_work = refl

-- the second worker runs a task of the sequence
second_sequence_runs : judged (codes "workers 2\nrunner 0 parallel user_visible skip\nrunner 1 sequenced user_visible skip\ntask 0\ntask 1\npost 0 1 0\n"
    ++ codes "post 1 1 0\ntick 1\n")
    (by 0 (kinds.Post 0 1 0 true) ∷ by 0 (kinds.Post 1 1 0 true) ∷ by 2 (kinds.Take 0 1 0) ∷ by 1 (kinds.Take 1 1 0) ∷ []) ≡ Some (false, false, Some 3)
unfolding judge read
second_sequence_runs = refl

abbrev scope_stays_open : List ℕ
scope_stays_open =
    (codes "workers 2\ngroups 1 1 0\nrunner 0 parallel user_visible skip mayblock\nqueue 0 0 1\ntask 0 block will ; unblock\n"
    ++ codes "task 1\njob 0 user_visible skip 0 1\npost 0 0 0\ntick 1\nfence 0 now\nunfence 0\nvote 0 0 on\nrank 0 0\nclose 0\n"
    ++ codes "startjob 0\ncancel 0\njoin 0\npost 1 0 0\nflush\n")

-- entries of other kinds with the number of the task do not close its scope
scope_lasts : judged scope_stays_open
    (by 0 (kinds.Post 0 0 0 true) ∷ by 1 (kinds.Take 0 0 0) ∷ by 1 (kinds.Enter 0 Will) ∷ by 0 (kinds.Tick 0)
    ∷ by 0 (kinds.Fence 0 Now) ∷ by 0 (kinds.Unfence 0) ∷ by 0 (kinds.Vote 0 0 true) ∷ by 0 (kinds.Rank 0 0)
    ∷ by 0 (kinds.Close 0) ∷ by 0 (kinds.JobPost 0 true) ∷ by 0 (kinds.JobCancel 0) ∷ by 0 (kinds.Cancelled 0)
    ∷ by 0 (kinds.Joined 0 (replies.Finished 0)) ∷ by 0 (kinds.Post 1 0 0 true) ∷ by 2 (kinds.Take 1 0 0) ∷ []) ≡ Some (true, false, None)
unfolding judge read
scope_lasts = refl
