-- Histories that pin single words of the definitions of shutdown: what is refused, what is waited for, and what is not.
use Rattle.std.proofs.Common.{◌≡◌, ℕ, true, false, List, [], ◌∷◌, ◌++◌, refl}
use Rattle.std.specs.Prelude.{codes, Some, None}
use Rattle.task_base.specs.declared.entry.Entry.{Entry}
use Rattle.task_base.specs.declared.entry.JobReply.TheVariants as replies
use Rattle.task_base.specs.declared.entry.Kind.TheVariants as kinds
use Rattle.task_base.specs.declared.script.FenceAt.TheVariants.{Now}
use Rattle.task_base.specs.Entries.{entry_by as by}
use Rattle.hist_model.proofs.Worked.Rows.{judge, read}
use Rattle.hist_model.proofs.Worked.Corners.{judged}

abbrev done_while_a_task_runs : List Entry
done_while_a_task_runs = by 0 (kinds.Post 0 0 0 true) ∷ by 1 (kinds.Take 0 0 0) ∷ by 0 kinds.Shutdown ∷ by 0 kinds.Done ∷ []

running_skip_task_is_waited_for : judged (codes "workers 1\nrunner 0 parallel user_visible skip\ntask 0\npost 0 0 0\nshutdown\n") done_while_a_task_runs
    ≡ Some (false, false, Some 3)
unfolding judge read
running_skip_task_is_waited_for = refl

running_continue_task_is_not_waited_for : judged (codes "workers 1\nrunner 0 parallel user_visible continue\ntask 0\npost 0 0 0\nshutdown\n")
    done_while_a_task_runs ≡ Some (true, false, None)
unfolding judge read
running_continue_task_is_not_waited_for = refl

seat_inside_a_skip_job_is_waited_for : judged (codes "workers 1\njob 0 user_visible continue 1 1\njob 1 user_visible skip 1 1\nstartjob 1\nshutdown\n")
    (by 0 (kinds.JobPost 1 true) ∷ by 1 (kinds.JobTake 1 0 0) ∷ by 0 kinds.Shutdown ∷ by 0 kinds.Done ∷ []) ≡ Some (false, false, Some 3)
unfolding judge read
seat_inside_a_skip_job_is_waited_for = refl

-- nobody waits for it
block_job_that_was_not_posted : judged (codes "workers 1\njob 0 user_visible block 1 1\nshutdown\n") (by 0 kinds.Shutdown ∷ by 0 kinds.Done ∷ [])
    ≡ Some (true, true, None)
unfolding judge read
block_job_that_was_not_posted = refl

one_block_task_of_two_has_ended : judged (codes "workers 1\nrunner 0 parallel user_visible block\ntask 0\ntask 1\npost 1 0 0\npost 0 0 0\nshutdown\n")
    (by 0 (kinds.Post 1 0 0 true) ∷ by 0 (kinds.Post 0 0 0 true) ∷ by 1 (kinds.Take 1 0 0) ∷ by 1 (kinds.End 1 0)
    ∷ by 0 kinds.Shutdown ∷ by 0 kinds.Done ∷ []) ≡ Some (false, true, Some 5)
unfolding judge read
one_block_task_of_two_has_ended = refl

-- a block task with a delay of 1 is a skip task
least_delay_makes_a_skip_task : judged (codes "workers 1\nrunner 0 parallel user_visible block\ntask 0\npost 0 0 1\nshutdown\n")
    (by 0 (kinds.Post 0 0 1 true) ∷ by 0 kinds.Shutdown ∷ by 0 kinds.Done ∷ []) ≡ Some (true, true, None)
unfolding judge read
least_delay_makes_a_skip_task = refl

running_block_task_is_waited_for : judged (codes "workers 1\nrunner 0 parallel user_visible block\ntask 0\npost 0 0 0\nshutdown\n") done_while_a_task_runs
    ≡ Some (false, false, Some 3)
unfolding judge read
running_block_task_is_waited_for = refl

running_task_counts_by_its_runner : judged
    (codes "workers 1\nrunner 0 parallel user_visible continue\nrunner 1 parallel user_visible skip\ntask 0\npost 0 1 0\nshutdown\n")
    (by 0 (kinds.Post 0 1 0 true) ∷ by 1 (kinds.Take 0 1 0) ∷ by 0 kinds.Shutdown ∷ by 0 kinds.Done ∷ []) ≡ Some (false, false, Some 3)
unfolding judge read
running_task_counts_by_its_runner = refl

delayed_block_task_that_runs_is_waited_for : judged (codes "workers 1\nrunner 0 parallel user_visible block\ntask 0\npost 0 0 1\ntick 1\nshutdown\n")
    (by 0 (kinds.Post 0 0 1 true) ∷ by 0 (kinds.Tick 1) ∷ by 1 (kinds.Take 0 0 0) ∷ by 0 kinds.Shutdown ∷ by 0 kinds.Done ∷ []) ≡ Some (false, false, Some 4)
unfolding judge read
delayed_block_task_that_runs_is_waited_for = refl

-- it has no delay, though its ripe moment is above 0
block_task_that_was_posted_late : judged (codes "workers 1\nrunner 0 parallel user_visible block\ntask 0\ntick 1\npost 0 0 0\nshutdown\n")
    (by 0 (kinds.Tick 5) ∷ by 0 (kinds.Post 0 0 0 true) ∷ by 0 kinds.Shutdown ∷ by 0 kinds.Done ∷ []) ≡ Some (false, true, Some 3)
unfolding judge read
block_task_that_was_posted_late = refl

-- one has ended, and the other was not taken
skip_tasks_that_do_not_run : judged (codes "workers 1\nrunner 0 parallel user_visible skip\ntask 0\ntask 1\ntick 1\npost 0 0 0\npost 1 0 0\nshutdown\n")
    (by 0 (kinds.Tick 0) ∷ by 0 (kinds.Post 0 0 0 true) ∷ by 1 (kinds.Take 0 0 0) ∷ by 1 (kinds.End 0 0)
    ∷ by 0 (kinds.Post 1 0 0 true) ∷ by 0 kinds.Shutdown ∷ by 0 kinds.Done ∷ []) ≡ Some (true, true, None)
unfolding judge read
skip_tasks_that_do_not_run = refl

seat_inside_a_block_job_is_waited_for : judged (codes "workers 1\njob 0 user_visible block 1 1\nstartjob 0\nshutdown\n")
    (by 0 (kinds.JobPost 0 true) ∷ by 1 (kinds.JobTake 0 0 0) ∷ by 0 kinds.Shutdown ∷ by 0 kinds.Done ∷ []) ≡ Some (false, false, Some 3)
unfolding judge read
seat_inside_a_block_job_is_waited_for = refl

refused_by_the_runner_that_is_posted_to : judged
    (codes "workers 1\nrunner 0 parallel user_visible block\nrunner 1 parallel user_visible skip\ntask 0\ntask 1 post 0 1 0\n"
    ++ codes "post 1 0 0\nshutdown\n")
    (by 0 (kinds.Post 1 0 0 true) ∷ by 1 (kinds.Take 1 0 0) ∷ by 0 kinds.Shutdown ∷ by 1 (kinds.Post 0 1 0 false) ∷ []) ≡ Some (true, false, None)
unfolding judge read
refused_by_the_runner_that_is_posted_to = refl

continue_task_does_not_start_after_shutdown : judged (codes "workers 1\nrunner 0 parallel user_visible continue\ntask 0\npost 0 0 0\nshutdown\n")
    (by 0 (kinds.Post 0 0 0 true) ∷ by 0 kinds.Shutdown ∷ by 1 (kinds.Take 0 0 0) ∷ []) ≡ Some (false, false, Some 2)
unfolding judge read
continue_task_does_not_start_after_shutdown = refl

second_block_job_is_waited_for : judged (codes "workers 1\njob 0 user_visible continue 0 1\njob 1 user_visible block 1 1\nstartjob 1\nshutdown\n")
    (by 0 (kinds.JobPost 1 true) ∷ by 0 kinds.Shutdown ∷ by 0 kinds.Done ∷ []) ≡ Some (false, true, Some 2)
unfolding judge read
second_block_job_is_waited_for = refl

second_worker_inside_a_skip_job : judged (codes "workers 2\njob 0 user_visible skip 1 1\njob 1 user_visible continue 1 1\nstartjob 0\nshutdown\n")
    (by 0 (kinds.JobPost 0 true) ∷ by 2 (kinds.JobTake 0 0 0) ∷ by 0 kinds.Shutdown ∷ by 0 kinds.Done ∷ []) ≡ Some (false, false, Some 3)
unfolding judge read
second_worker_inside_a_skip_job = refl

accepted_by_the_runner_that_is_posted_to : judged
    (codes "workers 1\nrunner 0 parallel user_visible skip\nrunner 1 parallel user_visible block\ntask 0\ntask 1 post 0 1 0\n"
    ++ codes "post 1 1 0\nshutdown\n")
    (by 0 (kinds.Post 1 1 0 true) ∷ by 1 (kinds.Take 1 1 0) ∷ by 0 kinds.Shutdown ∷ by 1 (kinds.Post 0 1 0 true) ∷ []) ≡ Some (true, false, None)
unfolding judge read
accepted_by_the_runner_that_is_posted_to = refl

another_job_was_cancelled : judged (codes "workers 1\njob 0 user_visible block 1 1\njob 1 user_visible block 1 1\nstartjob 0\nstartjob 1\ncancel 0\nshutdown\n")
    (by 0 (kinds.JobPost 0 true) ∷ by 0 (kinds.JobPost 1 true) ∷ by 0 (kinds.JobCancel 0) ∷ by 0 (kinds.Cancelled 0)
    ∷ by 0 kinds.Shutdown ∷ by 0 kinds.Done ∷ []) ≡ Some (false, true, Some 5)
unfolding judge read
another_job_was_cancelled = refl

abbrev task_waits_through_all : List ℕ
task_waits_through_all =
    (codes "workers 1\nrunner 0 parallel user_visible block\nqueue 0 0 1\ntask 0\njob 0 user_visible skip 0 1\npost 0 0 0\ntick 1\n"
    ++ codes "fence 0 now\nunfence 0\nvote 0 0 on\nrank 0 0\nclose 0\nstartjob 0\ncancel 0\njoin 0\nshutdown\n")

abbrev all_before_the_shutdown : List Entry
all_before_the_shutdown =
    by 0 (kinds.Post 0 0 0 true) ∷ by 0 (kinds.Tick 0) ∷ by 0 (kinds.Fence 0 Now) ∷ by 0 (kinds.Unfence 0) ∷ by 0 (kinds.Vote 0 0 true)
    ∷ by 0 (kinds.Rank 0 0) ∷ by 0 (kinds.Close 0) ∷ by 0 (kinds.JobPost 0 true) ∷ by 0 (kinds.JobCancel 0) ∷ by 0 (kinds.Cancelled 0)
    ∷ by 0 (kinds.Joined 0 (replies.Finished 0)) ∷ by 0 kinds.Shutdown ∷ []

-- entries of other kinds with the number of the task do not end it
not_ended_by_other_kinds : judged task_waits_through_all (all_before_the_shutdown ++ by 0 kinds.Done ∷ []) ≡ Some (false, true, Some 12)
unfolding judge read
not_ended_by_other_kinds = refl

not_taken_by_other_kinds : judged task_waits_through_all (all_before_the_shutdown ++ by 1 (kinds.Take 0 0 0) ∷ by 1 (kinds.End 0 0) ∷ by 0 kinds.Done ∷ [])
    ≡ Some (true, true, None)
unfolding judge read
not_taken_by_other_kinds = refl
