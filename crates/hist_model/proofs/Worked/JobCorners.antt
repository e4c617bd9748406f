-- Histories that pin single words of the definitions of jobs: what one job has is not another's, who goes before whom, and when a
-- job may be entered.
use Rattle.std.proofs.Common.{◌≡◌, ℕ, true, false, List, [], ◌∷◌, ◌++◌, refl}
use Rattle.std.specs.Prelude.{codes, Some, None}
use Rattle.task_base.specs.declared.entry.Entry.{Entry}
use Rattle.task_base.specs.declared.entry.JobReply.TheVariants as replies
use Rattle.task_base.specs.declared.entry.Kind.TheVariants as kinds
use Rattle.task_base.specs.Entries.{entry_by as by}
use Rattle.hist_model.proofs.Worked.Rows.{judge, read}
use Rattle.hist_model.proofs.Worked.Corners.{judged}

-- two jobs of two items
abbrev two_jobs : List ℕ
two_jobs = codes "workers 2\njob 0 user_visible skip 2 2 add 1\njob 1 user_visible skip 2 2 add 5\nstartjob 0\nstartjob 1\njoin 0\njoin 1\n"

abbrev two_jobs_start : List Entry
two_jobs_start = by 0 (kinds.JobPost 0 true) ∷ by 0 (kinds.JobPost 1 true) ∷ []

-- each job has its own items and its own sum
jobs_add_up_apart : judged two_jobs
    (two_jobs_start ++ by 0 (kinds.JobTake 0 0 0) ∷ by 0 (kinds.JobStep 0 0 0 1 (Some 1)) ∷ by 0 (kinds.JobStep 0 0 1 2 None)
    ∷ by 0 (kinds.Joined 0 (replies.Finished 3)) ∷ by 0 (kinds.JobTake 1 0 0) ∷ by 0 (kinds.JobStep 1 0 0 5 (Some 1))
    ∷ by 0 (kinds.JobStep 1 0 1 6 None) ∷ by 0 (kinds.Joined 1 (replies.Finished 11)) ∷ []) ≡ Some (true, true, None)
unfolding judge read
jobs_add_up_apart = refl

-- job 1 has fewer inside, though it was posted later, and its numbers and items are its own
seats_inside_are_counted_apart : judged two_jobs (two_jobs_start ++ by 1 (kinds.JobTake 0 0 0) ∷ by 2 (kinds.JobTake 1 0 0) ∷ []) ≡ Some (true, false, None)
unfolding judge read
seats_inside_are_counted_apart = refl

more_inside_goes_first : judged two_jobs (two_jobs_start ++ by 1 (kinds.JobTake 0 0 0) ∷ by 2 (kinds.JobTake 0 1 1) ∷ []) ≡ Some (false, false, Some 3)
unfolding judge read
more_inside_goes_first = refl

other_job_is_not_cancelled : judged (codes "workers 1\njob 0 user_visible skip 1 1\njob 1 user_visible skip 1 1\nstartjob 0\nstartjob 1\ncancel 0\njoin 1\n")
    (by 0 (kinds.JobPost 0 true) ∷ by 0 (kinds.JobPost 1 true) ∷ by 0 (kinds.JobCancel 0) ∷ by 0 (kinds.Cancelled 0)
    ∷ by 0 (kinds.JobTake 1 0 0) ∷ by 0 (kinds.JobStep 1 0 0 0 None) ∷ by 0 (kinds.Joined 1 (replies.Finished 0)) ∷ []) ≡ Some (true, true, None)
unfolding judge read
other_job_is_not_cancelled = refl

cancelled_job_is_not_entered : judged (codes "workers 1\njob 0 user_visible skip 1 1\nstartjob 0\ncancel 0\n")
    (by 0 (kinds.JobPost 0 true) ∷ by 0 (kinds.JobCancel 0) ∷ by 1 (kinds.JobTake 0 0 0) ∷ []) ≡ Some (false, false, Some 2)
unfolding judge read
cancelled_job_is_not_entered = refl

forbidden_job_is_not_entered : judged (codes "workers 1\njob 0 user_visible skip 1 1\nstartjob 0\nshutdown\n")
    (by 0 (kinds.JobPost 0 true) ∷ by 0 kinds.Shutdown ∷ by 1 (kinds.JobTake 0 0 0) ∷ []) ≡ Some (false, false, Some 2)
unfolding judge read
forbidden_job_is_not_entered = refl

-- the job is neither refused, done, cancelled nor forbidden
no_reply_yet : judged (codes "workers 1\njob 0 user_visible skip 1 1\nstartjob 0\njoin 0\n")
    (by 0 (kinds.JobPost 0 true) ∷ by 0 (kinds.Joined 0 replies.Stopped) ∷ []) ≡ Some (false, true, Some 1)
unfolding judge read
no_reply_yet = refl

sum_is_modulo_two_to_the_64 : judged (codes "workers 1\njob 0 user_visible skip 2 1 set 18446744073709551615\nstartjob 0\njoin 0\n")
    (by 0 (kinds.JobPost 0 true) ∷ by 0 (kinds.JobTake 0 0 0) ∷ by 0 (kinds.JobStep 0 0 0 18446744073709551615 (Some 1))
    ∷ by 0 (kinds.JobStep 0 0 1 18446744073709551615 None) ∷ by 0 (kinds.Joined 0 (replies.Finished 18446744073709551614)) ∷ []) ≡ Some (true, true, None)
unfolding judge read
sum_is_modulo_two_to_the_64 = refl

driver_enters_beside_a_worker : judged (codes "workers 1\njob 0 user_visible skip 2 2\nstartjob 0\njoin 0\n")
    (by 0 (kinds.JobPost 0 true) ∷ by 1 (kinds.JobTake 0 0 0) ∷ by 0 (kinds.JobTake 0 1 1) ∷ []) ≡ Some (true, false, None)
unfolding judge read
driver_enters_beside_a_worker = refl

driver_enters_a_job_without_unclaimed_items : judged (codes "workers 1\njob 0 user_visible skip 1 1\nstartjob 0\njoin 0\n")
    (by 0 (kinds.JobPost 0 true) ∷ by 1 (kinds.JobTake 0 0 0) ∷ by 1 (kinds.JobStep 0 0 0 0 None) ∷ by 0 (kinds.JobTake 0 0 1)
    ∷ []) ≡ Some (false, false, Some 3)
unfolding judge read
driver_enters_a_job_without_unclaimed_items = refl

-- a worker is inside the other job
cancel_and_join_wait_for_their_own_job_alone : judged (codes
    "workers 1\njob 0 user_visible skip 1 1\njob 1 user_visible skip 1 1\nstartjob 0\nstartjob 1\ncancel 1\njoin 1\n")
    (by 0 (kinds.JobPost 0 true) ∷ by 0 (kinds.JobPost 1 true) ∷ by 1 (kinds.JobTake 0 0 0) ∷ by 0 (kinds.JobCancel 1)
    ∷ by 0 (kinds.Cancelled 1) ∷ by 0 (kinds.Joined 1 replies.Cancelled) ∷ []) ≡ Some (true, false, None)
unfolding judge read
cancel_and_join_wait_for_their_own_job_alone = refl

job_goes_behind_an_earlier_task : judged
    (codes "workers 1\nrunner 0 parallel user_visible skip\ntask 0\njob 0 user_visible skip 1 1\ntick 1\npost 0 0 0\nstartjob 0\n"
    ++ codes "flush\n")
    (by 0 (kinds.Tick 0) ∷ by 0 (kinds.Post 0 0 0 true) ∷ by 0 (kinds.JobPost 0 true) ∷ by 1 (kinds.JobTake 0 0 0) ∷ []) ≡ Some (false, false, Some 3)
unfolding judge read
job_goes_behind_an_earlier_task = refl

task_goes_behind_an_earlier_job : judged
    (codes "workers 1\nrunner 0 parallel user_visible skip\ntask 0\njob 0 user_visible skip 1 1\nstartjob 0\npost 0 0 0\nflush\n")
    (by 0 (kinds.JobPost 0 true) ∷ by 0 (kinds.Post 0 0 0 true) ∷ by 1 (kinds.Take 0 0 0) ∷ []) ≡ Some (false, false, Some 2)
unfolding judge read
task_goes_behind_an_earlier_job = refl

-- the task matters more, and waits for this worker
job_goes_behind_single_thread_work : judged
    (codes "workers 1\nrunner 0 single:1 user_blocking skip\ntask 0\njob 0 user_visible skip 1 1\nstartjob 0\npost 0 0 0\nflush\n")
    (by 0 (kinds.JobPost 0 true) ∷ by 0 (kinds.Post 0 0 0 true) ∷ by 1 (kinds.JobTake 0 0 0) ∷ []) ≡ Some (false, false, Some 2)
unfolding judge read
job_goes_behind_single_thread_work = refl

block_job_goes_on_after_shutdown : judged (codes "workers 1\njob 0 user_visible continue 0 1\njob 1 user_visible block 2 1\nstartjob 1\nshutdown\n")
    (by 0 (kinds.JobPost 1 true) ∷ by 0 kinds.Shutdown ∷ by 1 (kinds.JobTake 1 0 0) ∷ by 1 (kinds.JobStep 1 0 0 0 (Some 1))
    ∷ by 1 (kinds.JobStep 1 0 1 1 None) ∷ by 0 kinds.Done ∷ []) ≡ Some (true, true, None)
unfolding judge read
block_job_goes_on_after_shutdown = refl

-- job 0 has no items, other limits and another behaviour, and is never posted
second_job_alone : judged (codes "workers 1\njob 0 user_visible continue 0 1\njob 1 user_visible block 3 2 add 5\nstartjob 1\njoin 1\n")
    (by 0 (kinds.JobPost 1 true) ∷ by 0 (kinds.JobTake 1 0 0) ∷ by 1 (kinds.JobTake 1 1 1)
    ∷ by 0 (kinds.JobStep 1 0 0 5 (Some 2)) ∷ by 1 (kinds.JobStep 1 1 1 6 None) ∷ by 0 (kinds.JobStep 1 0 2 7 None)
    ∷ by 0 (kinds.Joined 1 (replies.Finished 18)) ∷ []) ≡ Some (true, true, None)
unfolding judge read
second_job_alone = refl

goes_on_while_another_job_is_cancelled : judged
    (codes "workers 1\njob 0 user_visible skip 1 1\njob 1 user_visible skip 2 1\nstartjob 1\nstartjob 0\ncancel 0\ntick 1\n")
    (by 0 (kinds.JobPost 1 true) ∷ by 0 (kinds.JobPost 0 true) ∷ by 1 (kinds.JobTake 1 0 0) ∷ by 0 (kinds.JobCancel 0)
    ∷ by 1 (kinds.JobStep 1 0 0 0 (Some 1)) ∷ []) ≡ Some (true, false, None)
unfolding judge read
goes_on_while_another_job_is_cancelled = refl

fewer_inside_before_earlier_post : judged (codes "workers 2\njob 0 user_visible skip 2 2\njob 1 user_visible skip 2 2\nstartjob 1\nstartjob 0\nflush\n")
    (by 0 (kinds.JobPost 1 true) ∷ by 0 (kinds.JobPost 0 true) ∷ by 1 (kinds.JobTake 1 0 0) ∷ by 2 (kinds.JobTake 0 0 0) ∷ []) ≡ Some (true, false, None)
unfolding judge read
fewer_inside_before_earlier_post = refl

job_for_another_worker_than_the_single_thread : judged (codes
    "workers 2\nrunner 0 single:1 user_blocking skip\ntask 0\njob 0 user_visible skip 1 1\nstartjob 0\npost 0 0 0\nflush\n")
    (by 0 (kinds.JobPost 0 true) ∷ by 0 (kinds.Post 0 0 0 true) ∷ by 2 (kinds.JobTake 0 0 0) ∷ []) ≡ Some (true, false, None)
unfolding judge read
job_for_another_worker_than_the_single_thread = refl

best_effort_job_makes_way_for_visible_work : judged
    (codes "workers 1\ngroups 1 1 0\nrunner 0 parallel user_visible skip\ntask 0\njob 0 user_blocking skip 1 1\n"
    ++ codes "job 1 best_effort skip 2 1\nstartjob 1\npost 0 0 0\ntick 1\n")
    (by 0 (kinds.JobPost 1 true) ∷ by 1 (kinds.JobTake 1 0 0) ∷ by 0 (kinds.Post 0 0 0 true) ∷ by 1 (kinds.JobStep 1 0 0 0 None)
    ∷ []) ≡ Some (true, false, None)
unfolding judge read
best_effort_job_makes_way_for_visible_work = refl

second_job_is_full : judged (codes "workers 2\njob 0 user_visible skip 2 2\njob 1 user_visible skip 2 1\nstartjob 1\nflush\n")
    (by 0 (kinds.JobPost 1 true) ∷ by 1 (kinds.JobTake 1 0 0) ∷ by 2 (kinds.JobTake 1 1 1) ∷ []) ≡ Some (false, false, Some 2)
unfolding judge read
second_job_is_full = refl

task_goes_before_a_job_with_a_worker_inside : judged
    (codes "workers 2\nrunner 0 parallel user_visible skip\ntask 0\njob 0 user_visible skip 1 1\njob 1 user_visible skip 2 2\n"
    ++ codes "startjob 1\npost 0 0 0\nflush\n")
    (by 0 (kinds.JobPost 1 true) ∷ by 1 (kinds.JobTake 1 0 0) ∷ by 0 (kinds.Post 0 0 0 true) ∷ by 2 (kinds.Take 0 0 0) ∷ []) ≡ Some (true, false, None)
unfolding judge read
task_goes_before_a_job_with_a_worker_inside = refl

one_inside_goes_before_two : judged (codes "workers 4\njob 0 user_visible skip 4 4\njob 1 user_visible skip 4 4\nstartjob 1\nstartjob 0\nflush\n")
    (by 0 (kinds.JobPost 1 true) ∷ by 0 (kinds.JobPost 0 true) ∷ by 1 (kinds.JobTake 1 0 0) ∷ by 2 (kinds.JobTake 0 0 0)
    ∷ by 3 (kinds.JobTake 1 1 1) ∷ by 4 (kinds.JobTake 0 1 1) ∷ []) ≡ Some (true, false, None)
unfolding judge read
one_inside_goes_before_two = refl

-- the queue with the number of the job is off
job_asks_no_queue : judged (codes "workers 1\nqueue 0 0 1\njob 0 user_visible block 1 1\nvote 0 0 off\nstartjob 0\nflush\nshutdown\n")
    (by 0 (kinds.Vote 0 0 false) ∷ by 0 (kinds.JobPost 0 true) ∷ by 1 (kinds.JobTake 0 0 0) ∷ by 1 (kinds.JobStep 0 0 0 0 None)
    ∷ by 0 kinds.Idle ∷ by 0 kinds.Shutdown ∷ by 0 kinds.Done ∷ []) ≡ Some (true, true, None)
unfolding judge read
job_asks_no_queue = refl

better_job_before_earlier_job : judged (codes "workers 1\njob 0 user_visible skip 1 1\njob 1 best_effort skip 1 1\nstartjob 1\nstartjob 0\nflush\n")
    (by 0 (kinds.JobPost 1 true) ∷ by 0 (kinds.JobPost 0 true) ∷ by 1 (kinds.JobTake 0 0 0) ∷ []) ≡ Some (true, false, None)
unfolding judge read
better_job_before_earlier_job = refl

second_job_done_first : judged (codes "workers 1\njob 0 user_visible skip 1 1\njob 1 user_visible skip 1 1\nstartjob 1\njoin 1\nstartjob 0\njoin 0\n")
    (by 0 (kinds.JobPost 1 true) ∷ by 0 (kinds.JobTake 1 0 0) ∷ by 0 (kinds.JobStep 1 0 0 0 None)
    ∷ by 0 (kinds.Joined 1 (replies.Finished 0)) ∷ by 0 (kinds.JobPost 0 true) ∷ by 0 (kinds.JobTake 0 0 0)
    ∷ by 0 (kinds.JobStep 0 0 0 0 None) ∷ by 0 (kinds.Joined 0 (replies.Finished 0)) ∷ []) ≡ Some (true, true, None)
unfolding judge read
second_job_done_first = refl

job_posts_no_main_task : judged (codes "workers 1\nqueue 0 0 0\ntask 0\njob 0 user_visible skip 1 1\nstartjob 0\njoin 0\npump 1\n")
    (by 0 (kinds.JobPost 0 true) ∷ by 0 (kinds.JobTake 0 0 0) ∷ by 0 (kinds.JobStep 0 0 0 0 None)
    ∷ by 0 (kinds.Joined 0 (replies.Finished 0)) ∷ by 0 kinds.MainNone ∷ []) ≡ Some (true, true, None)
unfolding judge read
job_posts_no_main_task = refl
