-- What the script wants, and who may enter it: histories whose last entry names another task, runner, queue or job than the
-- script or the task does, or comes unasked.
use Rattle.std.proofs.Common.{◌≡◌, ℕ, true, false, List, [], ◌∷◌, ◌++◌, refl}
use Rattle.std.specs.Prelude.{codes, Some, None}
use Rattle.task_base.specs.declared.entry.Entry.{Entry}
use Rattle.task_base.specs.declared.entry.JobReply.TheVariants as replies
use Rattle.task_base.specs.declared.entry.Kind.TheVariants as kinds
use Rattle.task_base.specs.declared.policy.Policy.TheVariants as policies
use Rattle.task_base.specs.declared.script.FenceAt.TheVariants.{Now, Start}
use Rattle.task_base.specs.declared.step.Scope.TheVariants.{Will}
use Rattle.task_base.specs.Entries.{entry_by as by}
use Rattle.hist_model.proofs.Worked.Rows.{judge, read}
use Rattle.hist_model.proofs.Worked.Corners.{judged}

-- two runners, main queues and tasks, two jobs of two items, and one without items; the actions follow
abbrev two_of_each : List ℕ
two_of_each =
    (codes "workers 2\nrunner 0 parallel user_visible skip\nrunner 1 parallel user_visible skip\nqueue 0 0 0\nqueue 1 0 0\ntask 0\n"
    ++ codes "task 1\njob 0 user_visible skip 2 2\njob 1 user_visible skip 2 2\njob 2 user_visible skip 0 1\n")

-- ---- another one than the action says

another_task_is_posted : judged (two_of_each ++ codes "post 0 0 0\n") (by 0 (kinds.Post 1 0 0 true) ∷ []) ≡ Some (false, true, Some 0)
unfolding judge read
another_task_is_posted = refl

another_runner_is_posted_to : judged (two_of_each ++ codes "post 0 0 0\n") (by 0 (kinds.Post 0 1 0 true) ∷ []) ≡ Some (false, true, Some 0)
unfolding judge read
another_runner_is_posted_to = refl

another_main_task_is_posted : judged (two_of_each ++ codes "main 0 0 5\n") (by 0 (kinds.Main 1 0 5 true) ∷ []) ≡ Some (false, true, Some 0)
unfolding judge read
another_main_task_is_posted = refl

another_main_queue_is_posted_to : judged (two_of_each ++ codes "main 0 0 5\n") (by 0 (kinds.Main 0 1 5 true) ∷ []) ≡ Some (false, true, Some 0)
unfolding judge read
another_main_queue_is_posted_to = refl

another_delay_of_a_main_task : judged (two_of_each ++ codes "main 0 0 5\n") (by 0 (kinds.Main 0 0 4 true) ∷ []) ≡ Some (false, true, Some 0)
unfolding judge read
another_delay_of_a_main_task = refl

another_queue_is_fenced : judged (two_of_each ++ codes "fence 0 now\n") (by 0 (kinds.Fence 1 Now) ∷ []) ≡ Some (false, true, Some 0)
unfolding judge read
another_queue_is_fenced = refl

another_fence_is_set : judged (two_of_each ++ codes "fence 0 now\n") (by 0 (kinds.Fence 0 Start) ∷ []) ≡ Some (false, true, Some 0)
unfolding judge read
another_fence_is_set = refl

another_queue_is_unfenced : judged (two_of_each ++ codes "unfence 0\n") (by 0 (kinds.Unfence 1) ∷ []) ≡ Some (false, true, Some 0)
unfolding judge read
another_queue_is_unfenced = refl

another_queue_is_ranked : judged (two_of_each ++ codes "rank 0 3\n") (by 0 (kinds.Rank 1 3) ∷ []) ≡ Some (false, true, Some 0)
unfolding judge read
another_queue_is_ranked = refl

another_class_is_given : judged (two_of_each ++ codes "rank 0 3\n") (by 0 (kinds.Rank 0 2) ∷ []) ≡ Some (false, true, Some 0)
unfolding judge read
another_class_is_given = refl

another_queue_is_closed : judged (two_of_each ++ codes "close 0\n") (by 0 (kinds.Close 1) ∷ []) ≡ Some (false, true, Some 0)
unfolding judge read
another_queue_is_closed = refl

another_policy_is_set : judged (two_of_each ++ codes "policy none\n") (by 0 (kinds.Policy policies.All) ∷ []) ≡ Some (false, true, Some 0)
unfolding judge read
another_policy_is_set = refl

another_job_is_started : judged (two_of_each ++ codes "startjob 0\n") (by 0 (kinds.JobPost 1 true) ∷ []) ≡ Some (false, true, Some 0)
unfolding judge read
another_job_is_started = refl

another_job_is_entered_at_a_join : judged (two_of_each ++ codes "startjob 0\nstartjob 1\njoin 0\n")
    (by 0 (kinds.JobPost 0 true) ∷ by 0 (kinds.JobPost 1 true) ∷ by 0 (kinds.JobTake 1 0 0) ∷ []) ≡ Some (false, false, Some 2)
unfolding judge read
another_job_is_entered_at_a_join = refl

-- job 2 has no items, so its join would have a reply at once
another_job_is_joined : judged (two_of_each ++ codes "startjob 0\nstartjob 2\njoin 0\n")
    (by 0 (kinds.JobPost 0 true) ∷ by 0 (kinds.JobPost 2 true) ∷ by 0 (kinds.Joined 2 (replies.Finished 0)) ∷ []) ≡ Some (false, true, Some 2)
unfolding judge read
another_job_is_joined = refl

another_job_is_cancelled : judged (two_of_each ++ codes "startjob 0\nstartjob 1\ncancel 0\n")
    (by 0 (kinds.JobPost 0 true) ∷ by 0 (kinds.JobPost 1 true) ∷ by 0 (kinds.JobCancel 1) ∷ []) ≡ Some (false, false, Some 2)
unfolding judge read
another_job_is_cancelled = refl

another_cancel_is_over : judged (two_of_each ++ codes "startjob 0\nstartjob 1\ncancel 1\ncancel 0\n")
    (by 0 (kinds.JobPost 0 true) ∷ by 0 (kinds.JobPost 1 true) ∷ by 0 (kinds.JobCancel 1) ∷ by 0 (kinds.Cancelled 1)
    ∷ by 0 (kinds.JobCancel 0) ∷ by 0 (kinds.Cancelled 1) ∷ []) ≡ Some (false, true, Some 5)
unfolding judge read
another_cancel_is_over = refl

-- ---- too early in an action, or twice

-- the driver holds an item
second_item_at_a_join : judged (two_of_each ++ codes "startjob 0\njoin 0\n")
    (by 0 (kinds.JobPost 0 true) ∷ by 0 (kinds.JobTake 0 0 0) ∷ by 0 (kinds.JobTake 0 1 1) ∷ []) ≡ Some (false, false, Some 2)
unfolding judge read
second_item_at_a_join = refl

-- the driver runs a main task
second_main_task_at_a_pump : judged (two_of_each ++ codes "main 0 0 0\nmain 1 0 0\npump 2\n")
    (by 0 (kinds.Main 0 0 0 true) ∷ by 0 (kinds.Main 1 0 0 true) ∷ by 0 (kinds.MainTake 0 0 0) ∷ by 0 (kinds.MainTake 1 0 0)
    ∷ []) ≡ Some (false, false, Some 3)
unfolding judge read
second_main_task_at_a_pump = refl

none_while_a_main_task_runs : judged (two_of_each ++ codes "main 0 0 0\npump 2\n")
    (by 0 (kinds.Main 0 0 0 true) ∷ by 0 (kinds.MainTake 0 0 0) ∷ by 0 kinds.MainNone ∷ []) ≡ Some (false, false, Some 2)
unfolding judge read
none_while_a_main_task_runs = refl

cancelled_twice : judged (two_of_each ++ codes "startjob 0\ncancel 0\n")
    (by 0 (kinds.JobPost 0 true) ∷ by 0 (kinds.JobCancel 0) ∷ by 0 (kinds.JobCancel 0) ∷ []) ≡ Some (false, true, Some 2)
unfolding judge read
cancelled_twice = refl

-- the job is cancelled by the first cancel, and the second comes next
cancel_is_over_before_it_starts : judged (two_of_each ++ codes "startjob 0\ncancel 0\ncancel 0\n")
    (by 0 (kinds.JobPost 0 true) ∷ by 0 (kinds.JobCancel 0) ∷ by 0 (kinds.Cancelled 0) ∷ by 0 (kinds.Cancelled 0) ∷ []) ≡ Some (false, false, Some 3)
unfolding judge read
cancel_is_over_before_it_starts = refl

ticks_inside_a_shutdown : judged (two_of_each ++ codes "shutdown\n") (by 0 kinds.Shutdown ∷ by 0 (kinds.Tick 0) ∷ []) ≡ Some (false, true, Some 1)
unfolding judge read
ticks_inside_a_shutdown = refl

shut_down_twice : judged (two_of_each ++ codes "shutdown\n") (by 0 kinds.Shutdown ∷ by 0 kinds.Shutdown ∷ []) ≡ Some (false, true, Some 1)
unfolding judge read
shut_down_twice = refl

-- ---- unasked, or by another seat

ticks_unasked : judged (two_of_each ++ codes "flush\n") (by 0 (kinds.Tick 0) ∷ []) ≡ Some (false, true, Some 0)
unfolding judge read
ticks_unasked = refl

idle_unasked : judged (two_of_each ++ codes "tick 1\n") (by 0 kinds.Idle ∷ []) ≡ Some (false, true, Some 0)
unfolding judge read
idle_unasked = refl

none_unasked : judged (two_of_each ++ codes "tick 1\n") (by 0 kinds.MainNone ∷ []) ≡ Some (false, true, Some 0)
unfolding judge read
none_unasked = refl

main_end_unasked : judged (two_of_each ++ codes "tick 1\n") (by 0 (kinds.MainEnd 0 0) ∷ []) ≡ Some (false, true, Some 0)
unfolding judge read
main_end_unasked = refl

job_started_unasked : judged (two_of_each ++ codes "tick 1\n") (by 0 (kinds.JobPost 0 true) ∷ []) ≡ Some (false, true, Some 0)
unfolding judge read
job_started_unasked = refl

joined_unasked : judged (two_of_each ++ codes "startjob 2\ntick 1\n") (by 0 (kinds.JobPost 2 true) ∷ by 0 (kinds.Joined 2 (replies.Finished 0)) ∷ [])
    ≡ Some (false, true, Some 1)
unfolding judge read
joined_unasked = refl

driver_enters_a_job_unasked : judged (two_of_each ++ codes "startjob 0\nflush\n") (by 0 (kinds.JobPost 0 true) ∷ by 0 (kinds.JobTake 0 0 0) ∷ [])
    ≡ Some (false, false, Some 1)
unfolding judge read
driver_enters_a_job_unasked = refl

cancelled_by_a_worker : judged (two_of_each ++ codes "startjob 0\ncancel 0\n")
    (by 0 (kinds.JobPost 0 true) ∷ by 0 (kinds.JobCancel 0) ∷ by 1 (kinds.Cancelled 0) ∷ []) ≡ Some (false, false, Some 2)
unfolding judge read
cancelled_by_a_worker = refl

done_by_a_worker : judged (two_of_each ++ codes "shutdown\n") (by 0 kinds.Shutdown ∷ by 1 kinds.Done ∷ []) ≡ Some (false, false, Some 1)
unfolding judge read
done_by_a_worker = refl

main_task_posted_by_a_worker : judged (two_of_each ++ codes "main 0 0 0\n") (by 1 (kinds.Main 0 0 0 true) ∷ []) ≡ Some (false, false, Some 0)
unfolding judge read
main_task_posted_by_a_worker = refl

ticks_by_a_worker : judged (two_of_each ++ codes "tick 1\n") (by 1 (kinds.Tick 0) ∷ []) ≡ Some (false, false, Some 0)
unfolding judge read
ticks_by_a_worker = refl

policy_by_a_worker : judged (two_of_each ++ codes "policy none\n") (by 1 (kinds.Policy policies.Nothing) ∷ []) ≡ Some (false, false, Some 0)
unfolding judge read
policy_by_a_worker = refl

unfenced_by_a_worker : judged (two_of_each ++ codes "unfence 0\n") (by 1 (kinds.Unfence 0) ∷ []) ≡ Some (false, false, Some 0)
unfolding judge read
unfenced_by_a_worker = refl

vote_by_a_worker : judged (codes "queue 0 0 1\nvote 0 0 off\n") (by 1 (kinds.Vote 0 0 false) ∷ []) ≡ Some (false, false, Some 0)
unfolding judge read
vote_by_a_worker = refl

ranked_by_a_worker : judged (two_of_each ++ codes "rank 0 3\n") (by 1 (kinds.Rank 0 3) ∷ []) ≡ Some (false, false, Some 0)
unfolding judge read
ranked_by_a_worker = refl

closed_by_a_worker : judged (two_of_each ++ codes "close 0\n") (by 1 (kinds.Close 0) ∷ []) ≡ Some (false, false, Some 0)
unfolding judge read
closed_by_a_worker = refl

none_by_a_worker : judged (two_of_each ++ codes "pump 1\n") (by 1 kinds.MainNone ∷ []) ≡ Some (false, false, Some 0)
unfolding judge read
none_by_a_worker = refl

job_started_by_a_worker : judged (two_of_each ++ codes "startjob 0\n") (by 1 (kinds.JobPost 0 true) ∷ []) ≡ Some (false, false, Some 0)
unfolding judge read
job_started_by_a_worker = refl

job_cancelled_by_a_worker : judged (two_of_each ++ codes "startjob 0\ncancel 0\n") (by 0 (kinds.JobPost 0 true) ∷ by 1 (kinds.JobCancel 0) ∷ [])
    ≡ Some (false, false, Some 1)
unfolding judge read
job_cancelled_by_a_worker = refl

joined_by_a_worker : judged (two_of_each ++ codes "startjob 2\njoin 2\n") (by 0 (kinds.JobPost 2 true) ∷ by 1 (kinds.Joined 2 (replies.Finished 0)) ∷ [])
    ≡ Some (false, false, Some 1)
unfolding judge read
joined_by_a_worker = refl

idle_by_a_worker : judged (two_of_each ++ codes "flush\n") (by 1 kinds.Idle ∷ []) ≡ Some (false, false, Some 0)
unfolding judge read
idle_by_a_worker = refl

shut_down_by_a_worker : judged (two_of_each ++ codes "shutdown\n") (by 1 kinds.Shutdown ∷ []) ≡ Some (false, false, Some 0)
unfolding judge read
shut_down_by_a_worker = refl

-- ---- refused without cause

main_post_refused_without_cause : judged (two_of_each ++ codes "main 0 0 0\n") (by 0 (kinds.Main 0 0 0 false) ∷ []) ≡ Some (false, true, Some 0)
unfolding judge read
main_post_refused_without_cause = refl

main_post_to_a_closed_queue : judged (two_of_each ++ codes "close 0\nmain 0 0 0\n") (by 0 (kinds.Close 0) ∷ by 0 (kinds.Main 0 0 0 true) ∷ [])
    ≡ Some (false, true, Some 1)
unfolding judge read
main_post_to_a_closed_queue = refl

job_refused_without_cause : judged (two_of_each ++ codes "startjob 0\n") (by 0 (kinds.JobPost 0 false) ∷ []) ≡ Some (false, true, Some 0)
unfolding judge read
job_refused_without_cause = refl

-- ---- another one than the seat runs, or than its choice

another_runner_is_taken_from : judged (two_of_each ++ codes "post 0 0 0\nflush\n") (by 0 (kinds.Post 0 0 0 true) ∷ by 1 (kinds.Take 0 1 0) ∷ [])
    ≡ Some (false, false, Some 1)
unfolding judge read
another_runner_is_taken_from = refl

another_task_is_ended : judged (two_of_each ++ codes "post 0 0 0\nflush\n")
    (by 0 (kinds.Post 0 0 0 true) ∷ by 1 (kinds.Take 0 0 0) ∷ by 1 (kinds.End 1 0) ∷ []) ≡ Some (false, false, Some 2)
unfolding judge read
another_task_is_ended = refl

another_main_queue_is_taken_from : judged (two_of_each ++ codes "main 0 0 0\npump 1\n") (by 0 (kinds.Main 0 0 0 true) ∷ by 0 (kinds.MainTake 0 1 0) ∷ [])
    ≡ Some (false, false, Some 1)
unfolding judge read
another_main_queue_is_taken_from = refl

main_task_is_ended_as_one_of_the_pool : judged (two_of_each ++ codes "main 0 0 0\npump 1\n")
    (by 0 (kinds.Main 0 0 0 true) ∷ by 0 (kinds.MainTake 0 0 0) ∷ by 0 (kinds.End 0 0) ∷ []) ≡ Some (false, false, Some 2)
unfolding judge read
main_task_is_ended_as_one_of_the_pool = refl

another_main_task_is_ended : judged (two_of_each ++ codes "main 0 0 0\npump 1\n")
    (by 0 (kinds.Main 0 0 0 true) ∷ by 0 (kinds.MainTake 0 0 0) ∷ by 0 (kinds.MainEnd 1 0) ∷ []) ≡ Some (false, true, Some 2)
unfolding judge read
another_main_task_is_ended = refl

main_task_leaves_another_value : judged (two_of_each ++ codes "main 0 0 0\npump 1\n")
    (by 0 (kinds.Main 0 0 0 true) ∷ by 0 (kinds.MainTake 0 0 0) ∷ by 0 (kinds.MainEnd 0 1) ∷ []) ≡ Some (false, true, Some 2)
unfolding judge read
main_task_leaves_another_value = refl

-- job 0 was posted first
another_job_than_the_best : judged (two_of_each ++ codes "startjob 0\nstartjob 1\nflush\n")
    (by 0 (kinds.JobPost 0 true) ∷ by 0 (kinds.JobPost 1 true) ∷ by 1 (kinds.JobTake 1 0 0) ∷ []) ≡ Some (false, false, Some 2)
unfolding judge read
another_job_than_the_best = refl

item_of_another_job_is_ended : judged (two_of_each ++ codes "startjob 0\nflush\n")
    (by 0 (kinds.JobPost 0 true) ∷ by 1 (kinds.JobTake 0 0 0) ∷ by 1 (kinds.JobStep 1 0 0 0 (Some 0)) ∷ []) ≡ Some (false, false, Some 2)
unfolding judge read
item_of_another_job_is_ended = refl

item_is_ended_under_another_number : judged (two_of_each ++ codes "startjob 0\nflush\n")
    (by 0 (kinds.JobPost 0 true) ∷ by 1 (kinds.JobTake 0 0 0) ∷ by 1 (kinds.JobStep 0 1 0 0 (Some 1)) ∷ []) ≡ Some (false, false, Some 2)
unfolding judge read
item_is_ended_under_another_number = refl

-- the other worker may take nothing
idle_while_one_worker_may_take : judged (codes "workers 2\nrunner 0 single:2 user_visible skip\ntask 0\npost 0 0 0\nflush\n")
    (by 0 (kinds.Post 0 0 0 true) ∷ by 0 kinds.Idle ∷ []) ≡ Some (false, true, Some 1)
unfolding judge read
idle_while_one_worker_may_take = refl

abbrev blocks_behind_a_post : List ℕ
blocks_behind_a_post =
    codes "workers 1\nrunner 0 parallel user_visible skip mayblock\nqueue 0 0 0\ntask 0\ntask 1 add 3 ; main 0 0 0 ; block will ; unblock\npost 1 0 0\nflush\n"

abbrev blocking_task_runs : List Entry
blocking_task_runs = by 0 (kinds.Post 1 0 0 true) ∷ by 1 (kinds.Take 1 0 0) ∷ []

-- the act steps are entered in order, also behind a post
task_posts_then_blocks : judged blocks_behind_a_post
    (blocking_task_runs ++ by 1 (kinds.Main 0 0 0 true) ∷ by 1 (kinds.Enter 1 Will) ∷ by 1 (kinds.Leave 1)
    ∷ by 1 (kinds.End 1 3) ∷ by 0 kinds.Idle ∷ []) ≡ Some (true, true, None)
unfolding judge read
task_posts_then_blocks = refl

task_posts_another_main_task : judged blocks_behind_a_post (blocking_task_runs ++ by 1 (kinds.Main 1 0 0 true) ∷ []) ≡ Some (false, false, Some 2)
unfolding judge read
task_posts_another_main_task = refl

scope_of_another_task_is_opened : judged blocks_behind_a_post (blocking_task_runs ++ by 1 (kinds.Main 0 0 0 true) ∷ by 1 (kinds.Enter 0 Will) ∷ [])
    ≡ Some (false, false, Some 3)
unfolding judge read
scope_of_another_task_is_opened = refl

scope_of_another_task_is_closed : judged blocks_behind_a_post
    (blocking_task_runs ++ by 1 (kinds.Main 0 0 0 true) ∷ by 1 (kinds.Enter 1 Will) ∷ by 1 (kinds.Leave 0) ∷ []) ≡ Some (false, false, Some 4)
unfolding judge read
scope_of_another_task_is_closed = refl
