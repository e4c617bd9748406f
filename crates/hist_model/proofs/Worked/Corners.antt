-- Histories that pin single words of the definitions: each would be judged otherwise, were that word left out or turned.
use Rattle.std.proofs.Common.{◌≡◌, ℕ, suc, zero, ◌+◌, Bool, true, false, List, [], ◌∷◌, ◌++◌, refl}
use Rattle.std.specs.Prelude.{codes, Option, Some, None, Ok, Err}
use Rattle.task_base.specs.declared.entry.Entry.{Entry}
use Rattle.task_base.specs.declared.entry.JobReply.TheVariants as replies
use Rattle.task_base.specs.declared.entry.Kind.TheVariants as kinds
use Rattle.task_base.specs.declared.script.FenceAt.TheVariants.{Start}
use Rattle.task_base.specs.declared.step.Scope.TheVariants.{Will}
use Rattle.task_base.specs.Entries.{entry_by as by}
use Rattle.hist_model.proofs.Worked.Rows.{judge, read}

-- what is judged of a log, for the script that the text is: whether it is legal, whether it is whole, and its first place
-- that is not allowed
abbrev pub judged : List ℕ → List Entry → Option (Bool × Bool × Option ℕ)
judged text log = elim (read text) as (λ _. Option (Bool × Bool × Option ℕ)) [ Ok script ↦ Some (judge script log) | Err fault ↦ None ]

-- ---- whole: finished, and quiet

abbrev one_task : List ℕ
one_task = codes "workers 1\nrunner 0 sequenced user_visible skip\ntask 0 add 5\npost 0 0 0\ntick 1\n"

abbrev pub posted_and_taken : List Entry
posted_and_taken = by 0 (kinds.Post 0 0 0 true) ∷ by 1 (kinds.Take 0 0 0) ∷ []

-- the script is finished, and the task still runs
finished_while_somebody_runs : judged one_task (posted_and_taken ++ by 0 (kinds.Tick 0) ∷ []) ≡ Some (true, false, None)
unfolding judge read
finished_while_somebody_runs = refl

finished_and_quiet : judged one_task (posted_and_taken ++ by 0 (kinds.Tick 0) ∷ by 1 (kinds.End 0 5) ∷ []) ≡ Some (true, true, None)
unfolding judge read
finished_and_quiet = refl

-- nobody runs, and the script still wants a tick
quiet_but_not_finished : judged one_task (posted_and_taken ++ by 1 (kinds.End 0 5) ∷ []) ≡ Some (true, false, None)
unfolding judge read
quiet_but_not_finished = refl

-- ---- jobs

abbrev two_items : List ℕ
two_items = codes "workers 1\njob 0 user_visible skip 2 4 add 7\nstartjob 0\njoin 0\n"

abbrev both_items : List Entry
both_items = by 0 (kinds.JobPost 0 true) ∷ by 0 (kinds.JobTake 0 0 0) ∷ by 0 (kinds.JobStep 0 0 0 7 (Some 1)) ∷ by 0 (kinds.JobStep 0 0 1 8 None) ∷ []

right_sum : judged two_items (both_items ++ by 0 (kinds.Joined 0 (replies.Finished 15)) ∷ []) ≡ Some (true, true, None)
unfolding judge read
right_sum = refl

wrong_sum : judged two_items (both_items ++ by 0 (kinds.Joined 0 (replies.Finished 16)) ∷ []) ≡ Some (false, true, Some 4)
unfolding judge read
wrong_sum = refl

-- the seat holds item 0; the value is that of item 1
wrong_item : judged two_items (by 0 (kinds.JobPost 0 true) ∷ by 0 (kinds.JobTake 0 0 0) ∷ by 0 (kinds.JobStep 0 0 1 8 (Some 1)) ∷ [])
    ≡ Some (false, false, Some 2)
unfolding judge read
wrong_item = refl

-- shutdown does not wait for a worker inside a job that continues
abbrev stopped_job : List ℕ
stopped_job = codes "workers 1\njob 0 user_visible continue 3 2 add 1\nstartjob 0\ntick 1\nshutdown\njoin 0\n"

abbrev done_with_a_worker_inside : List Entry
done_with_a_worker_inside =
    by 0 (kinds.JobPost 0 true) ∷ by 1 (kinds.JobTake 0 0 0) ∷ by 0 (kinds.Tick 0) ∷ by 0 kinds.Shutdown ∷ by 0 kinds.Done ∷ []

joined_while_a_worker_is_inside : judged stopped_job (done_with_a_worker_inside ++ by 0 (kinds.Joined 0 replies.Stopped) ∷ []) ≡ Some (false, false, Some 5)
unfolding judge read
joined_while_a_worker_is_inside = refl

-- the phase forbids the job, so the worker leaves it, and it joins as stopped
joined_as_stopped : judged stopped_job (done_with_a_worker_inside ++ by 1 (kinds.JobStep 0 0 0 1 None) ∷ by 0 (kinds.Joined 0 replies.Stopped) ∷ [])
    ≡ Some (true, true, None)
unfolding judge read
joined_as_stopped = refl

abbrev cancelled_job : List ℕ
cancelled_job = codes "workers 1\njob 0 user_visible block 2 1 add 1\nstartjob 0\ncancel 0\nshutdown\njoin 0\n"

abbrev cancelled_then_done : List Entry
cancelled_then_done =
    by 0 (kinds.JobPost 0 true) ∷ by 0 (kinds.JobCancel 0) ∷ by 0 (kinds.Cancelled 0) ∷ by 0 kinds.Shutdown ∷ by 0 kinds.Done ∷ []

-- a cancelled block job that nobody is inside is over, so shutdown does not wait for it; both cancelled and forbidden, it
-- joins as cancelled
cancelled_and_forbidden : judged cancelled_job (cancelled_then_done ++ by 0 (kinds.Joined 0 replies.Cancelled) ∷ []) ≡ Some (true, true, None)
unfolding judge read
cancelled_and_forbidden = refl

cancelled_is_not_stopped : judged cancelled_job (cancelled_then_done ++ by 0 (kinds.Joined 0 replies.Stopped) ∷ []) ≡ Some (false, true, Some 5)
unfolding judge read
cancelled_is_not_stopped = refl

-- a block job that is not over is waited for
block_job_is_waited_for : judged (codes "workers 1\njob 0 user_visible block 2 1 add 1\nstartjob 0\nshutdown\n")
    (by 0 (kinds.JobPost 0 true) ∷ by 0 kinds.Shutdown ∷ by 0 kinds.Done ∷ []) ≡ Some (false, true, Some 2)
unfolding judge read
block_job_is_waited_for = refl

-- the worker with number 0 makes way for the task, and number 1 stays inside
abbrev freed_number : List ℕ
freed_number =
    codes "workers 2\ngroups 2 1 0\nrunner 0 parallel user_blocking skip\ntask 0\njob 0 user_visible skip 4 2 add 0\nstartjob 0\npost 0 0 0\nflush\n"

abbrev number_is_freed : List Entry
number_is_freed =
    by 0 (kinds.JobPost 0 true) ∷ by 1 (kinds.JobTake 0 0 0) ∷ by 2 (kinds.JobTake 0 1 1) ∷ by 0 (kinds.Post 0 0 0 true)
    ∷ by 1 (kinds.JobStep 0 0 0 0 None) ∷ by 1 (kinds.Take 0 0 0) ∷ by 1 (kinds.End 0 0) ∷ []

freed_number_is_used_again : judged freed_number (number_is_freed
    ++ by 1 (kinds.JobTake 0 0 2) ∷ by 2 (kinds.JobStep 0 1 1 1 (Some 3)) ∷ by 1 (kinds.JobStep 0 0 2 2 None) ∷ by 2
    (kinds.JobStep 0 1 3 3 None) ∷ by 0 kinds.Idle ∷ [])
    ≡ Some (true, true, None)
unfolding judge read
freed_number_is_used_again = refl

greater_number_is_not_used : judged freed_number (number_is_freed ++ by 1 (kinds.JobTake 0 2 2) ∷ []) ≡ Some (false, false, Some 7)
unfolding judge read
greater_number_is_not_used = refl

abbrev forty_workers : List ℕ
forty_workers = codes "workers 40\ngroups 40 1 0\njob 0 user_visible skip 40 40 add 0\nstartjob 0\nflush\n"

-- this many workers enter the job, from the seat behind this number on
abbrev enter_from : ℕ → ℕ → List Entry
enter_from zero k = []
enter_from (suc n) k = by (k + 1) (kinds.JobTake 0 k k) ∷ enter_from n (k + 1)

-- the cap says forty, and no more than 32 may be inside
thirty_two_inside : judged forty_workers (by 0 (kinds.JobPost 0 true) ∷ enter_from 32 0) ≡ Some (true, false, None)
unfolding judge read
thirty_two_inside = refl

thirty_three_inside : judged forty_workers (by 0 (kinds.JobPost 0 true) ∷ enter_from 33 0) ≡ Some (false, false, Some 33)
unfolding judge read
thirty_three_inside = refl

-- ---- room

-- the task of a single-thread runner waits and matters more, and the worker inside the job goes on
abbrev single_thread_work : List ℕ
single_thread_work =
    codes "workers 1\ngroups 1 1 0\nrunner 0 single:1 user_blocking skip\ntask 0\njob 0 user_visible skip 2 1 add 0\nstartjob 0\npost 0 0 0\nflush\n"

abbrev single_thread_work_waits : List Entry
single_thread_work_waits = by 0 (kinds.JobPost 0 true) ∷ by 1 (kinds.JobTake 0 0 0) ∷ by 0 (kinds.Post 0 0 0 true) ∷ []

single_thread_work_makes_nobody_leave : judged single_thread_work (single_thread_work_waits
    ++ by 1 (kinds.JobStep 0 0 0 0 (Some 1)) ∷ by 1 (kinds.JobStep 0 0 1 1 None) ∷ by 1 (kinds.Take 0 0 0) ∷ by 1 (kinds.End 0 0) ∷ by 0 kinds.Idle ∷ [])
    ≡ Some (true, true, None)
unfolding judge read
single_thread_work_makes_nobody_leave = refl

leaves_for_single_thread_work : judged single_thread_work (single_thread_work_waits ++ by 1 (kinds.JobStep 0 0 0 0 None) ∷ []) ≡ Some (false, false, Some 3)
unfolding judge read
leaves_for_single_thread_work = refl

-- a background group of one runs one task
background_group_is_full : judged (codes "workers 2\ngroups 4 2 1\nrunner 0 parallel best_effort skip\ntask 0\ntask 1\npost 0 0 0\npost 1 0 0\nflush\n")
    (by 0 (kinds.Post 0 0 0 true) ∷ by 0 (kinds.Post 1 0 0 true) ∷ by 1 (kinds.Take 0 0 0) ∷ by 2 (kinds.Take 1 0 0) ∷ []) ≡ Some (false, false, Some 3)
unfolding judge read
background_group_is_full = refl

-- a best-effort task that is blocked makes room for another one
abbrev blocked_best_effort : List ℕ
blocked_best_effort =
    codes "workers 2\ngroups 4 1 0\nrunner 0 parallel best_effort skip mayblock\ntask 0 block will ; unblock\ntask 1\npost 0 0 0\npost 1 0 0\nflush\n"

abbrev best_effort_runs : List Entry
best_effort_runs = by 0 (kinds.Post 0 0 0 true) ∷ by 0 (kinds.Post 1 0 0 true) ∷ by 1 (kinds.Take 0 0 0) ∷ []

best_effort_is_full : judged blocked_best_effort (best_effort_runs ++ by 2 (kinds.Take 1 0 0) ∷ []) ≡ Some (false, false, Some 3)
unfolding judge read
best_effort_is_full = refl

blocked_best_effort_makes_room : judged blocked_best_effort (best_effort_runs
    ++ by 1 (kinds.Enter 0 Will) ∷ by 2 (kinds.Take 1 0 0) ∷ by 2 (kinds.End 1 0) ∷ by 1 (kinds.Leave 0) ∷ by 1 (kinds.End 0 0) ∷ by 0 kinds.Idle ∷ [])
    ≡ Some (true, true, None)
unfolding judge read
blocked_best_effort_makes_room = refl

-- ---- tasks that post

abbrev posting_tasks : List ℕ
posting_tasks =
    (codes "workers 1\nrunner 0 parallel user_visible skip\nrunner 1 parallel user_visible skip\nqueue 0 0 0\nqueue 1 0 0\ntask 0\n"
    ++ codes "task 1\ntask 2 post 0 0 5 ; main 1 0 5\npost 2 0 0\nflush\n")

abbrev posting_task_runs : List Entry
posting_task_runs = by 0 (kinds.Post 2 0 0 true) ∷ by 1 (kinds.Take 2 0 0) ∷ []

posts_as_its_steps_say : judged posting_tasks (posting_task_runs
    ++ by 1 (kinds.Post 0 0 5 true) ∷ by 1 (kinds.Main 1 0 5 true) ∷ by 1 (kinds.End 2 0) ∷ by 0 kinds.Idle ∷ []) ≡ Some (true, true, None)
unfolding judge read
posts_as_its_steps_say = refl

posts_with_another_delay : judged posting_tasks (posting_task_runs ++ by 1 (kinds.Post 0 0 4 true) ∷ []) ≡ Some (false, false, Some 2)
unfolding judge read
posts_with_another_delay = refl

posts_to_another_runner : judged posting_tasks (posting_task_runs ++ by 1 (kinds.Post 0 1 5 true) ∷ []) ≡ Some (false, false, Some 2)
unfolding judge read
posts_to_another_runner = refl

posts_another_task : judged posting_tasks (posting_task_runs ++ by 1 (kinds.Post 1 0 5 true) ∷ []) ≡ Some (false, false, Some 2)
unfolding judge read
posts_another_task = refl

main_post_with_another_delay : judged posting_tasks (posting_task_runs ++ by 1 (kinds.Post 0 0 5 true) ∷ by 1 (kinds.Main 1 0 4 true) ∷ [])
    ≡ Some (false, false, Some 3)
unfolding judge read
main_post_with_another_delay = refl

main_post_to_another_queue : judged posting_tasks (posting_task_runs ++ by 1 (kinds.Post 0 0 5 true) ∷ by 1 (kinds.Main 1 1 5 true) ∷ [])
    ≡ Some (false, false, Some 3)
unfolding judge read
main_post_to_another_queue = refl

-- ---- main queues

abbrev fence_at_the_start : List ℕ
fence_at_the_start = codes "queue 0 3 0\ntask 0\nmain 0 0 0\nfence 0 start\npump 1\n"

abbrev fenced_at_the_start : List Entry
fenced_at_the_start = by 0 (kinds.Main 0 0 0 true) ∷ by 0 (kinds.Fence 0 Start) ∷ []

nothing_passes_a_fence_at_the_start : judged fence_at_the_start (fenced_at_the_start ++ by 0 kinds.MainNone ∷ []) ≡ Some (true, true, None)
unfolding judge read
nothing_passes_a_fence_at_the_start = refl

takes_past_a_fence_at_the_start : judged fence_at_the_start (fenced_at_the_start ++ by 0 (kinds.MainTake 0 0 0) ∷ []) ≡ Some (false, false, Some 2)
unfolding judge read
takes_past_a_fence_at_the_start = refl

abbrev second_voter : List ℕ
second_voter = codes "queue 0 0 2\nqueue 1 0 2\ntask 0\nmain 0 0 0\nvote 0 1 off\npump 1\n"

-- one voter that votes off is enough
one_vote_is_enough : judged second_voter (by 0 (kinds.Main 0 0 0 true) ∷ by 0 (kinds.Vote 0 1 false) ∷ by 0 kinds.MainNone ∷ []) ≡ Some (true, true, None)
unfolding judge read
one_vote_is_enough = refl

another_voter : judged second_voter (by 0 (kinds.Main 0 0 0 true) ∷ by 0 (kinds.Vote 0 0 false) ∷ []) ≡ Some (false, false, Some 1)
unfolding judge read
another_voter = refl

another_queue : judged second_voter (by 0 (kinds.Main 0 0 0 true) ∷ by 0 (kinds.Vote 1 1 false) ∷ []) ≡ Some (false, false, Some 1)
unfolding judge read
another_queue = refl

another_vote : judged second_voter (by 0 (kinds.Main 0 0 0 true) ∷ by 0 (kinds.Vote 0 1 true) ∷ []) ≡ Some (false, false, Some 1)
unfolding judge read
another_vote = refl

abbrev two_main_tasks : List ℕ
two_main_tasks = codes "queue 0 0 0\ntask 0 add 4\ntask 1\nmain 0 0 5\nmain 1 0 3\ntick 1\npump 2\n"

abbrev both_ripen : List Entry
both_ripen = by 0 (kinds.Main 0 0 5 true) ∷ by 0 (kinds.Main 1 0 3 true) ∷ by 0 (kinds.Tick 5) ∷ []

-- of two that ripen at one tick the one with the lesser ripe moment goes first, also against the order of their posts
lesser_ripe_moment_first : judged two_main_tasks (both_ripen
    ++ by 0 (kinds.MainTake 1 0 0) ∷ by 0 (kinds.MainEnd 1 0) ∷ by 0 (kinds.MainTake 0 0 0) ∷ by 0 (kinds.MainEnd 0 4) ∷ []) ≡ Some (true, true, None)
unfolding judge read
lesser_ripe_moment_first = refl

first_posted_first : judged two_main_tasks (both_ripen ++ by 0 (kinds.MainTake 0 0 0) ∷ []) ≡ Some (false, false, Some 3)
unfolding judge read
first_posted_first = refl

-- the queue's cell is 0
main_task_finds_another_value : judged two_main_tasks (both_ripen ++ by 0 (kinds.MainTake 1 0 4) ∷ []) ≡ Some (false, false, Some 3)
unfolding judge read
main_task_finds_another_value = refl
