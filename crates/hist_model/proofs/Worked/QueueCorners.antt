-- Histories that pin single words of the definitions of main queues: what one queue has is not another's, orders, and the streak.
use Rattle.std.proofs.Common.{◌≡◌, true, false, [], ◌∷◌, refl}
use Rattle.std.specs.Prelude.{◌++◌, codes, Some, None}
use Rattle.task_base.specs.declared.entry.Kind.TheVariants as kinds
use Rattle.task_base.specs.declared.script.FenceAt.TheVariants.{Now, Start}
use Rattle.task_base.specs.Entries.{entry_by as by}
use Rattle.hist_model.proofs.Worked.Rows.{judge, read}
use Rattle.hist_model.proofs.Worked.Corners.{judged}

fence_of_another_queue : judged (codes "queue 0 0 0\nqueue 1 0 0\ntask 0\nfence 0 now\nmain 0 1 0\npump 1\n")
    (by 0 (kinds.Fence 0 Now) ∷ by 0 (kinds.Main 0 1 0 true) ∷ by 0 (kinds.MainTake 0 1 0) ∷ by 0 (kinds.MainEnd 0 0) ∷ []) ≡ Some (true, true, None)
unfolding judge read
fence_of_another_queue = refl

fence_at_the_start_of_another_queue : judged (codes "queue 0 0 0\nqueue 1 0 0\ntask 0\nfence 0 start\nmain 0 1 0\npump 1\n")
    (by 0 (kinds.Fence 0 Start) ∷ by 0 (kinds.Main 0 1 0 true) ∷ by 0 (kinds.MainTake 0 1 0) ∷ by 0 (kinds.MainEnd 0 0) ∷ []) ≡ Some (true, true, None)
unfolding judge read
fence_at_the_start_of_another_queue = refl

vote_of_another_queue : judged (codes "queue 0 0 1\nqueue 1 0 1\ntask 0\nvote 0 0 off\nmain 0 1 0\npump 1\n")
    (by 0 (kinds.Vote 0 0 false) ∷ by 0 (kinds.Main 0 1 0 true) ∷ by 0 (kinds.MainTake 0 1 0) ∷ by 0 (kinds.MainEnd 0 0) ∷ []) ≡ Some (true, true, None)
unfolding judge read
vote_of_another_queue = refl

close_of_another_queue : judged (codes "queue 0 0 0\nqueue 1 0 0\ntask 0\nclose 0\nmain 0 1 0\npump 1\n")
    (by 0 (kinds.Close 0) ∷ by 0 (kinds.Main 0 1 0 true) ∷ by 0 (kinds.MainTake 0 1 0) ∷ by 0 (kinds.MainEnd 0 0) ∷ []) ≡ Some (true, true, None)
unfolding judge read
close_of_another_queue = refl

another_queue_lost_its_fence : judged (codes "queue 0 0 0\nqueue 1 0 0\ntask 0\nfence 0 start\nunfence 1\nmain 0 0 0\npump 1\n")
    (by 0 (kinds.Fence 0 Start) ∷ by 0 (kinds.Unfence 1) ∷ by 0 (kinds.Main 0 0 0 true) ∷ by 0 kinds.MainNone ∷ []) ≡ Some (true, true, None)
unfolding judge read
another_queue_lost_its_fence = refl

-- the first voter is still off
another_voter_votes_on : judged (codes "queue 0 0 2\ntask 0\nvote 0 0 off\nvote 0 1 on\nmain 0 0 0\npump 1\n")
    (by 0 (kinds.Vote 0 0 false) ∷ by 0 (kinds.Vote 0 1 true) ∷ by 0 (kinds.Main 0 0 0 true) ∷ by 0 kinds.MainNone ∷ []) ≡ Some (true, true, None)
unfolding judge read
another_voter_votes_on = refl

-- only queue 1 has the better class now
class_of_another_queue : judged (codes "queue 0 2 0\nqueue 1 2 0\ntask 0\ntask 1\nmain 0 0 0\nmain 1 1 0\nrank 1 1\npump 1\n")
    (by 0 (kinds.Main 0 0 0 true) ∷ by 0 (kinds.Main 1 1 0 true) ∷ by 0 (kinds.Rank 1 1) ∷ by 0 (kinds.MainTake 1 1 0)
    ∷ by 0 (kinds.MainEnd 1 0) ∷ []) ≡ Some (true, true, None)
unfolding judge read
class_of_another_queue = refl

closed_queue_has_no_open_front : judged (codes "queue 0 0 0\ntask 0\nmain 0 0 0\nclose 0\npump 1\n")
    (by 0 (kinds.Main 0 0 0 true) ∷ by 0 (kinds.Close 0) ∷ by 0 kinds.MainNone ∷ []) ≡ Some (true, true, None)
unfolding judge read
closed_queue_has_no_open_front = refl

-- both ripen at one moment and tick, and the one of the queue with the greater number was posted first
first_posted_of_two_main_tasks_that_ripen : judged (codes "queue 0 0 0\nqueue 1 0 0\ntask 0\ntask 1\ntick 2\nmain 1 1 5\nmain 0 0 5\ntick 1\npump 1\n")
    (by 0 (kinds.Tick 0) ∷ by 0 (kinds.Tick 1) ∷ by 0 (kinds.Main 1 1 5 true) ∷ by 0 (kinds.Main 0 0 5 true)
    ∷ by 0 (kinds.Tick 6) ∷ by 0 (kinds.MainTake 1 1 0) ∷ by 0 (kinds.MainEnd 1 0) ∷ []) ≡ Some (true, true, None)
unfolding judge read
first_posted_of_two_main_tasks_that_ripen = refl

-- three immediate tasks run, and then the delayed one goes before the last immediate one
immediate_tasks_make_no_streak : judged (codes "queue 0 0 0\ntask 0\ntask 1\ntask 2\ntask 3\ntask 4\nmain 3 0 1\nmain 0 0 0\nmain 1 0 0\nmain 2 0 0\ntick 1\n"
    ++ codes "main 4 0 0\npump 4\n")
    (by 0 (kinds.Main 3 0 1 true) ∷ by 0 (kinds.Main 0 0 0 true) ∷ by 0 (kinds.Main 1 0 0 true) ∷ by 0 (kinds.Main 2 0 0 true)
    ∷ by 0 (kinds.Tick 1) ∷ by 0 (kinds.Main 4 0 0 true) ∷ by 0 (kinds.MainTake 0 0 0) ∷ by 0 (kinds.MainEnd 0 0)
    ∷ by 0 (kinds.MainTake 1 0 0) ∷ by 0 (kinds.MainEnd 1 0) ∷ by 0 (kinds.MainTake 2 0 0) ∷ by 0 (kinds.MainEnd 2 0)
    ∷ by 0 (kinds.MainTake 3 0 0) ∷ by 0 (kinds.MainEnd 3 0) ∷ []) ≡ Some (true, true, None)
unfolding judge read
immediate_tasks_make_no_streak = refl

-- three delayed tasks run in a row behind an immediate one, while another immediate one waits
streak_starts_at_nothing : judged (codes "queue 0 0 0\ntask 0\ntask 1\ntask 2\ntask 3\ntask 4\nmain 1 0 1\nmain 2 0 1\nmain 3 0 1\nmain 0 0 0\ntick 1\n"
    ++ codes "main 4 0 0\npump 4\n")
    (by 0 (kinds.Main 1 0 1 true) ∷ by 0 (kinds.Main 2 0 1 true) ∷ by 0 (kinds.Main 3 0 1 true) ∷ by 0 (kinds.Main 0 0 0 true)
    ∷ by 0 (kinds.Tick 1) ∷ by 0 (kinds.Main 4 0 0 true) ∷ by 0 (kinds.MainTake 0 0 0) ∷ by 0 (kinds.MainEnd 0 0)
    ∷ by 0 (kinds.MainTake 1 0 0) ∷ by 0 (kinds.MainEnd 1 0) ∷ by 0 (kinds.MainTake 2 0 0) ∷ by 0 (kinds.MainEnd 2 0)
    ∷ by 0 (kinds.MainTake 3 0 0) ∷ by 0 (kinds.MainEnd 3 0) ∷ []) ≡ Some (true, true, None)
unfolding judge read
streak_starts_at_nothing = refl

second_queue_is_steered : judged (codes "queue 0 0 0\nqueue 1 0 1\nfence 1 now\nunfence 1\nvote 1 0 off\nrank 1 2\nclose 1\n")
    (by 0 (kinds.Fence 1 Now) ∷ by 0 (kinds.Unfence 1) ∷ by 0 (kinds.Vote 1 0 false) ∷ by 0 (kinds.Rank 1 2)
    ∷ by 0 (kinds.Close 1) ∷ []) ≡ Some (true, true, None)
unfolding judge read
second_queue_is_steered = refl

queue_is_fenced_by_a_worker : judged (codes "queue 0 0 0\nfence 0 now\n") (by 1 (kinds.Fence 0 Now) ∷ []) ≡ Some (false, false, Some 0)
unfolding judge read
queue_is_fenced_by_a_worker = refl

-- the fence of queue 0 still stands
later_fences_of_another_queue : judged (codes "queue 0 0 0\nqueue 1 0 0\ntask 0\nfence 0 start\nfence 1 now\nfence 1 start\nmain 0 0 0\npump 1\n")
    (by 0 (kinds.Fence 0 Start) ∷ by 0 (kinds.Fence 1 Now) ∷ by 0 (kinds.Fence 1 Start) ∷ by 0 (kinds.Main 0 0 0 true)
    ∷ by 0 kinds.MainNone ∷ []) ≡ Some (true, true, None)
unfolding judge read
later_fences_of_another_queue = refl

another_vote_than_on : judged (codes "queue 0 0 1\nvote 0 0 on\n") (by 0 (kinds.Vote 0 0 false) ∷ []) ≡ Some (false, true, Some 0)
unfolding judge read
another_vote_than_on = refl

-- each queue has a cell of its own
cells_of_two_queues : judged (codes "queue 0 0 0\nqueue 1 0 0\ntask 0 add 4\ntask 1\ntask 2\nmain 0 1 0\nmain 1 1 0\nmain 2 0 0\npump 3\n")
    (by 0 (kinds.Main 0 1 0 true) ∷ by 0 (kinds.Main 1 1 0 true) ∷ by 0 (kinds.Main 2 0 0 true) ∷ by 0 (kinds.MainTake 0 1 0)
    ∷ by 0 (kinds.MainEnd 0 4) ∷ by 0 (kinds.MainTake 1 1 4) ∷ by 0 (kinds.MainEnd 1 4) ∷ by 0 (kinds.MainTake 2 0 0)
    ∷ by 0 (kinds.MainEnd 2 0) ∷ []) ≡ Some (true, true, None)
unfolding judge read
cells_of_two_queues = refl

none_while_a_delayed_task_is_open : judged (codes "queue 0 0 0\nqueue 1 0 0\nqueue 2 0 0\ntask 0\nmain 0 2 1\ntick 1\npump 1\n")
    (by 0 (kinds.Main 0 2 1 true) ∷ by 0 (kinds.Tick 1) ∷ by 0 kinds.MainNone ∷ []) ≡ Some (false, true, Some 2)
unfolding judge read
none_while_a_delayed_task_is_open = refl

first_posted_of_two_main_tasks : judged (codes "queue 0 0 0\nqueue 1 0 0\ntask 0\ntask 1\nmain 0 1 0\nmain 1 0 0\npump 1\n")
    (by 0 (kinds.Main 0 1 0 true) ∷ by 0 (kinds.Main 1 0 0 true) ∷ by 0 (kinds.MainTake 0 1 0) ∷ by 0 (kinds.MainEnd 0 0) ∷ []) ≡ Some (true, true, None)
unfolding judge read
first_posted_of_two_main_tasks = refl

-- the delay is less than the moment of its post
main_task_ripens_by_its_post : judged (codes "queue 0 0 0\ntask 0\ntick 1\nmain 0 0 2\ntick 1\npump 1\n")
    (by 0 (kinds.Tick 5) ∷ by 0 (kinds.Main 0 0 2 true) ∷ by 0 (kinds.Tick 7) ∷ by 0 (kinds.MainTake 0 0 0)
    ∷ by 0 (kinds.MainEnd 0 0) ∷ []) ≡ Some (true, true, None)
unfolding judge read
main_task_ripens_by_its_post = refl

lesser_ripe_moment_of_two_queues : judged (codes "queue 0 0 0\nqueue 1 0 0\ntask 0\ntask 1\ntick 1\nmain 0 1 5\nmain 1 0 6\ntick 1\npump 1\n")
    (by 0 (kinds.Tick 1) ∷ by 0 (kinds.Main 0 1 5 true) ∷ by 0 (kinds.Main 1 0 6 true) ∷ by 0 (kinds.Tick 7)
    ∷ by 0 (kinds.MainTake 0 1 0) ∷ by 0 (kinds.MainEnd 0 0) ∷ []) ≡ Some (true, true, None)
unfolding judge read
lesser_ripe_moment_of_two_queues = refl

-- the immediate task waited through three, and all found 0
fourth_delayed_task_in_a_row : judged (codes "queue 0 0 0\ntask 0\ntask 1\ntask 2\ntask 3\ntask 4\nmain 1 0 1\nmain 2 0 1\nmain 3 0 1\nmain 4 0 1\ntick 1\n"
    ++ codes "main 0 0 0\npump 4\n")
    (by 0 (kinds.Main 1 0 1 true) ∷ by 0 (kinds.Main 2 0 1 true) ∷ by 0 (kinds.Main 3 0 1 true) ∷ by 0 (kinds.Main 4 0 1 true)
    ∷ by 0 (kinds.Tick 1) ∷ by 0 (kinds.Main 0 0 0 true) ∷ by 0 (kinds.MainTake 1 0 0) ∷ by 0 (kinds.MainEnd 1 0)
    ∷ by 0 (kinds.MainTake 2 0 0) ∷ by 0 (kinds.MainEnd 2 0) ∷ by 0 (kinds.MainTake 3 0 0) ∷ by 0 (kinds.MainEnd 3 0)
    ∷ by 0 (kinds.MainTake 4 0 0) ∷ []) ≡ Some (false, false, Some 12)
unfolding judge read
fourth_delayed_task_in_a_row = refl

votes_of_the_second_queue : judged (codes "queue 0 0 0\nqueue 1 0 1\ntask 0\nvote 1 0 off\nmain 0 1 0\npump 1\n")
    (by 0 (kinds.Vote 1 0 false) ∷ by 0 (kinds.Main 0 1 0 true) ∷ by 0 kinds.MainNone ∷ []) ≡ Some (true, true, None)
unfolding judge read
votes_of_the_second_queue = refl

unfenced_before_the_post : judged (codes "queue 0 0 0\ntask 0\nfence 0 start\nunfence 0\nmain 0 0 0\npump 1\n")
    (by 0 (kinds.Fence 0 Start) ∷ by 0 (kinds.Unfence 0) ∷ by 0 (kinds.Main 0 0 0 true) ∷ by 0 (kinds.MainTake 0 0 0)
    ∷ by 0 (kinds.MainEnd 0 0) ∷ []) ≡ Some (true, true, None)
unfolding judge read
unfenced_before_the_post = refl

classes_above_the_first : judged (codes "queue 0 2 0\nqueue 1 0 0\ntask 0\ntask 1\nmain 1 1 0\nmain 0 0 0\nrank 1 3\npump 1\n")
    (by 0 (kinds.Main 1 1 0 true) ∷ by 0 (kinds.Main 0 0 0 true) ∷ by 0 (kinds.Rank 1 3) ∷ by 0 (kinds.MainTake 0 0 0)
    ∷ by 0 (kinds.MainEnd 0 0) ∷ []) ≡ Some (true, true, None)
unfolding judge read
classes_above_the_first = refl

-- the pump takes up to the end of the main task
main_task_posts_at_a_pump : judged (codes "queue 0 0 0\ntask 0\ntask 1 main 0 0 0\nmain 1 0 0\npump 1\ntick 1\n")
    (by 0 (kinds.Main 1 0 0 true) ∷ by 0 (kinds.MainTake 1 0 0) ∷ by 0 (kinds.Main 0 0 0 true) ∷ by 0 (kinds.MainEnd 1 0)
    ∷ by 0 (kinds.Tick 0) ∷ []) ≡ Some (true, true, None)
unfolding judge read
main_task_posts_at_a_pump = refl

-- the immediate task has waited through three
streak_lasts_between_pumps : judged
    (codes "workers 1\nrunner 0 parallel user_visible skip\nqueue 0 0 1\ntask 0\ntask 1\ntask 2\ntask 3\ntask 4\ntask 5\ntask 6\n"
    ++ codes "main 1 0 1\nmain 2 0 1\nmain 3 0 1\nmain 4 0 1\ntick 1\nmain 0 0 0\npump 3\ntick 1\npost 5 0 0\nflush\nmain 6 0 0\n"
    ++ codes "unfence 0\nvote 0 0 on\nrank 0 0\npump 1\n")
    (by 0 (kinds.Main 1 0 1 true) ∷ by 0 (kinds.Main 2 0 1 true) ∷ by 0 (kinds.Main 3 0 1 true) ∷ by 0 (kinds.Main 4 0 1 true)
    ∷ by 0 (kinds.Tick 1) ∷ by 0 (kinds.Main 0 0 0 true) ∷ by 0 (kinds.MainTake 1 0 0) ∷ by 0 (kinds.MainEnd 1 0)
    ∷ by 0 (kinds.MainTake 2 0 0) ∷ by 0 (kinds.MainEnd 2 0) ∷ by 0 (kinds.MainTake 3 0 0) ∷ by 0 (kinds.MainEnd 3 0)
    ∷ by 0 (kinds.Tick 9) ∷ by 0 (kinds.Post 5 0 0 true) ∷ by 1 (kinds.Take 5 0 0) ∷ by 1 (kinds.End 5 0) ∷ by 0 kinds.Idle
    ∷ by 0 (kinds.Main 6 0 0 true) ∷ by 0 (kinds.Unfence 0) ∷ by 0 (kinds.Vote 0 0 true) ∷ by 0 (kinds.Rank 0 0)
    ∷ by 0 (kinds.MainTake 4 0 0) ∷ []) ≡ Some (false, false, Some 21)
unfolding judge read
streak_lasts_between_pumps = refl

-- the other queues are closed
task_ripens_by_its_own_queue : judged (codes "queue 0 0 0\nqueue 1 0 0\nqueue 2 0 0\ntask 0\nmain 0 2 1\nclose 0\nclose 1\ntick 1\npump 1\n")
    (by 0 (kinds.Main 0 2 1 true) ∷ by 0 (kinds.Close 0) ∷ by 0 (kinds.Close 1) ∷ by 0 (kinds.Tick 1)
    ∷ by 0 (kinds.MainTake 0 2 0) ∷ by 0 (kinds.MainEnd 0 0) ∷ []) ≡ Some (true, true, None)
unfolding judge read
task_ripens_by_its_own_queue = refl

-- the job and the task with the number of the queue are over, and the queue is not closed
task_ripens_whatever_else_is_over : judged
    (codes "workers 1\nrunner 0 parallel user_visible skip\nqueue 0 0 0\ntask 0\ntask 1\njob 0 user_visible skip 0 1\nmain 1 0 1\n"
    ++ codes "startjob 0\ncancel 0\npost 0 0 0\nflush\ntick 1\npump 1\n")
    (by 0 (kinds.Main 1 0 1 true) ∷ by 0 (kinds.JobPost 0 true) ∷ by 0 (kinds.JobCancel 0) ∷ by 0 (kinds.Cancelled 0)
    ∷ by 0 (kinds.Post 0 0 0 true) ∷ by 1 (kinds.Take 0 0 0) ∷ by 1 (kinds.End 0 0) ∷ by 0 kinds.Idle ∷ by 0 (kinds.Tick 1)
    ∷ by 0 (kinds.MainTake 1 0 0) ∷ by 0 (kinds.MainEnd 1 0) ∷ []) ≡ Some (true, true, None)
unfolding judge read
task_ripens_whatever_else_is_over = refl
