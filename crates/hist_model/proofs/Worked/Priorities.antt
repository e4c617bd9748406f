-- Histories in which a runner's priority changes, worked out by hand.
use Rattle.std.proofs.Common.{◌≡◌, ℕ, true, false, List, [], ◌∷◌, ◌++◌, refl}
use Rattle.std.specs.Prelude.{codes, take, Some, None}
use Rattle.task_base.specs.declared.entry.Entry.{Entry}
use Rattle.task_base.specs.declared.entry.Kind.TheVariants as kinds
use Rattle.task_base.specs.declared.policy.Policy.TheVariants as policies
use Rattle.task_base.specs.declared.step.Scope.TheVariants.{Will}
use Rattle.task_traits.specs.declared.traits.Priority.TheVariants.{BestEffort, UserVisible, UserBlocking}
use Rattle.task_base.specs.Entries.{entry_by as by}
use Rattle.hist_model.proofs.Worked.Rows.{judge, read}
use Rattle.hist_model.proofs.Worked.Corners.{judged}

-- a runner that waits is given a higher priority, and goes before the other
abbrev higher_before_lower : List ℕ
higher_before_lower =
    (codes "workers 1\nrunner 0 sequenced best_effort skip\nrunner 1 sequenced user_visible skip\ntask 0 add 1\ntask 1 add 1\n"
    ++ codes "policy none\npost 0 0 0\npost 1 1 0\nreprio 0 user_blocking\npolicy all\nflush\n")

abbrev higher_before_lower_log : List Entry
higher_before_lower_log =
    by 0 (kinds.Policy policies.Nothing) ∷ by 0 (kinds.Post 0 0 0 true) ∷ by 0 (kinds.Post 1 1 0 true) ∷ by 0 (kinds.Reprio 0 UserBlocking) ∷
    by 0 (kinds.Policy policies.All) ∷ by 1 (kinds.Take 0 0 0) ∷ by 1 (kinds.End 0 1) ∷ by 1 (kinds.Take 1 1 0) ∷ by 1 (kinds.End 1 1) ∷
    by 0 kinds.Idle ∷ []

higher_before_lower_is_right : judged higher_before_lower higher_before_lower_log ≡ Some (true, true, None)
unfolding judge read
higher_before_lower_is_right = refl

-- the priority that was declared counts no more
declared_priority_does_not_count : judged higher_before_lower
    (take 5 higher_before_lower_log ++ by 1 (kinds.Take 1 1 0) ∷ []) ≡ Some (false, false, Some 5)
unfolding judge read
declared_priority_does_not_count = refl

-- a task that runs counts with the priority that it was taken with
abbrev counts_as_it_was_taken : List ℕ
counts_as_it_was_taken =
    (codes "workers 2\ngroups 2 1 0\nrunner 0 parallel best_effort skip\nrunner 1 parallel best_effort skip\ntask 0 add 1\n"
    ++ codes "task 1 add 1\ntask 2 add 1\npost 0 0 0\npost 1 0 0\npost 2 1 0\nreprio 0 user_visible\nflush\n")

abbrev counts_as_it_was_taken_log : List Entry
counts_as_it_was_taken_log =
    by 0 (kinds.Post 0 0 0 true) ∷ by 0 (kinds.Post 1 0 0 true) ∷ by 0 (kinds.Post 2 1 0 true) ∷ by 1 (kinds.Take 0 0 0) ∷
    by 0 (kinds.Reprio 0 UserVisible) ∷ by 2 (kinds.Take 1 0 0) ∷ by 2 (kinds.End 1 1) ∷ by 1 (kinds.End 0 1) ∷ by 2 (kinds.Take 2 1 0) ∷
    by 2 (kinds.End 2 1) ∷ by 0 kinds.Idle ∷ []

counts_as_it_was_taken_is_right : judged counts_as_it_was_taken counts_as_it_was_taken_log ≡ Some (true, true, None)
unfolding judge read
counts_as_it_was_taken_is_right = refl

-- so the limit of best-effort work is reached until it ends
best_effort_limit_is_reached : judged counts_as_it_was_taken
    (take 7 counts_as_it_was_taken_log ++ by 2 (kinds.Take 2 1 0) ∷ []) ≡ Some (false, false, Some 7)
unfolding judge read
best_effort_limit_is_reached = refl

-- the policy goes by the present priority, which is the one given last
abbrev policy_by_present_priority : List ℕ
policy_by_present_priority =
    (codes "workers 1\nrunner 0 parallel user_visible skip\nrunner 1 sequenced best_effort skip\ntask 0 add 1\ntask 1 add 2\n"
    ++ codes "policy none\npost 0 0 0\npost 1 1 0\nreprio 0 user_blocking\nreprio 0 best_effort\nreprio 1 user_visible\n"
    ++ codes "policy foreground\nflush\n")

abbrev policy_by_present_priority_log : List Entry
policy_by_present_priority_log =
    by 0 (kinds.Policy policies.Nothing) ∷ by 0 (kinds.Post 0 0 0 true) ∷ by 0 (kinds.Post 1 1 0 true) ∷ by 0 (kinds.Reprio 0 UserBlocking) ∷
    by 0 (kinds.Reprio 0 BestEffort) ∷ by 0 (kinds.Reprio 1 UserVisible) ∷ by 0 (kinds.Policy policies.Foreground) ∷ by 1 (kinds.Take 1 1 0) ∷
    by 1 (kinds.End 1 2) ∷ by 0 kinds.Idle ∷ []

policy_by_present_priority_is_right : judged policy_by_present_priority policy_by_present_priority_log ≡ Some (true, true, None)
unfolding judge read
policy_by_present_priority_is_right = refl

-- a runner that was made best-effort is held back
held_back_after_the_change : judged policy_by_present_priority
    (take 7 policy_by_present_priority_log ++ by 1 (kinds.Take 0 0 0) ∷ []) ≡ Some (false, false, Some 7)
unfolding judge read
held_back_after_the_change = refl

-- each sequence of a parallel runner moves, and so do those of later posts
abbrev each_sequence_of_a_parallel_runner : List ℕ
each_sequence_of_a_parallel_runner =
    (codes "workers 1\nrunner 0 parallel best_effort skip\nrunner 1 sequenced user_visible skip\ntask 0 add 1\ntask 1 add 1\n"
    ++ codes "task 2 add 1\ntask 3 add 1\npolicy none\npost 0 0 0\npost 1 1 0\npost 2 0 0\nreprio 0 user_blocking\npost 3 0 0\n"
    ++ codes "policy all\nflush\n")

abbrev each_sequence_of_a_parallel_runner_log : List Entry
each_sequence_of_a_parallel_runner_log =
    by 0 (kinds.Policy policies.Nothing) ∷ by 0 (kinds.Post 0 0 0 true) ∷ by 0 (kinds.Post 1 1 0 true) ∷ by 0 (kinds.Post 2 0 0 true) ∷
    by 0 (kinds.Reprio 0 UserBlocking) ∷ by 0 (kinds.Post 3 0 0 true) ∷ by 0 (kinds.Policy policies.All) ∷ by 1 (kinds.Take 0 0 0) ∷
    by 1 (kinds.End 0 1) ∷ by 1 (kinds.Take 2 0 0) ∷ by 1 (kinds.End 2 1) ∷ by 1 (kinds.Take 3 0 0) ∷ by 1 (kinds.End 3 1) ∷
    by 1 (kinds.Take 1 1 0) ∷ by 1 (kinds.End 1 1) ∷ by 0 kinds.Idle ∷ []

each_sequence_of_a_parallel_runner_is_right : judged each_sequence_of_a_parallel_runner each_sequence_of_a_parallel_runner_log ≡ Some (true, true, None)
unfolding judge read
each_sequence_of_a_parallel_runner_is_right = refl

-- not the first alone
the_second_sequence_moves_too : judged each_sequence_of_a_parallel_runner
    (take 9 each_sequence_of_a_parallel_runner_log ++ by 1 (kinds.Take 1 1 0) ∷ []) ≡ Some (false, false, Some 9)
unfolding judge read
the_second_sequence_moves_too = refl

-- a change while a task of the runner runs counts for what waits, in both groups
abbrev changed_while_its_task_runs : List ℕ
changed_while_its_task_runs =
    (codes "workers 2\ngroups 1 1 1\nrunner 0 sequenced best_effort skip\nrunner 1 parallel best_effort skip\ntask 0 add 1\n"
    ++ codes "task 1 add 2\ntask 2 add 4\npost 0 0 0\npost 1 1 0\npost 2 0 0\nreprio 0 user_visible\nflush\n")

abbrev changed_while_its_task_runs_log : List Entry
changed_while_its_task_runs_log =
    by 0 (kinds.Post 0 0 0 true) ∷ by 0 (kinds.Post 1 1 0 true) ∷ by 0 (kinds.Post 2 0 0 true) ∷ by 1 (kinds.Take 0 0 0) ∷
    by 0 (kinds.Reprio 0 UserVisible) ∷ by 1 (kinds.End 0 1) ∷ by 1 (kinds.Take 2 0 1) ∷ by 2 (kinds.Take 1 1 0) ∷ by 2 (kinds.End 1 2) ∷
    by 1 (kinds.End 2 5) ∷ by 0 kinds.Idle ∷ []

changed_while_its_task_runs_is_right : judged changed_while_its_task_runs changed_while_its_task_runs_log ≡ Some (true, true, None)
unfolding judge read
changed_while_its_task_runs_is_right = refl

-- the task that runs still fills the background group
background_is_full_until_the_end : judged changed_while_its_task_runs
    (take 5 changed_while_its_task_runs_log ++ by 2 (kinds.Take 1 1 0) ∷ []) ≡ Some (false, false, Some 5)
unfolding judge read
background_is_full_until_the_end = refl

-- what waits is of the foreground group
the_foreground_task_goes_first : judged changed_while_its_task_runs
    (take 6 changed_while_its_task_runs_log ++ by 1 (kinds.Take 1 1 0) ∷ []) ≡ Some (false, false, Some 6)
unfolding judge read
the_foreground_task_goes_first = refl

-- a worker at a job makes way only once the runner is of higher priority
abbrev job_makes_way_after_the_change : List ℕ
job_makes_way_after_the_change =
    (codes "workers 1\ngroups 1 1 0\nrunner 0 parallel user_visible skip\ntask 0 add 1\njob 0 user_visible skip 3 1 add 1\n"
    ++ codes "startjob 0\npost 0 0 0\nreprio 0 user_blocking\nflush\n")

abbrev job_makes_way_after_the_change_log : List Entry
job_makes_way_after_the_change_log =
    by 0 (kinds.JobPost 0 true) ∷ by 1 (kinds.JobTake 0 0 0) ∷ by 0 (kinds.Post 0 0 0 true) ∷ by 1 (kinds.JobStep 0 0 0 1 (Some 1)) ∷
    by 0 (kinds.Reprio 0 UserBlocking) ∷ by 1 (kinds.JobStep 0 0 1 2 None) ∷ by 1 (kinds.Take 0 0 0) ∷ by 1 (kinds.End 0 1) ∷
    by 1 (kinds.JobTake 0 0 2) ∷ by 1 (kinds.JobStep 0 0 2 3 None) ∷ by 0 kinds.Idle ∷ []

job_makes_way_after_the_change_is_right : judged job_makes_way_after_the_change job_makes_way_after_the_change_log ≡ Some (true, true, None)
unfolding judge read
job_makes_way_after_the_change_is_right = refl

-- before the change it goes on
makes_no_way_before_the_change : judged job_makes_way_after_the_change
    (take 3 job_makes_way_after_the_change_log ++ by 1 (kinds.JobStep 0 0 0 1 None) ∷ []) ≡ Some (false, false, Some 3)
unfolding judge read
makes_no_way_before_the_change = refl

-- after the change it leaves
makes_way_after_the_change : judged job_makes_way_after_the_change
    (take 5 job_makes_way_after_the_change_log ++ by 1 (kinds.JobStep 0 0 1 2 (Some 2)) ∷ []) ≡ Some (false, false, Some 5)
unfolding judge read
makes_way_after_the_change = refl

-- the sequences of a single-thread runner move, delayed tasks among them
abbrev stated_seat_and_delay : List ℕ
stated_seat_and_delay =
    (codes "workers 2\nrunner 0 single:2 best_effort skip\nrunner 1 single:2 user_visible skip\ntask 0 add 1\ntask 1 add 2\n"
    ++ codes "task 2 add 4\npolicy none\npost 0 0 0\npost 1 1 0\npost 2 0 5\nreprio 0 user_blocking\ntick 1\npolicy all\nflush\n")

abbrev stated_seat_and_delay_log : List Entry
stated_seat_and_delay_log =
    by 0 (kinds.Policy policies.Nothing) ∷ by 0 (kinds.Post 0 0 0 true) ∷ by 0 (kinds.Post 1 1 0 true) ∷ by 0 (kinds.Post 2 0 5 true) ∷
    by 0 (kinds.Reprio 0 UserBlocking) ∷ by 0 (kinds.Tick 10) ∷ by 0 (kinds.Policy policies.All) ∷ by 2 (kinds.Take 0 0 0) ∷ by 2 (kinds.End 0 1) ∷
    by 2 (kinds.Take 2 0 1) ∷ by 2 (kinds.End 2 5) ∷ by 2 (kinds.Take 1 1 0) ∷ by 2 (kinds.End 1 2) ∷ by 0 kinds.Idle ∷ []

stated_seat_and_delay_is_right : judged stated_seat_and_delay stated_seat_and_delay_log ≡ Some (true, true, None)
unfolding judge read
stated_seat_and_delay_is_right = refl

-- another seat takes none of them
the_stated_seat_stays : judged stated_seat_and_delay
    (take 7 stated_seat_and_delay_log ++ by 1 (kinds.Take 0 0 0) ∷ []) ≡ Some (false, false, Some 7)
unfolding judge read
the_stated_seat_stays = refl

-- a change may come in every phase, behind its place in the script
abbrev after_shutdown_too : List ℕ
after_shutdown_too =
    (codes "workers 1\nrunner 0 sequenced user_visible block\nrunner 1 sequenced best_effort block\n"
    ++ codes "runner 2 sequenced user_blocking skip\ntask 0 add 1\ntask 1 add 2\ntask 2 add 4\npolicy none\npost 0 0 0\npost 1 1 0\n"
    ++ codes "post 2 2 0\nreprio 1 user_blocking\nshutdown\nreprio 0 best_effort\n")

abbrev after_shutdown_too_log : List Entry
after_shutdown_too_log =
    by 0 (kinds.Policy policies.Nothing) ∷ by 0 (kinds.Post 0 0 0 true) ∷ by 0 (kinds.Post 1 1 0 true) ∷ by 0 (kinds.Post 2 2 0 true) ∷
    by 0 (kinds.Reprio 1 UserBlocking) ∷ by 0 kinds.Shutdown ∷ by 1 (kinds.Take 1 1 0) ∷ by 1 (kinds.End 1 2) ∷ by 1 (kinds.Take 0 0 0) ∷
    by 1 (kinds.End 0 1) ∷ by 0 kinds.Done ∷ by 0 (kinds.Reprio 0 BestEffort) ∷ []

after_shutdown_too_is_right : judged after_shutdown_too after_shutdown_too_log ≡ Some (true, true, None)
unfolding judge read
after_shutdown_too_is_right = refl

-- not while shutdown still waits
not_before_shutdown_is_done : judged after_shutdown_too
    (take 10 after_shutdown_too_log ++ by 0 (kinds.Reprio 0 BestEffort) ∷ []) ≡ Some (false, false, Some 10)
unfolding judge read
not_before_shutdown_is_done = refl

-- a blocking scope raises the limit of the group in which its task was taken
abbrev scope_counts_as_it_was_taken : List ℕ
scope_counts_as_it_was_taken =
    (codes "workers 3\ngroups 1 1 1\nrunner 0 parallel best_effort skip mayblock\nrunner 1 parallel best_effort skip\n"
    ++ codes "task 0 block will ; unblock\ntask 1 add 1\npost 0 0 0\nreprio 0 user_visible\npost 1 1 0\nflush\n")

abbrev scope_counts_as_it_was_taken_log : List Entry
scope_counts_as_it_was_taken_log =
    by 0 (kinds.Post 0 0 0 true) ∷ by 1 (kinds.Take 0 0 0) ∷ by 1 (kinds.Enter 0 Will) ∷ by 0 (kinds.Reprio 0 UserVisible) ∷
    by 0 (kinds.Post 1 1 0 true) ∷ by 2 (kinds.Take 1 1 0) ∷ by 2 (kinds.End 1 1) ∷ by 1 (kinds.Leave 0) ∷ by 1 (kinds.End 0 0) ∷ by 0 kinds.Idle ∷ []

scope_counts_as_it_was_taken_is_right : judged scope_counts_as_it_was_taken scope_counts_as_it_was_taken_log ≡ Some (true, true, None)
unfolding judge read
scope_counts_as_it_was_taken_is_right = refl
