-- Histories that pin single words of the definitions of keys, moments and cells.
use Rattle.std.proofs.Common.{◌≡◌, ℕ, true, false, List, [], ◌∷◌, refl}
use Rattle.std.specs.Prelude.{◌++◌, codes, Some, None}
use Rattle.task_base.specs.declared.entry.JobReply.TheVariants as replies
use Rattle.task_base.specs.declared.entry.Kind.TheVariants as kinds
use Rattle.task_base.specs.declared.policy.Policy.TheVariants as policies
use Rattle.task_base.specs.declared.script.FenceAt.TheVariants.{Now, Start}
use Rattle.task_base.specs.declared.step.Scope.TheVariants.{Will}
use Rattle.task_base.specs.Entries.{entry_by as by}
use Rattle.hist_model.proofs.Worked.Rows.{judge, read}
use Rattle.hist_model.proofs.Worked.Corners.{judged}

-- both ripen at one moment and tick, and the one with the greater number was posted first
first_posted_of_two_that_ripen : judged
    (codes "workers 1\nrunner 0 parallel user_visible skip\ntask 0\ntask 1\ntick 1\npost 1 0 5\npost 0 0 5\ntick 1\nflush\n")
    (by 0 (kinds.Tick 0) ∷ by 0 (kinds.Post 1 0 5 true) ∷ by 0 (kinds.Post 0 0 5 true) ∷ by 0 (kinds.Tick 5)
    ∷ by 1 (kinds.Take 1 0 0) ∷ []) ≡ Some (true, false, None)
unfolding judge read
first_posted_of_two_that_ripen = refl

-- the lesser ripe moment goes first, though it was posted later
lesser_ripe_moment_of_two_sources : judged (codes "workers 1\nrunner 0 parallel user_visible skip\ntask 0\ntask 1\npost 1 0 5\npost 0 0 3\ntick 1\nflush\n")
    (by 0 (kinds.Post 1 0 5 true) ∷ by 0 (kinds.Post 0 0 3 true) ∷ by 0 (kinds.Tick 5) ∷ by 1 (kinds.Take 0 0 0) ∷ []) ≡ Some (true, false, None)
unfolding judge read
lesser_ripe_moment_of_two_sources = refl

-- the task ripens at 7
delay_counts_from_the_post : judged (codes "workers 1\nrunner 0 parallel user_visible skip\ntask 0\ntick 1\npost 0 0 2\ntick 1\nflush\n")
    (by 0 (kinds.Tick 5) ∷ by 0 (kinds.Post 0 0 2 true) ∷ by 0 (kinds.Tick 6) ∷ by 1 (kinds.Take 0 0 0) ∷ []) ≡ Some (false, false, Some 3)
unfolding judge read
delay_counts_from_the_post = refl

abbrev great_values : List ℕ
great_values =
    (codes "workers 1\nrunner 0 parallel user_visible skip\ntask 0 set 18446744073709551615 ; add 9223372036854775809\n"
    ++ codes "task 1 set 9223372036854775809 ; mul 3\npost 0 0 0\npost 1 0 0\nflush\n")

values_are_modulo_two_to_the_64 : judged great_values
    (by 0 (kinds.Post 0 0 0 true) ∷ by 0 (kinds.Post 1 0 0 true) ∷ by 1 (kinds.Take 0 0 0)
    ∷ by 1 (kinds.End 0 9223372036854775808) ∷ by 1 (kinds.Take 1 0 0) ∷ by 1 (kinds.End 1 9223372036854775811)
    ∷ by 0 kinds.Idle ∷ []) ≡ Some (true, true, None)
unfolding judge read
values_are_modulo_two_to_the_64 = refl

first_posted_of_two_that_ripen_in_order : judged
    (codes "workers 1\nrunner 0 parallel user_visible skip\ntask 0\ntask 1\npost 0 0 5\npost 1 0 5\ntick 1\nflush\n")
    (by 0 (kinds.Post 0 0 5 true) ∷ by 0 (kinds.Post 1 0 5 true) ∷ by 0 (kinds.Tick 5) ∷ by 1 (kinds.Take 0 0 0) ∷ []) ≡ Some (true, false, None)
unfolding judge read
first_posted_of_two_that_ripen_in_order = refl

-- the ripe moments are 5 and 6
lesser_ripe_moment_of_the_greater_delay : judged
    (codes "workers 1\nrunner 0 parallel user_visible skip\ntask 0\ntask 1\npost 0 0 5\ntick 1\npost 1 0 3\ntick 1\nflush\n")
    (by 0 (kinds.Post 0 0 5 true) ∷ by 0 (kinds.Tick 3) ∷ by 0 (kinds.Post 1 0 3 true) ∷ by 0 (kinds.Tick 6)
    ∷ by 1 (kinds.Take 0 0 0) ∷ []) ≡ Some (true, false, None)
unfolding judge read
lesser_ripe_moment_of_the_greater_delay = refl

-- each sequence has a cell of its own, which lasts
cells_of_two_sequences : judged (codes "workers 2\nrunner 0 sequenced user_visible skip\nrunner 1 sequenced user_visible skip\ntask 0 add 5\ntask 1\ntask 2\n"
    ++ codes "post 0 1 0\npost 1 0 0\npost 2 1 0\ntick 1\n")
    (by 0 (kinds.Post 0 1 0 true) ∷ by 2 (kinds.Take 0 1 0) ∷ by 2 (kinds.End 0 5) ∷ by 0 (kinds.Post 1 0 0 true)
    ∷ by 1 (kinds.Take 1 0 0) ∷ by 1 (kinds.End 1 0) ∷ by 0 (kinds.Post 2 1 0 true) ∷ by 1 (kinds.Take 2 1 5) ∷ []) ≡ Some (true, false, None)
unfolding judge read
cells_of_two_sequences = refl

-- its tasks are one sequence
cell_of_a_single_thread_runner : judged (codes "workers 1\nrunner 0 single:1 user_visible skip\ntask 0 add 5\ntask 1\npost 0 0 0\npost 1 0 0\ntick 1\n")
    (by 0 (kinds.Post 0 0 0 true) ∷ by 0 (kinds.Post 1 0 0 true) ∷ by 1 (kinds.Take 0 0 0) ∷ by 1 (kinds.End 0 5)
    ∷ by 1 (kinds.Take 1 0 5) ∷ []) ≡ Some (true, false, None)
unfolding judge read
cell_of_a_single_thread_runner = refl

abbrev all_of_number_nothing : List ℕ
all_of_number_nothing =
    (codes "workers 1\nrunner 0 parallel user_visible skip\nqueue 0 0 1\ntask 0\ntask 1\njob 0 user_visible skip 1 1\ntick 1\n"
    ++ codes "policy none\npost 0 0 0\nstartjob 0\nmain 1 0 0\nfence 0 start\nvote 0 0 on\nrank 0 0\npump 1\nunfence 0\nvote 0 0 on\n"
    ++ codes "rank 0 0\npolicy all\nflush\ncancel 0\njoin 0\npump 1\n")

-- a task, a queue, a job and a runner may have one number, and none of them changes by what another does
other_kinds_with_one_number : judged all_of_number_nothing
    (by 0 (kinds.Tick 5) ∷ by 0 (kinds.Policy policies.Nothing) ∷ by 0 (kinds.Post 0 0 0 true) ∷ by 0 (kinds.JobPost 0 true)
    ∷ by 0 (kinds.Main 1 0 0 true) ∷ by 0 (kinds.Fence 0 Start) ∷ by 0 (kinds.Vote 0 0 true) ∷ by 0 (kinds.Rank 0 0)
    ∷ by 0 kinds.MainNone ∷ by 0 (kinds.Unfence 0) ∷ by 0 (kinds.Vote 0 0 true) ∷ by 0 (kinds.Rank 0 0)
    ∷ by 0 (kinds.Policy policies.All) ∷ by 1 (kinds.Take 0 0 0) ∷ by 1 (kinds.End 0 0) ∷ by 1 (kinds.JobTake 0 0 0)
    ∷ by 1 (kinds.JobStep 0 0 0 0 None) ∷ by 0 kinds.Idle ∷ by 0 (kinds.JobCancel 0) ∷ by 0 (kinds.Cancelled 0)
    ∷ by 0 (kinds.Joined 0 (replies.Finished 0)) ∷ by 0 (kinds.MainTake 1 0 0) ∷ by 0 (kinds.MainEnd 1 0) ∷ []) ≡ Some (true, true, None)
unfolding judge read
other_kinds_with_one_number = refl

moment_lasts : judged (codes "queue 0 0 1\njob 0 user_visible skip 0 1\ntick 1\nfence 0 now\nunfence 0\nvote 0 0 on\nrank 0 0\nclose 0\nstartjob 0\n"
    ++ codes "cancel 0\njoin 0\ntick 1\n")
    (by 0 (kinds.Tick 5) ∷ by 0 (kinds.Fence 0 Now) ∷ by 0 (kinds.Unfence 0) ∷ by 0 (kinds.Vote 0 0 true)
    ∷ by 0 (kinds.Rank 0 0) ∷ by 0 (kinds.Close 0) ∷ by 0 (kinds.JobPost 0 true) ∷ by 0 (kinds.JobCancel 0)
    ∷ by 0 (kinds.Cancelled 0) ∷ by 0 (kinds.Joined 0 (replies.Finished 0)) ∷ by 0 (kinds.Tick 4) ∷ []) ≡ Some (false, true, Some 10)
unfolding judge read
moment_lasts = refl

moment_lasts_through_work : judged (codes "workers 1\nrunner 0 parallel user_visible skip mayblock\ntask 0 block will ; unblock\njob 0 user_visible skip 1 1\n"
    ++ codes "tick 1\npost 0 0 0\nstartjob 0\nflush\ntick 1\n")
    (by 0 (kinds.Tick 5) ∷ by 0 (kinds.Post 0 0 0 true) ∷ by 0 (kinds.JobPost 0 true) ∷ by 1 (kinds.Take 0 0 0)
    ∷ by 1 (kinds.Enter 0 Will) ∷ by 1 (kinds.Leave 0) ∷ by 1 (kinds.End 0 0) ∷ by 1 (kinds.JobTake 0 0 0)
    ∷ by 1 (kinds.JobStep 0 0 0 0 None) ∷ by 0 kinds.Idle ∷ by 0 (kinds.Tick 4) ∷ []) ≡ Some (false, true, Some 10)
unfolding judge read
moment_lasts_through_work = refl

-- the numbers of the entries between reach the ripe moment, and none of them is a tick
only_a_tick_makes_ripe : judged (codes "workers 1\nrunner 0 parallel user_visible skip\nqueue 0 0 0\nqueue 1 0 1\ntask 0\ntask 1\njob 0 user_visible skip 0 1\n"
    ++ codes "job 1 user_visible skip 0 1\npost 0 0 1\npost 1 0 0\nflush\nfence 1 now\nunfence 1\nvote 1 0 on\nrank 1 0\nclose 1\n"
    ++ codes "startjob 1\ncancel 1\njoin 1\ntick 1\n")
    (by 0 (kinds.Post 0 0 1 true) ∷ by 0 (kinds.Post 1 0 0 true) ∷ by 1 (kinds.Take 1 0 0) ∷ by 1 (kinds.End 1 0)
    ∷ by 0 kinds.Idle ∷ by 0 (kinds.Fence 1 Now) ∷ by 0 (kinds.Unfence 1) ∷ by 0 (kinds.Vote 1 0 true) ∷ by 0 (kinds.Rank 1 0)
    ∷ by 0 (kinds.Close 1) ∷ by 0 (kinds.JobPost 1 true) ∷ by 0 (kinds.JobCancel 1) ∷ by 0 (kinds.Cancelled 1)
    ∷ by 0 (kinds.Joined 1 (replies.Finished 0)) ∷ by 1 (kinds.Take 0 0 0) ∷ []) ≡ Some (false, false, Some 14)
unfolding judge read
only_a_tick_makes_ripe = refl
