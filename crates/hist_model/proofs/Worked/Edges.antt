-- Histories at the edges of the rules that were worked out by hand.
use Rattle.std.proofs.Common.{true, false, List, [], ◌∷◌, refl}
use Rattle.std.specs.Prelude.{◌++◌, codes, Some, None}
use Rattle.task_base.specs.Plan.{Plan}
use Rattle.task_base.specs.declared.entry.Entry.{Entry}
use Rattle.task_base.specs.declared.entry.Kind.TheVariants as kinds
use Rattle.task_base.specs.declared.entry.JobReply.TheVariants.{Refused, Finished}
use Rattle.task_base.specs.declared.policy.Policy.TheVariants as policies
use Rattle.task_base.specs.declared.script.Action.TheVariants as actions
use Rattle.task_base.specs.declared.script.FenceAt.TheVariants.{Now}
use Rattle.task_base.specs.declared.script.RunnerKind.TheVariants.{Parallel, Sequenced}
use Rattle.task_base.specs.declared.step.Scope.TheVariants.{May}
use Rattle.task_base.specs.declared.step.Step.TheVariants as steps
use Rattle.task_traits.specs.declared.traits.Behaviour.TheVariants.{SkipOnShutdown, BlockShutdown}
use Rattle.task_traits.specs.declared.traits.Priority.TheVariants.{BestEffort, UserVisible, UserBlocking}
use Rattle.task_base.specs.Entries.{entry_by as by}
use Rattle.hist_model.proofs.Worked.Rows.{judge, read, ways_of, written, Worked, worked, AreRight, runner_of, queue_of, job_of, plain}

abbrev refused_before_done_script : Plan
refused_before_done_script = record plain {
  jobs = job_of UserVisible SkipOnShutdown 0 4 (steps.Add 7 ∷ []) ∷ [];
  actions = actions.Shutdown ∷ actions.StartJob 0 ∷ actions.Cancel 0 ∷ actions.Join 0 ∷ [];
}

abbrev refused_before_done_log : List Entry
refused_before_done_log =
    by 0 kinds.Shutdown ∷
    by 0 kinds.Done ∷
    by 0 (kinds.JobPost 0 false) ∷
    by 0 (kinds.JobCancel 0) ∷
    by 0 (kinds.Cancelled 0) ∷
    by 0 (kinds.Joined 0 Refused) ∷
    []

-- refused comes before done and cancelled
abbrev refused_before_done : Worked
refused_before_done = worked refused_before_done_script refused_before_done_log
    (codes "workers 1\njob 0 user_visible skip 0 4 add 7\nshutdown\nstartjob 0\ncancel 0\njoin 0\n")
    (codes "0 0 shutdown\n1 0 done\n2 0 startjob 0 no\n3 0 cancel 0\n4 0 cancelled 0\n5 0 joined 0 refused\n")

abbrev inside_after_the_script_script : Plan
inside_after_the_script_script = record plain {
  workers = 2;
  jobs = job_of UserVisible SkipOnShutdown 3 4 (steps.Add 1 ∷ []) ∷ [];
  actions = actions.StartJob 0 ∷ actions.Tick 1 ∷ [];
}

abbrev inside_after_the_script_log : List Entry
inside_after_the_script_log =
    by 0 (kinds.JobPost 0 true) ∷
    by 1 (kinds.JobTake 0 0 0) ∷
    by 0 (kinds.Tick 0) ∷
    by 1 (kinds.JobStep 0 0 0 1 (Some 1)) ∷
    by 1 (kinds.JobStep 0 0 1 2 (Some 2)) ∷
    by 1 (kinds.JobStep 0 0 2 3 None) ∷
    []

-- a worker inside a job goes on after the script is finished
abbrev inside_after_the_script : Worked
inside_after_the_script = worked inside_after_the_script_script inside_after_the_script_log
    (codes "workers 2\njob 0 user_visible skip 3 4 add 1\nstartjob 0\ntick 1\n")
    (codes "0 0 startjob 0 ok\n1 1 jobtake 0 0 0\n2 0 tick 0\n3 1 jobstep 0 0 0 1 1\n4 1 jobstep 0 0 1 2 2\n5 1 jobstep 0 0 2 3 -\n")

abbrev best_effort_yields_by_the_group_script : Plan
best_effort_yields_by_the_group_script = record plain {
  foreground = 2;
  foreground_best = 1;
  runners = runner_of Parallel UserBlocking SkipOnShutdown false ∷ [];
  tasks = [] ∷ [];
  jobs = job_of BestEffort SkipOnShutdown 2 1 (steps.Add 0 ∷ []) ∷ [];
  actions = actions.StartJob 0 ∷ actions.Post 0 0 0 ∷ actions.Flush ∷ [];
}

abbrev best_effort_yields_by_the_group_log : List Entry
best_effort_yields_by_the_group_log =
    by 0 (kinds.JobPost 0 true) ∷
    by 1 (kinds.JobTake 0 0 0) ∷
    by 0 (kinds.Post 0 0 0 true) ∷
    by 1 (kinds.JobStep 0 0 0 0 (Some 1)) ∷
    by 1 (kinds.JobStep 0 0 1 1 None) ∷
    by 1 (kinds.Take 0 0 0) ∷
    by 1 (kinds.End 0 0) ∷
    by 0 kinds.Idle ∷
    []

-- a best-effort job asks the capacity of its group, not the best-effort one
abbrev best_effort_yields_by_the_group : Worked
best_effort_yields_by_the_group = worked best_effort_yields_by_the_group_script best_effort_yields_by_the_group_log
    (codes "workers 1\ngroups 2 1 0\nrunner 0 parallel user_blocking skip\ntask 0\njob 0 best_effort skip 2 1 add 0\nstartjob 0\npost 0 0 0\nflush\n")
    (codes "0 0 startjob 0 ok\n1 1 jobtake 0 0 0\n2 0 post 0 0 0 ok\n3 1 jobstep 0 0 0 0 1\n4 1 jobstep 0 0 1 1 -\n5 1 take 0 0 0\n6 1 end 0 0\n7 0 idle\n")

abbrev driver_does_not_make_way_script : Plan
driver_does_not_make_way_script = record plain {
  foreground = 1;
  foreground_best = 1;
  runners = runner_of Parallel UserVisible SkipOnShutdown false ∷ runner_of Parallel UserBlocking SkipOnShutdown false ∷ [];
  tasks = [] ∷ (steps.Post 0 1 0 ∷ []) ∷ [];
  jobs = job_of BestEffort SkipOnShutdown 2 1 (steps.Add 0 ∷ []) ∷ [];
  actions = actions.StartJob 0 ∷ actions.Post 1 0 0 ∷ actions.Join 0 ∷ actions.Flush ∷ [];
}

abbrev driver_does_not_make_way_log : List Entry
driver_does_not_make_way_log =
    by 0 (kinds.JobPost 0 true) ∷
    by 0 (kinds.Post 1 0 0 true) ∷
    by 1 (kinds.Take 1 0 0) ∷
    by 0 (kinds.JobTake 0 0 0) ∷
    by 1 (kinds.Post 0 1 0 true) ∷
    by 0 (kinds.JobStep 0 0 0 0 (Some 1)) ∷
    by 0 (kinds.JobStep 0 0 1 1 None) ∷
    by 0 (kinds.Joined 0 (Finished 1)) ∷
    by 1 (kinds.End 1 0) ∷
    by 1 (kinds.Take 0 1 0) ∷
    by 1 (kinds.End 0 0) ∷
    by 0 kinds.Idle ∷
    []

-- the driver inside a job makes no way
abbrev driver_does_not_make_way : Worked
driver_does_not_make_way = worked driver_does_not_make_way_script driver_does_not_make_way_log
    (codes "workers 1\ngroups 1 1 0\nrunner 0 parallel user_visible skip\nrunner 1 parallel user_blocking skip\ntask 0\n"
    ++ codes "task 1 post 0 1 0\njob 0 best_effort skip 2 1 add 0\nstartjob 0\npost 1 0 0\njoin 0\nflush\n")
    (codes "0 0 startjob 0 ok\n1 0 post 1 0 0 ok\n2 1 take 1 0 0\n3 0 jobtake 0 0 0\n4 1 post 0 1 0 ok\n5 0 jobstep 0 0 0 0 1\n"
    ++ codes "6 0 jobstep 0 0 1 1 -\n7 0 joined 0 done 1\n8 1 end 1 0\n9 1 take 0 1 0\n10 1 end 0 0\n11 0 idle\n")

abbrev threshold_from_the_opening_script : Plan
threshold_from_the_opening_script = record plain {
  workers = 2;
  foreground = 1;
  foreground_best = 1;
  threshold = 5;
  runners = runner_of Parallel UserVisible SkipOnShutdown true ∷ [];
  tasks = (steps.Block May ∷ steps.Unblock ∷ []) ∷ [] ∷ [];
  actions = actions.Tick 1 ∷ actions.Post 0 0 0 ∷ actions.Post 1 0 0 ∷ actions.Tick 2 ∷ actions.Flush ∷ [];
}

abbrev threshold_from_the_opening_log : List Entry
threshold_from_the_opening_log =
    by 0 (kinds.Tick 3) ∷
    by 0 (kinds.Post 0 0 0 true) ∷
    by 0 (kinds.Post 1 0 0 true) ∷
    by 1 (kinds.Take 0 0 0) ∷
    by 1 (kinds.Enter 0 May) ∷
    by 0 (kinds.Tick 7) ∷
    by 0 (kinds.Tick 8) ∷
    by 2 (kinds.Take 1 0 0) ∷
    by 1 (kinds.Leave 0) ∷
    by 1 (kinds.End 0 0) ∷
    by 2 (kinds.End 1 0) ∷
    by 0 kinds.Idle ∷
    []

-- the threshold counts from the moment of the opening
abbrev threshold_from_the_opening : Worked
threshold_from_the_opening = worked threshold_from_the_opening_script threshold_from_the_opening_log
    (codes "workers 2\ngroups 1 1 0\nthreshold 5\nrunner 0 parallel user_visible skip mayblock\ntask 0 block may ; unblock\ntask 1\n"
    ++ codes "tick 1\npost 0 0 0\npost 1 0 0\ntick 2\nflush\n")
    (codes "0 0 tick 3\n1 0 post 0 0 0 ok\n2 0 post 1 0 0 ok\n3 1 take 0 0 0\n4 1 block 0 may\n5 0 tick 7\n6 0 tick 8\n"
    ++ codes "7 2 take 1 0 0\n8 1 unblock 0\n9 1 end 0 0\n10 2 end 1 0\n11 0 idle\n")

abbrev forbidden_task_is_passed_over_script : Plan
forbidden_task_is_passed_over_script = record plain {
  runners = runner_of Sequenced UserVisible BlockShutdown false ∷ [];
  tasks = [] ∷ (steps.Add 2 ∷ []) ∷ [];
  actions = actions.Policy policies.Nothing ∷ actions.Post 0 0 5 ∷ actions.Tick 1 ∷ actions.Post 1 0 0 ∷ actions.Shutdown ∷ [];
}

abbrev forbidden_task_is_passed_over_log : List Entry
forbidden_task_is_passed_over_log =
    by 0 (kinds.Policy policies.Nothing) ∷
    by 0 (kinds.Post 0 0 5 true) ∷
    by 0 (kinds.Tick 5) ∷
    by 0 (kinds.Post 1 0 0 true) ∷
    by 0 kinds.Shutdown ∷
    by 1 (kinds.Take 1 0 0) ∷
    by 1 (kinds.End 1 2) ∷
    by 0 kinds.Done ∷
    []

-- after shutdown the head is the least task that may start
abbrev forbidden_task_is_passed_over : Worked
forbidden_task_is_passed_over = worked forbidden_task_is_passed_over_script forbidden_task_is_passed_over_log
    (codes "workers 1\nrunner 0 sequenced user_visible block\ntask 0\ntask 1 add 2\npolicy none\npost 0 0 5\ntick 1\npost 1 0 0\nshutdown\n")
    (codes "0 0 policy none\n1 0 post 0 0 5 ok\n2 0 tick 5\n3 0 post 1 0 0 ok\n4 0 shutdown\n5 1 take 1 0 0\n6 1 end 1 2\n7 0 done\n")

abbrev delayed_block_refused_after_shutdown_script : Plan
delayed_block_refused_after_shutdown_script = record plain {
  runners = runner_of Sequenced UserVisible BlockShutdown false ∷ [];
  tasks = [] ∷ [] ∷ (steps.Post 0 0 5 ∷ steps.Post 1 0 0 ∷ []) ∷ [];
  actions = actions.Post 2 0 0 ∷ actions.Shutdown ∷ [];
}

abbrev delayed_block_refused_after_shutdown_log : List Entry
delayed_block_refused_after_shutdown_log =
    by 0 (kinds.Post 2 0 0 true) ∷
    by 0 kinds.Shutdown ∷
    by 1 (kinds.Take 2 0 0) ∷
    by 1 (kinds.Post 0 0 5 false) ∷
    by 1 (kinds.Post 1 0 0 true) ∷
    by 1 (kinds.End 2 0) ∷
    by 1 (kinds.Take 1 0 0) ∷
    by 1 (kinds.End 1 0) ∷
    by 0 kinds.Done ∷
    []

-- a delayed block post is refused once shutdown started, an immediate one is not
abbrev delayed_block_refused_after_shutdown : Worked
delayed_block_refused_after_shutdown = worked delayed_block_refused_after_shutdown_script delayed_block_refused_after_shutdown_log
    (codes "workers 1\nrunner 0 sequenced user_visible block\ntask 0\ntask 1\ntask 2 post 0 0 5 ; post 1 0 0\npost 2 0 0\nshutdown\n")
    (codes "0 0 post 2 0 0 ok\n1 0 shutdown\n2 1 take 2 0 0\n3 1 post 0 0 5 no\n4 1 post 1 0 0 ok\n5 1 end 2 0\n6 1 take 1 0 0\n7 1 end 1 0\n8 0 done\n")

abbrev ripened_before_posted_script : Plan
ripened_before_posted_script = record plain {
  runners = runner_of Sequenced UserVisible SkipOnShutdown false ∷ [];
  tasks = [] ∷ [] ∷ [] ∷ [] ∷ [];
  actions = actions.Policy policies.Nothing ∷ actions.Post 0 0 5 ∷ actions.Post 1 0 3 ∷ actions.Post 2 0 3 ∷ actions.Tick 1 ∷ actions.Post 3 0 0 ∷
      actions.Policy policies.All ∷ actions.Flush ∷ [];
}

abbrev ripened_before_posted_log : List Entry
ripened_before_posted_log =
    by 0 (kinds.Policy policies.Nothing) ∷
    by 0 (kinds.Post 0 0 5 true) ∷
    by 0 (kinds.Post 1 0 3 true) ∷
    by 0 (kinds.Post 2 0 3 true) ∷
    by 0 (kinds.Tick 5) ∷
    by 0 (kinds.Post 3 0 0 true) ∷
    by 0 (kinds.Policy policies.All) ∷
    by 1 (kinds.Take 1 0 0) ∷
    by 1 (kinds.End 1 0) ∷
    by 1 (kinds.Take 2 0 0) ∷
    by 1 (kinds.End 2 0) ∷
    by 1 (kinds.Take 0 0 0) ∷
    by 1 (kinds.End 0 0) ∷
    by 1 (kinds.Take 3 0 0) ∷
    by 1 (kinds.End 3 0) ∷
    by 0 kinds.Idle ∷
    []

-- a task that ripened at a tick goes before one posted after it, and ties go by ripe moment then post
abbrev ripened_before_posted : Worked
ripened_before_posted = worked ripened_before_posted_script ripened_before_posted_log
    (codes "workers 1\nrunner 0 sequenced user_visible skip\ntask 0\ntask 1\ntask 2\ntask 3\npolicy none\npost 0 0 5\npost 1 0 3\n"
    ++ codes "post 2 0 3\ntick 1\npost 3 0 0\npolicy all\nflush\n")
    (codes "0 0 policy none\n1 0 post 0 0 5 ok\n2 0 post 1 0 3 ok\n3 0 post 2 0 3 ok\n4 0 tick 5\n5 0 post 3 0 0 ok\n"
    ++ codes "6 0 policy all\n7 1 take 1 0 0\n8 1 end 1 0\n9 1 take 2 0 0\n10 1 end 2 0\n11 1 take 0 0 0\n12 1 end 0 0\n"
    ++ codes "13 1 take 3 0 0\n14 1 end 3 0\n15 0 idle\n")

abbrev fence_holds_the_delayed_lane_script : Plan
fence_holds_the_delayed_lane_script = record plain {
  workers = 2;
  queues = queue_of 0 0 ∷ [];
  tasks = [] ∷ [] ∷ [];
  actions = actions.Main 0 0 5 ∷ actions.Main 1 0 0 ∷ actions.Fence 0 Now ∷ actions.Tick 1 ∷ actions.Pump 2 ∷ [];
}

abbrev fence_holds_the_delayed_lane_log : List Entry
fence_holds_the_delayed_lane_log =
    by 0 (kinds.Main 0 0 5 true) ∷
    by 0 (kinds.Main 1 0 0 true) ∷
    by 0 (kinds.Fence 0 Now) ∷
    by 0 (kinds.Tick 5) ∷
    by 0 (kinds.MainTake 1 0 0) ∷
    by 0 (kinds.MainEnd 1 0) ∷
    by 0 kinds.MainNone ∷
    []

-- a delayed task that ripens after the fence is held back though it was posted before
abbrev fence_holds_the_delayed_lane : Worked
fence_holds_the_delayed_lane = worked fence_holds_the_delayed_lane_script fence_holds_the_delayed_lane_log
    (codes "queue 0 0 0\ntask 0\ntask 1\nmain 0 0 5\nmain 1 0 0\nfence 0 now\ntick 1\npump 2\n")
    (codes "0 0 main 0 0 5 ok\n1 0 main 1 0 0 ok\n2 0 fence 0 now\n3 0 tick 5\n4 0 maintake 1 0 0\n5 0 mainend 1 0\n6 0 mainnone\n")

abbrev streak_ended_by_another_class_script : Plan
streak_ended_by_another_class_script = record plain {
  workers = 2;
  queues = queue_of 3 0 ∷ queue_of 2 0 ∷ [];
  tasks = [] ∷ [] ∷ [] ∷ [] ∷ [] ∷ [] ∷ [];
  actions = actions.Main 0 0 1 ∷ actions.Main 1 0 1 ∷ actions.Main 2 0 1 ∷ actions.Main 3 0 1 ∷ actions.Main 5 1 2 ∷ actions.Tick 1 ∷ actions.Main 4 0 0 ∷
      actions.Pump 3 ∷ actions.Tick 1 ∷ actions.Pump 2 ∷ [];
}

abbrev streak_ended_by_another_class_log : List Entry
streak_ended_by_another_class_log =
    by 0 (kinds.Main 0 0 1 true) ∷
    by 0 (kinds.Main 1 0 1 true) ∷
    by 0 (kinds.Main 2 0 1 true) ∷
    by 0 (kinds.Main 3 0 1 true) ∷
    by 0 (kinds.Main 5 1 2 true) ∷
    by 0 (kinds.Tick 1) ∷
    by 0 (kinds.Main 4 0 0 true) ∷
    by 0 (kinds.MainTake 0 0 0) ∷
    by 0 (kinds.MainEnd 0 0) ∷
    by 0 (kinds.MainTake 1 0 0) ∷
    by 0 (kinds.MainEnd 1 0) ∷
    by 0 (kinds.MainTake 2 0 0) ∷
    by 0 (kinds.MainEnd 2 0) ∷
    by 0 (kinds.Tick 2) ∷
    by 0 (kinds.MainTake 5 1 0) ∷
    by 0 (kinds.MainEnd 5 0) ∷
    by 0 (kinds.MainTake 3 0 0) ∷
    by 0 (kinds.MainEnd 3 0) ∷
    []

-- a delayed task of a better class without immediate tasks ends the streak
abbrev streak_ended_by_another_class : Worked
streak_ended_by_another_class = worked streak_ended_by_another_class_script streak_ended_by_another_class_log
    (codes "queue 0 3 0\nqueue 1 2 0\ntask 0\ntask 1\ntask 2\ntask 3\ntask 4\ntask 5\nmain 0 0 1\nmain 1 0 1\nmain 2 0 1\n"
    ++ codes "main 3 0 1\nmain 5 1 2\ntick 1\nmain 4 0 0\npump 3\ntick 1\npump 2\n")
    (codes "0 0 main 0 0 1 ok\n1 0 main 1 0 1 ok\n2 0 main 2 0 1 ok\n3 0 main 3 0 1 ok\n4 0 main 5 1 2 ok\n5 0 tick 1\n"
    ++ codes "6 0 main 4 0 0 ok\n7 0 maintake 0 0 0\n8 0 mainend 0 0\n9 0 maintake 1 0 0\n10 0 mainend 1 0\n11 0 maintake 2 0 0\n"
    ++ codes "12 0 mainend 2 0\n13 0 tick 2\n14 0 maintake 5 1 0\n15 0 mainend 5 0\n16 0 maintake 3 0 0\n17 0 mainend 3 0\n")

abbrev done_then_cancelled_script : Plan
done_then_cancelled_script = record plain {
  jobs = job_of UserVisible SkipOnShutdown 1 4 (steps.Add 7 ∷ []) ∷ [];
  actions = actions.StartJob 0 ∷ actions.Flush ∷ actions.Cancel 0 ∷ actions.Join 0 ∷ [];
}

abbrev done_then_cancelled_log : List Entry
done_then_cancelled_log =
    by 0 (kinds.JobPost 0 true) ∷
    by 1 (kinds.JobTake 0 0 0) ∷
    by 1 (kinds.JobStep 0 0 0 7 None) ∷
    by 0 kinds.Idle ∷
    by 0 (kinds.JobCancel 0) ∷
    by 0 (kinds.Cancelled 0) ∷
    by 0 (kinds.Joined 0 (Finished 7)) ∷
    []

-- a job whose items are all done and that is cancelled joins as done
abbrev done_then_cancelled : Worked
done_then_cancelled = worked done_then_cancelled_script done_then_cancelled_log
    (codes "workers 1\njob 0 user_visible skip 1 4 add 7\nstartjob 0\nflush\ncancel 0\njoin 0\n")
    (codes "0 0 startjob 0 ok\n1 1 jobtake 0 0 0\n2 1 jobstep 0 0 0 7 -\n3 0 idle\n4 0 cancel 0\n5 0 cancelled 0\n6 0 joined 0 done 7\n")

abbrev held_work_makes_no_way_script : Plan
held_work_makes_no_way_script = record plain {
  foreground = 1;
  foreground_best = 1;
  runners = runner_of Parallel UserVisible SkipOnShutdown false ∷ [];
  tasks = [] ∷ [];
  jobs = job_of BestEffort SkipOnShutdown 2 1 (steps.Add 0 ∷ []) ∷ [];
  actions = actions.StartJob 0 ∷ actions.Tick 1 ∷ actions.Policy policies.Nothing ∷ actions.Post 0 0 0 ∷ actions.Tick 1 ∷ [];
}

abbrev held_work_makes_no_way_log : List Entry
held_work_makes_no_way_log =
    by 0 (kinds.JobPost 0 true) ∷
    by 0 (kinds.Tick 0) ∷
    by 1 (kinds.JobTake 0 0 0) ∷
    by 0 (kinds.Policy policies.Nothing) ∷
    by 0 (kinds.Post 0 0 0 true) ∷
    by 1 (kinds.JobStep 0 0 0 0 (Some 1)) ∷
    by 1 (kinds.JobStep 0 0 1 1 None) ∷
    by 0 (kinds.Tick 0) ∷
    []

-- work that the policy holds back makes no worker leave
abbrev held_work_makes_no_way : Worked
held_work_makes_no_way = worked held_work_makes_no_way_script held_work_makes_no_way_log
    (codes "workers 1\ngroups 1 1 0\nrunner 0 parallel user_visible skip\ntask 0\njob 0 best_effort skip 2 1 add 0\nstartjob 0\n"
    ++ codes "tick 1\npolicy none\npost 0 0 0\ntick 1\n")
    (codes "0 0 startjob 0 ok\n1 0 tick 0\n2 1 jobtake 0 0 0\n3 0 policy none\n4 0 post 0 0 0 ok\n5 1 jobstep 0 0 0 0 1\n6 1 jobstep 0 0 1 1 -\n7 0 tick 0\n")

-- each of them is right
edges_are_right : AreRight (refused_before_done ∷ inside_after_the_script ∷ best_effort_yields_by_the_group ∷ driver_does_not_make_way ∷
    threshold_from_the_opening ∷ forbidden_task_is_passed_over ∷ delayed_block_refused_after_shutdown ∷ ripened_before_posted ∷ fence_holds_the_delayed_lane ∷
    streak_ended_by_another_class ∷ done_then_cancelled ∷ held_work_makes_no_way ∷ [])
unfolding judge read written ways_of
edges_are_right = refl
