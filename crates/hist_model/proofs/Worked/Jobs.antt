-- Histories of jobs that were worked out by hand, and one of everything together.
use Rattle.std.proofs.Common.{◌≡◌, true, false, List, [], ◌∷◌, refl}
use Rattle.task_base.specs.Plan.{Plan}
use Rattle.task_base.specs.declared.entry.Entry.{Entry}
use Rattle.task_base.specs.declared.entry.Kind.TheVariants as kinds
use Rattle.task_base.specs.declared.entry.JobReply.TheVariants.{Refused, Finished, Cancelled}
use Rattle.task_base.specs.declared.policy.Policy.TheVariants as policies
use Rattle.task_base.specs.declared.script.Action.TheVariants as actions
use Rattle.task_base.specs.declared.script.RunnerKind.TheVariants.{Parallel, Sequenced, Single}
use Rattle.task_base.specs.declared.step.Scope.TheVariants.{May}
use Rattle.task_base.specs.declared.step.Step.TheVariants as steps
use Rattle.task_traits.specs.declared.traits.Behaviour.TheVariants.{ContinueOnShutdown, SkipOnShutdown, BlockShutdown}
use Rattle.task_traits.specs.declared.traits.Priority.TheVariants.{BestEffort, UserVisible, UserBlocking}
use Rattle.std.specs.Prelude.{◌++◌, codes, Some, None}
use Rattle.task_base.specs.Entries.{entry_by as by}
use Rattle.hist_model.specs.Legal.{first_illegal}
use Rattle.hist_model.proofs.Worked.Rows.{judge, read, ways_of, written, Worked, worked, AreRight, runner_of, queue_of, job_of, plain}

abbrev job_joined_alone_script : Plan
job_joined_alone_script = record plain {
  workers = 2;
  jobs = job_of UserVisible SkipOnShutdown 10 3 (steps.Mul 2 ∷ steps.Add 1 ∷ []) ∷ [];
  actions = actions.Policy policies.Nothing ∷ actions.StartJob 0 ∷ actions.Join 0 ∷ [];
}

abbrev job_joined_alone_log : List Entry
job_joined_alone_log =
    by 0 (kinds.Policy policies.Nothing) ∷
    by 0 (kinds.JobPost 0 true) ∷
    by 0 (kinds.JobTake 0 0 0) ∷
    by 0 (kinds.JobStep 0 0 0 1 (Some 1)) ∷
    by 0 (kinds.JobStep 0 0 1 3 (Some 2)) ∷
    by 0 (kinds.JobStep 0 0 2 5 (Some 3)) ∷
    by 0 (kinds.JobStep 0 0 3 7 (Some 4)) ∷
    by 0 (kinds.JobStep 0 0 4 9 (Some 5)) ∷
    by 0 (kinds.JobStep 0 0 5 11 (Some 6)) ∷
    by 0 (kinds.JobStep 0 0 6 13 (Some 7)) ∷
    by 0 (kinds.JobStep 0 0 7 15 (Some 8)) ∷
    by 0 (kinds.JobStep 0 0 8 17 (Some 9)) ∷
    by 0 (kinds.JobStep 0 0 9 19 None) ∷
    by 0 (kinds.Joined 0 (Finished 100)) ∷
    []

-- the driver does all items of a job that it joins
abbrev job_joined_alone : Worked
job_joined_alone = worked job_joined_alone_script job_joined_alone_log
    (codes "workers 2\njob 0 user_visible skip 10 3 mul 2 ; add 1\npolicy none\nstartjob 0\njoin 0\n")
    (codes "0 0 policy none\n1 0 startjob 0 ok\n2 0 jobtake 0 0 0\n3 0 jobstep 0 0 0 1 1\n4 0 jobstep 0 0 1 3 2\n"
    ++ codes "5 0 jobstep 0 0 2 5 3\n6 0 jobstep 0 0 3 7 4\n7 0 jobstep 0 0 4 9 5\n8 0 jobstep 0 0 5 11 6\n9 0 jobstep 0 0 6 13 7\n"
    ++ codes "10 0 jobstep 0 0 7 15 8\n11 0 jobstep 0 0 8 17 9\n12 0 jobstep 0 0 9 19 -\n13 0 joined 0 done 100\n")

abbrev cancel_and_refused_job_script : Plan
cancel_and_refused_job_script = record plain {
  jobs = job_of UserVisible SkipOnShutdown 4 2 (steps.Add 1 ∷ []) ∷ job_of UserVisible SkipOnShutdown 4 2 (steps.Add 1 ∷ []) ∷ [];
  actions = actions.Policy policies.Nothing ∷ actions.StartJob 0 ∷ actions.Cancel 0 ∷ actions.Join 0 ∷ actions.Shutdown ∷ actions.StartJob 1 ∷ actions.Join 1 ∷
      [];
}

abbrev cancel_and_refused_job_log : List Entry
cancel_and_refused_job_log =
    by 0 (kinds.Policy policies.Nothing) ∷
    by 0 (kinds.JobPost 0 true) ∷
    by 0 (kinds.JobCancel 0) ∷
    by 0 (kinds.Cancelled 0) ∷
    by 0 (kinds.Joined 0 Cancelled) ∷
    by 0 kinds.Shutdown ∷
    by 0 kinds.Done ∷
    by 0 (kinds.JobPost 1 false) ∷
    by 0 (kinds.Joined 1 Refused) ∷
    []

-- a cancelled job is joined as such, and shutdown refuses a job
abbrev cancel_and_refused_job : Worked
cancel_and_refused_job = worked cancel_and_refused_job_script cancel_and_refused_job_log
    (codes "workers 1\njob 0 user_visible skip 4 2 add 1\njob 1 user_visible skip 4 2 add 1\npolicy none\nstartjob 0\ncancel 0\n"
    ++ codes "join 0\nshutdown\nstartjob 1\njoin 1\n")
    (codes "0 0 policy none\n1 0 startjob 0 ok\n2 0 cancel 0\n3 0 cancelled 0\n4 0 joined 0 cancelled\n5 0 shutdown\n6 0 done\n"
    ++ codes "7 0 startjob 1 no\n8 0 joined 1 refused\n")

abbrev job_yields_script : Plan
job_yields_script = record plain {
  foreground = 1;
  foreground_best = 1;
  runners = runner_of Parallel UserBlocking SkipOnShutdown false ∷ [];
  tasks = (steps.Add 1 ∷ []) ∷ [];
  jobs = job_of UserVisible SkipOnShutdown 3 1 (steps.Add 1 ∷ []) ∷ [];
  actions = actions.StartJob 0 ∷ actions.Post 0 0 0 ∷ actions.Flush ∷ [];
}

abbrev job_yields_log : List Entry
job_yields_log =
    by 0 (kinds.JobPost 0 true) ∷
    by 1 (kinds.JobTake 0 0 0) ∷
    by 0 (kinds.Post 0 0 0 true) ∷
    by 1 (kinds.JobStep 0 0 0 1 None) ∷
    by 1 (kinds.Take 0 0 0) ∷
    by 1 (kinds.End 0 1) ∷
    by 1 (kinds.JobTake 0 0 1) ∷
    by 1 (kinds.JobStep 0 0 1 2 (Some 2)) ∷
    by 1 (kinds.JobStep 0 0 2 3 None) ∷
    by 0 kinds.Idle ∷
    []

-- a worker at a job makes way for a task of higher priority
abbrev job_yields : Worked
job_yields = worked job_yields_script job_yields_log
    (codes "workers 1\ngroups 1 1 0\nrunner 0 parallel user_blocking skip\ntask 0 add 1\njob 0 user_visible skip 3 1 add 1\nstartjob 0\npost 0 0 0\nflush\n")
    (codes "0 0 startjob 0 ok\n1 1 jobtake 0 0 0\n2 0 post 0 0 0 ok\n3 1 jobstep 0 0 0 1 -\n4 1 take 0 0 0\n5 1 end 0 1\n"
    ++ codes "6 1 jobtake 0 0 1\n7 1 jobstep 0 0 1 2 2\n8 1 jobstep 0 0 2 3 -\n9 0 idle\n")

abbrev job_does_not_yield_log : List Entry
job_does_not_yield_log =
    by 0 (kinds.JobPost 0 true) ∷
    by 1 (kinds.JobTake 0 0 0) ∷
    by 0 (kinds.Post 0 0 0 true) ∷
    by 1 (kinds.JobStep 0 0 0 1 (Some 1)) ∷
    by 1 (kinds.Take 0 0 0) ∷
    by 1 (kinds.End 0 1) ∷
    by 1 (kinds.JobTake 0 0 1) ∷
    by 1 (kinds.JobStep 0 0 1 2 (Some 2)) ∷
    by 1 (kinds.JobStep 0 0 2 3 None) ∷
    by 0 kinds.Idle ∷
    []

-- the worker goes on instead
job_does_not_yield : first_illegal job_yields_script job_does_not_yield_log ≡ Some 3
unfolding judge
job_does_not_yield = refl

abbrev cancel_with_worker_inside_script : Plan
cancel_with_worker_inside_script = record plain {
  jobs = job_of UserVisible SkipOnShutdown 4 2 (steps.Add 1 ∷ []) ∷ [];
  actions = actions.StartJob 0 ∷ actions.Cancel 0 ∷ [];
}

abbrev cancel_with_worker_inside_log : List Entry
cancel_with_worker_inside_log =
    by 0 (kinds.JobPost 0 true) ∷
    by 1 (kinds.JobTake 0 0 0) ∷
    by 0 (kinds.JobCancel 0) ∷
    by 1 (kinds.JobStep 0 0 0 1 None) ∷
    by 0 (kinds.Cancelled 0) ∷
    []

-- a cancelled job is left by those inside before the cancel is over
abbrev cancel_with_worker_inside : Worked
cancel_with_worker_inside = worked cancel_with_worker_inside_script cancel_with_worker_inside_log
    (codes "workers 1\njob 0 user_visible skip 4 2 add 1\nstartjob 0\ncancel 0\n")
    (codes "0 0 startjob 0 ok\n1 1 jobtake 0 0 0\n2 0 cancel 0\n3 1 jobstep 0 0 0 1 -\n4 0 cancelled 0\n")

abbrev cancelled_with_a_worker_inside_log : List Entry
cancelled_with_a_worker_inside_log =
    by 0 (kinds.JobPost 0 true) ∷
    by 1 (kinds.JobTake 0 0 0) ∷
    by 0 (kinds.JobCancel 0) ∷
    by 0 (kinds.Cancelled 0) ∷
    by 0 (kinds.Cancelled 0) ∷
    []

-- the cancel is over while a worker is inside
cancelled_with_a_worker_inside : first_illegal cancel_with_worker_inside_script cancelled_with_a_worker_inside_log ≡ Some 3
unfolding judge
cancelled_with_a_worker_inside = refl

abbrev goes_on_after_the_cancel_log : List Entry
goes_on_after_the_cancel_log =
    by 0 (kinds.JobPost 0 true) ∷
    by 1 (kinds.JobTake 0 0 0) ∷
    by 0 (kinds.JobCancel 0) ∷
    by 1 (kinds.JobStep 0 0 0 1 (Some 1)) ∷
    by 0 (kinds.Cancelled 0) ∷
    []

-- the worker goes on in spite of the cancel
goes_on_after_the_cancel : first_illegal cancel_with_worker_inside_script goes_on_after_the_cancel_log ≡ Some 3
unfolding judge
goes_on_after_the_cancel = refl

abbrev page_load_script : Plan
page_load_script = record plain {
  workers = 4;
  background = 1;
  threshold = 1000;
  runners = runner_of Parallel UserVisible SkipOnShutdown true ∷ runner_of Sequenced UserBlocking BlockShutdown false ∷
      runner_of (Single 2) BestEffort ContinueOnShutdown false ∷ [];
  queues = queue_of 1 1 ∷ queue_of 4 0 ∷ [];
  tasks = (steps.Add 1 ∷ []) ∷ (steps.Add 2 ∷ []) ∷ (steps.Block May ∷ steps.Add 3 ∷ steps.Unblock ∷ steps.Main 0 0 0 ∷ []) ∷
      (steps.Add 4 ∷ steps.Post 1 1 0 ∷ []) ∷ (steps.Set 9 ∷ []) ∷ (steps.Mul 2 ∷ []) ∷ (steps.Add 5 ∷ []) ∷ [];
  jobs = job_of UserVisible BlockShutdown 32 4 (steps.Mul 3 ∷ steps.Add 1 ∷ []) ∷ [];
  actions = actions.Main 3 1 0 ∷ actions.Main 4 0 5 ∷ actions.Post 2 0 0 ∷ actions.Post 5 1 0 ∷ actions.Post 6 2 0 ∷ actions.StartJob 0 ∷ actions.Pump 2 ∷
      actions.Tick 2 ∷ actions.Join 0 ∷ actions.Flush ∷ actions.Pump 4 ∷ actions.Shutdown ∷ [];
}

abbrev page_load_log : List Entry
page_load_log =
    by 0 (kinds.Main 3 1 0 true) ∷
    by 0 (kinds.Main 4 0 5 true) ∷
    by 0 (kinds.Post 2 0 0 true) ∷
    by 0 (kinds.Post 5 1 0 true) ∷
    by 0 (kinds.Post 6 2 0 true) ∷
    by 0 (kinds.JobPost 0 true) ∷
    by 0 (kinds.MainTake 3 1 0) ∷
    by 0 (kinds.Post 1 1 0 true) ∷
    by 0 (kinds.MainEnd 3 4) ∷
    by 0 kinds.MainNone ∷
    by 0 (kinds.Tick 10) ∷
    by 0 (kinds.Tick 20) ∷
    by 0 (kinds.JobTake 0 0 0) ∷
    by 1 (kinds.Take 5 1 0) ∷
    by 1 (kinds.End 5 0) ∷
    by 2 (kinds.Take 1 1 0) ∷
    by 2 (kinds.End 1 2) ∷
    by 3 (kinds.Take 2 0 0) ∷
    by 3 (kinds.Enter 2 May) ∷
    by 0 (kinds.JobStep 0 0 0 1 (Some 1)) ∷
    by 4 (kinds.JobTake 0 1 2) ∷
    by 3 (kinds.Leave 2) ∷
    by 3 (kinds.Main 0 0 0 true) ∷
    by 3 (kinds.End 2 3) ∷
    by 4 (kinds.JobStep 0 1 2 7 (Some 3)) ∷
    by 0 (kinds.JobStep 0 0 1 4 (Some 4)) ∷
    by 4 (kinds.JobStep 0 1 3 10 (Some 5)) ∷
    by 0 (kinds.JobStep 0 0 4 13 (Some 6)) ∷
    by 4 (kinds.JobStep 0 1 5 16 (Some 7)) ∷
    by 0 (kinds.JobStep 0 0 6 19 (Some 8)) ∷
    by 4 (kinds.JobStep 0 1 7 22 (Some 9)) ∷
    by 0 (kinds.JobStep 0 0 8 25 (Some 10)) ∷
    by 4 (kinds.JobStep 0 1 9 28 (Some 11)) ∷
    by 0 (kinds.JobStep 0 0 10 31 (Some 12)) ∷
    by 4 (kinds.JobStep 0 1 11 34 (Some 13)) ∷
    by 0 (kinds.JobStep 0 0 12 37 (Some 14)) ∷
    by 4 (kinds.JobStep 0 1 13 40 (Some 15)) ∷
    by 0 (kinds.JobStep 0 0 14 43 (Some 16)) ∷
    by 4 (kinds.JobStep 0 1 15 46 (Some 17)) ∷
    by 0 (kinds.JobStep 0 0 16 49 (Some 18)) ∷
    by 4 (kinds.JobStep 0 1 17 52 (Some 19)) ∷
    by 0 (kinds.JobStep 0 0 18 55 (Some 20)) ∷
    by 4 (kinds.JobStep 0 1 19 58 (Some 21)) ∷
    by 0 (kinds.JobStep 0 0 20 61 (Some 22)) ∷
    by 4 (kinds.JobStep 0 1 21 64 (Some 23)) ∷
    by 0 (kinds.JobStep 0 0 22 67 (Some 24)) ∷
    by 4 (kinds.JobStep 0 1 23 70 (Some 25)) ∷
    by 0 (kinds.JobStep 0 0 24 73 (Some 26)) ∷
    by 4 (kinds.JobStep 0 1 25 76 (Some 27)) ∷
    by 0 (kinds.JobStep 0 0 26 79 (Some 28)) ∷
    by 4 (kinds.JobStep 0 1 27 82 (Some 29)) ∷
    by 0 (kinds.JobStep 0 0 28 85 (Some 30)) ∷
    by 4 (kinds.JobStep 0 1 29 88 (Some 31)) ∷
    by 0 (kinds.JobStep 0 0 30 91 None) ∷
    by 4 (kinds.JobStep 0 1 31 94 None) ∷
    by 0 (kinds.Joined 0 (Finished 1520)) ∷
    by 2 (kinds.Take 6 2 0) ∷
    by 2 (kinds.End 6 5) ∷
    by 0 kinds.Idle ∷
    by 0 (kinds.MainTake 4 0 0) ∷
    by 0 (kinds.MainEnd 4 9) ∷
    by 0 (kinds.MainTake 0 0 9) ∷
    by 0 (kinds.MainEnd 0 10) ∷
    by 0 kinds.MainNone ∷
    by 0 kinds.Shutdown ∷
    by 0 kinds.Done ∷
    []

-- a page load: tasks that post, block and are delayed, a job of two workers, main queues and shutdown
abbrev page_load : Worked
page_load = worked page_load_script page_load_log
    (codes "workers 4\ngroups 4 2 1\nthreshold 1000\nrunner 0 parallel user_visible skip mayblock\n"
    ++ codes "runner 1 sequenced user_blocking block\nrunner 2 single:2 best_effort continue\nqueue 0 1 1\nqueue 1 4 0\ntask 0 add 1\n"
    ++ codes "task 1 add 2\ntask 2 block may ; add 3 ; unblock ; main 0 0 0\ntask 3 add 4 ; post 1 1 0\ntask 4 set 9\ntask 5 mul 2\n"
    ++ codes "task 6 add 5\njob 0 user_visible block 32 4 mul 3 ; add 1\nmain 3 1 0\nmain 4 0 5\npost 2 0 0\npost 5 1 0\npost 6 2 0\n"
    ++ codes "startjob 0\npump 2\ntick 2\njoin 0\nflush\npump 4\nshutdown\n")
    (codes "0 0 main 3 1 0 ok\n1 0 main 4 0 5 ok\n2 0 post 2 0 0 ok\n3 0 post 5 1 0 ok\n4 0 post 6 2 0 ok\n5 0 startjob 0 ok\n"
    ++ codes "6 0 maintake 3 1 0\n7 0 post 1 1 0 ok\n8 0 mainend 3 4\n9 0 mainnone\n10 0 tick 10\n11 0 tick 20\n12 0 jobtake 0 0 0\n"
    ++ codes "13 1 take 5 1 0\n14 1 end 5 0\n15 2 take 1 1 0\n16 2 end 1 2\n17 3 take 2 0 0\n18 3 block 2 may\n"
    ++ codes "19 0 jobstep 0 0 0 1 1\n20 4 jobtake 0 1 2\n21 3 unblock 2\n22 3 main 0 0 0 ok\n23 3 end 2 3\n24 4 jobstep 0 1 2 7 3\n"
    ++ codes "25 0 jobstep 0 0 1 4 4\n26 4 jobstep 0 1 3 10 5\n27 0 jobstep 0 0 4 13 6\n28 4 jobstep 0 1 5 16 7\n"
    ++ codes "29 0 jobstep 0 0 6 19 8\n30 4 jobstep 0 1 7 22 9\n31 0 jobstep 0 0 8 25 10\n32 4 jobstep 0 1 9 28 11\n"
    ++ codes "33 0 jobstep 0 0 10 31 12\n34 4 jobstep 0 1 11 34 13\n35 0 jobstep 0 0 12 37 14\n36 4 jobstep 0 1 13 40 15\n"
    ++ codes "37 0 jobstep 0 0 14 43 16\n38 4 jobstep 0 1 15 46 17\n39 0 jobstep 0 0 16 49 18\n40 4 jobstep 0 1 17 52 19\n"
    ++ codes "41 0 jobstep 0 0 18 55 20\n42 4 jobstep 0 1 19 58 21\n43 0 jobstep 0 0 20 61 22\n44 4 jobstep 0 1 21 64 23\n"
    ++ codes "45 0 jobstep 0 0 22 67 24\n46 4 jobstep 0 1 23 70 25\n47 0 jobstep 0 0 24 73 26\n48 4 jobstep 0 1 25 76 27\n"
    ++ codes "49 0 jobstep 0 0 26 79 28\n50 4 jobstep 0 1 27 82 29\n51 0 jobstep 0 0 28 85 30\n52 4 jobstep 0 1 29 88 31\n"
    ++ codes "53 0 jobstep 0 0 30 91 -\n54 4 jobstep 0 1 31 94 -\n55 0 joined 0 done 1520\n56 2 take 6 2 0\n57 2 end 6 5\n58 0 idle\n"
    ++ codes "59 0 maintake 4 0 0\n60 0 mainend 4 9\n61 0 maintake 0 0 9\n62 0 mainend 0 10\n63 0 mainnone\n64 0 shutdown\n65 0 done\n")

-- each of them is right
jobs_are_right : AreRight (job_joined_alone ∷ cancel_and_refused_job ∷ job_yields ∷ cancel_with_worker_inside ∷ page_load ∷ [])
unfolding judge read written ways_of
jobs_are_right = refl
