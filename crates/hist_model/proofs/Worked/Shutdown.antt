-- Histories of the pool that were worked out by hand: shutdown, blocking scopes.
use Rattle.std.proofs.Common.{◌≡◌, true, false, List, [], ◌∷◌, refl}
use Rattle.task_base.specs.Plan.{Plan}
use Rattle.task_base.specs.declared.entry.Entry.{Entry}
use Rattle.task_base.specs.declared.entry.Kind.TheVariants as kinds
use Rattle.task_base.specs.declared.policy.Policy.TheVariants as policies
use Rattle.task_base.specs.declared.script.Action.TheVariants as actions
use Rattle.task_base.specs.declared.script.RunnerKind.TheVariants.{Parallel}
use Rattle.task_base.specs.declared.step.Scope.TheVariants.{May, Will}
use Rattle.task_base.specs.declared.step.Step.TheVariants as steps
use Rattle.task_traits.specs.declared.traits.Behaviour.TheVariants.{SkipOnShutdown, BlockShutdown}
use Rattle.task_traits.specs.declared.traits.Priority.TheVariants.{UserVisible}
use Rattle.std.specs.Prelude.{◌++◌, codes, Some}
use Rattle.task_base.specs.Entries.{entry_by as by}
use Rattle.hist_model.specs.Legal.{first_illegal}
use Rattle.hist_model.proofs.Worked.Rows.{judge, read, ways_of, written, Worked, worked, AreRight, runner_of, plain}

abbrev shutdown_skips_and_blocks_script : Plan
shutdown_skips_and_blocks_script = record plain {
  runners = runner_of Parallel UserVisible SkipOnShutdown false ∷ runner_of Parallel UserVisible BlockShutdown false ∷ [];
  tasks = (steps.Add 1 ∷ []) ∷ (steps.Add 2 ∷ []) ∷ (steps.Add 3 ∷ []) ∷ [];
  actions = actions.Policy policies.Nothing ∷ actions.Post 0 0 0 ∷ actions.Post 1 1 0 ∷ actions.Shutdown ∷ actions.Post 2 1 0 ∷ [];
}

abbrev shutdown_skips_and_blocks_log : List Entry
shutdown_skips_and_blocks_log =
    by 0 (kinds.Policy policies.Nothing) ∷
    by 0 (kinds.Post 0 0 0 true) ∷
    by 0 (kinds.Post 1 1 0 true) ∷
    by 0 kinds.Shutdown ∷
    by 1 (kinds.Take 1 1 0) ∷
    by 1 (kinds.End 1 2) ∷
    by 0 kinds.Done ∷
    by 0 (kinds.Post 2 1 0 false) ∷
    []

-- shutdown waits for block tasks, skips the others, and refuses posts once it is done
abbrev shutdown_skips_and_blocks : Worked
shutdown_skips_and_blocks = worked shutdown_skips_and_blocks_script shutdown_skips_and_blocks_log
    (codes "workers 1\nrunner 0 parallel user_visible skip\nrunner 1 parallel user_visible block\ntask 0 add 1\ntask 1 add 2\n"
    ++ codes "task 2 add 3\npolicy none\npost 0 0 0\npost 1 1 0\nshutdown\npost 2 1 0\n")
    (codes "0 0 policy none\n1 0 post 0 0 0 ok\n2 0 post 1 1 0 ok\n3 0 shutdown\n4 1 take 1 1 0\n5 1 end 1 2\n6 0 done\n7 0 post 2 1 0 no\n")

abbrev block_task_posts_during_shutdown_script : Plan
block_task_posts_during_shutdown_script = record plain {
  runners = runner_of Parallel UserVisible BlockShutdown false ∷ [];
  tasks = (steps.Add 1 ∷ []) ∷ (steps.Add 2 ∷ steps.Post 0 0 0 ∷ []) ∷ [];
  actions = actions.Policy policies.Nothing ∷ actions.Post 1 0 0 ∷ actions.Shutdown ∷ [];
}

abbrev block_task_posts_during_shutdown_log : List Entry
block_task_posts_during_shutdown_log =
    by 0 (kinds.Policy policies.Nothing) ∷
    by 0 (kinds.Post 1 0 0 true) ∷
    by 0 kinds.Shutdown ∷
    by 1 (kinds.Take 1 0 0) ∷
    by 1 (kinds.Post 0 0 0 true) ∷
    by 1 (kinds.End 1 2) ∷
    by 1 (kinds.Take 0 0 0) ∷
    by 1 (kinds.End 0 1) ∷
    by 0 kinds.Done ∷
    []

-- a block task that runs during shutdown posts one, which shutdown waits for too
abbrev block_task_posts_during_shutdown : Worked
block_task_posts_during_shutdown = worked block_task_posts_during_shutdown_script block_task_posts_during_shutdown_log
    (codes "workers 1\nrunner 0 parallel user_visible block\ntask 0 add 1\ntask 1 add 2 ; post 0 0 0\npolicy none\npost 1 0 0\nshutdown\n")
    (codes "0 0 policy none\n1 0 post 1 0 0 ok\n2 0 shutdown\n3 1 take 1 0 0\n4 1 post 0 0 0 ok\n5 1 end 1 2\n6 1 take 0 0 0\n7 1 end 0 1\n8 0 done\n")

abbrev delayed_work_does_not_block_script : Plan
delayed_work_does_not_block_script = record plain {
  runners = runner_of Parallel UserVisible BlockShutdown false ∷ [];
  tasks = (steps.Add 1 ∷ []) ∷ [];
  actions = actions.Post 0 0 5 ∷ actions.Shutdown ∷ actions.Tick 1 ∷ [];
}

abbrev delayed_work_does_not_block_log : List Entry
delayed_work_does_not_block_log =
    by 0 (kinds.Post 0 0 5 true) ∷
    by 0 kinds.Shutdown ∷
    by 0 kinds.Done ∷
    by 0 (kinds.Tick 10) ∷
    []

-- a delayed block task is a skip task
abbrev delayed_work_does_not_block : Worked
delayed_work_does_not_block = worked delayed_work_does_not_block_script delayed_work_does_not_block_log
    (codes "workers 1\nrunner 0 parallel user_visible block\ntask 0 add 1\npost 0 0 5\nshutdown\ntick 1\n")
    (codes "0 0 post 0 0 5 ok\n1 0 shutdown\n2 0 done\n3 0 tick 10\n")

abbrev will_block_script : Plan
will_block_script = record plain {
  workers = 2;
  foreground = 1;
  foreground_best = 1;
  runners = runner_of Parallel UserVisible SkipOnShutdown true ∷ [];
  tasks = (steps.Block Will ∷ steps.Add 1 ∷ steps.Unblock ∷ []) ∷ (steps.Add 2 ∷ []) ∷ [];
  actions = actions.Post 0 0 0 ∷ actions.Post 1 0 0 ∷ actions.Flush ∷ [];
}

abbrev will_block_log : List Entry
will_block_log =
    by 0 (kinds.Post 0 0 0 true) ∷
    by 0 (kinds.Post 1 0 0 true) ∷
    by 1 (kinds.Take 0 0 0) ∷
    by 1 (kinds.Enter 0 Will) ∷
    by 2 (kinds.Take 1 0 0) ∷
    by 2 (kinds.End 1 2) ∷
    by 1 (kinds.Leave 0) ∷
    by 1 (kinds.End 0 1) ∷
    by 0 kinds.Idle ∷
    []

-- a scope that will block lets one more task run at once
abbrev will_block : Worked
will_block = worked will_block_script will_block_log
    (codes "workers 2\ngroups 1 1 0\nrunner 0 parallel user_visible skip mayblock\ntask 0 block will ; add 1 ; unblock\n"
    ++ codes "task 1 add 2\npost 0 0 0\npost 1 0 0\nflush\n")
    (codes "0 0 post 0 0 0 ok\n1 0 post 1 0 0 ok\n2 1 take 0 0 0\n3 1 block 0 will\n4 2 take 1 0 0\n5 2 end 1 2\n6 1 unblock 0\n7 1 end 0 1\n8 0 idle\n")

abbrev no_room_before_the_scope_log : List Entry
no_room_before_the_scope_log =
    by 0 (kinds.Post 0 0 0 true) ∷
    by 0 (kinds.Post 1 0 0 true) ∷
    by 1 (kinds.Take 0 0 0) ∷
    by 2 (kinds.Take 1 0 0) ∷
    by 1 (kinds.Enter 0 Will) ∷
    by 2 (kinds.End 1 2) ∷
    by 1 (kinds.Leave 0) ∷
    by 1 (kinds.End 0 1) ∷
    by 0 kinds.Idle ∷
    []

-- the second task is taken before the scope is open
no_room_before_the_scope : first_illegal will_block_script no_room_before_the_scope_log ≡ Some 3
unfolding judge
no_room_before_the_scope = refl

abbrev may_block_script : Plan
may_block_script = record plain {
  workers = 2;
  foreground = 1;
  foreground_best = 1;
  threshold = 5;
  runners = runner_of Parallel UserVisible SkipOnShutdown true ∷ [];
  tasks = (steps.Block May ∷ steps.Add 1 ∷ steps.Unblock ∷ []) ∷ (steps.Add 2 ∷ []) ∷ [];
  actions = actions.Post 0 0 0 ∷ actions.Post 1 0 0 ∷ actions.Tick 2 ∷ actions.Flush ∷ [];
}

abbrev may_block_log : List Entry
may_block_log =
    by 0 (kinds.Post 0 0 0 true) ∷
    by 0 (kinds.Post 1 0 0 true) ∷
    by 1 (kinds.Take 0 0 0) ∷
    by 1 (kinds.Enter 0 May) ∷
    by 0 (kinds.Tick 4) ∷
    by 0 (kinds.Tick 5) ∷
    by 2 (kinds.Take 1 0 0) ∷
    by 2 (kinds.End 1 2) ∷
    by 1 (kinds.Leave 0) ∷
    by 1 (kinds.End 0 1) ∷
    by 0 kinds.Idle ∷
    []

-- a scope that may block lets one more task run once it was open for the threshold
abbrev may_block : Worked
may_block = worked may_block_script may_block_log
    (codes "workers 2\ngroups 1 1 0\nthreshold 5\nrunner 0 parallel user_visible skip mayblock\ntask 0 block may ; add 1 ; unblock\n"
    ++ codes "task 1 add 2\npost 0 0 0\npost 1 0 0\ntick 2\nflush\n")
    (codes "0 0 post 0 0 0 ok\n1 0 post 1 0 0 ok\n2 1 take 0 0 0\n3 1 block 0 may\n4 0 tick 4\n5 0 tick 5\n6 2 take 1 0 0\n"
    ++ codes "7 2 end 1 2\n8 1 unblock 0\n9 1 end 0 1\n10 0 idle\n")

abbrev no_room_before_the_threshold_log : List Entry
no_room_before_the_threshold_log =
    by 0 (kinds.Post 0 0 0 true) ∷
    by 0 (kinds.Post 1 0 0 true) ∷
    by 1 (kinds.Take 0 0 0) ∷
    by 1 (kinds.Enter 0 May) ∷
    by 0 (kinds.Tick 4) ∷
    by 2 (kinds.Take 1 0 0) ∷
    by 0 (kinds.Tick 5) ∷
    by 2 (kinds.End 1 2) ∷
    by 1 (kinds.Leave 0) ∷
    by 1 (kinds.End 0 1) ∷
    by 0 kinds.Idle ∷
    []

-- the second task is taken before the threshold
no_room_before_the_threshold : first_illegal may_block_script no_room_before_the_threshold_log ≡ Some 5
unfolding judge
no_room_before_the_threshold = refl

-- each of them is right
shutdown_are_right : AreRight (shutdown_skips_and_blocks ∷ block_task_posts_during_shutdown ∷ delayed_work_does_not_block ∷ will_block ∷ may_block ∷ [])
unfolding judge read written ways_of
shutdown_are_right = refl
