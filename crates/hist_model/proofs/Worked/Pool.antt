-- Histories of the pool that were worked out by hand: tasks, priorities, delays.
use Rattle.std.proofs.Common.{◌≡◌, true, false, List, [], ◌∷◌, refl}
use Rattle.task_base.specs.Plan.{Plan}
use Rattle.task_base.specs.declared.entry.Entry.{Entry}
use Rattle.task_base.specs.declared.entry.Kind.TheVariants as kinds
use Rattle.task_base.specs.declared.policy.Policy.TheVariants as policies
use Rattle.task_base.specs.declared.script.Action.TheVariants as actions
use Rattle.task_base.specs.declared.script.RunnerKind.TheVariants.{Parallel, Sequenced}
use Rattle.task_base.specs.declared.step.Step.TheVariants as steps
use Rattle.task_traits.specs.declared.traits.Behaviour.TheVariants.{SkipOnShutdown}
use Rattle.task_traits.specs.declared.traits.Priority.TheVariants.{BestEffort, UserVisible, UserBlocking}
use Rattle.std.specs.Prelude.{◌++◌, codes, Some, None}
use Rattle.task_base.specs.Entries.{entry_by as by}
use Rattle.hist_model.specs.Legal.{first_illegal}
use Rattle.hist_model.proofs.Worked.Rows.{judge, read, ways_of, written, Worked, worked, AreRight, runner_of, plain}

abbrev pub first_run_script : Plan
first_run_script = record plain {
  runners = runner_of Sequenced UserVisible SkipOnShutdown false ∷ [];
  tasks = (steps.Add 5 ∷ []) ∷ [];
  actions = actions.Post 0 0 0 ∷ actions.Flush ∷ [];
}

abbrev first_run_log : List Entry
first_run_log =
    by 0 (kinds.Post 0 0 0 true) ∷
    by 1 (kinds.Take 0 0 0) ∷
    by 1 (kinds.End 0 5) ∷
    by 0 kinds.Idle ∷
    []

-- the first run
abbrev first_run : Worked
first_run = worked first_run_script first_run_log
    (codes "workers 1\nrunner 0 sequenced user_visible skip\ntask 0 add 5\npost 0 0 0\nflush\n")
    (codes "0 0 post 0 0 0 ok\n1 1 take 0 0 0\n2 1 end 0 5\n3 0 idle\n")

abbrev state_moves_along_script : Plan
state_moves_along_script = record plain {
  runners = runner_of Sequenced UserVisible SkipOnShutdown false ∷ [];
  tasks = (steps.Add 5 ∷ []) ∷ (steps.Mul 3 ∷ []) ∷ [];
  actions = actions.Policy policies.Nothing ∷ actions.Post 0 0 0 ∷ actions.Post 1 0 0 ∷ actions.Policy policies.All ∷ actions.Flush ∷ [];
}

abbrev state_moves_along_log : List Entry
state_moves_along_log =
    by 0 (kinds.Policy policies.Nothing) ∷
    by 0 (kinds.Post 0 0 0 true) ∷
    by 0 (kinds.Post 1 0 0 true) ∷
    by 0 (kinds.Policy policies.All) ∷
    by 1 (kinds.Take 0 0 0) ∷
    by 1 (kinds.End 0 5) ∷
    by 1 (kinds.Take 1 0 5) ∷
    by 1 (kinds.End 1 15) ∷
    by 0 kinds.Idle ∷
    []

-- each task of a sequence finds what the one before it left
abbrev state_moves_along : Worked
state_moves_along = worked state_moves_along_script state_moves_along_log
    (codes "workers 1\nrunner 0 sequenced user_visible skip\ntask 0 add 5\ntask 1 mul 3\npolicy none\npost 0 0 0\npost 1 0 0\npolicy all\nflush\n")
    (codes "0 0 policy none\n1 0 post 0 0 0 ok\n2 0 post 1 0 0 ok\n3 0 policy all\n4 1 take 0 0 0\n5 1 end 0 5\n6 1 take 1 0 5\n7 1 end 1 15\n8 0 idle\n")

abbrev wrong_value_left_log : List Entry
wrong_value_left_log =
    by 0 (kinds.Policy policies.Nothing) ∷
    by 0 (kinds.Post 0 0 0 true) ∷
    by 0 (kinds.Post 1 0 0 true) ∷
    by 0 (kinds.Policy policies.All) ∷
    by 1 (kinds.Take 0 0 0) ∷
    by 1 (kinds.End 0 5) ∷
    by 1 (kinds.Take 1 0 5) ∷
    by 1 (kinds.End 1 16) ∷
    by 0 kinds.Idle ∷
    []

-- the last task leaves another value
wrong_value_left : first_illegal state_moves_along_script wrong_value_left_log ≡ Some 7
unfolding judge
wrong_value_left = refl

abbrev cut_after_a_take_log : List Entry
cut_after_a_take_log =
    by 0 (kinds.Policy policies.Nothing) ∷
    by 0 (kinds.Post 0 0 0 true) ∷
    by 0 (kinds.Post 1 0 0 true) ∷
    by 0 (kinds.Policy policies.All) ∷
    by 1 (kinds.Take 0 0 0) ∷
    []

-- the history ends while a task runs
cut_after_a_take : judge state_moves_along_script cut_after_a_take_log ≡ (true, false, None)
unfolding judge
cut_after_a_take = refl

abbrev priority_before_posting_order_script : Plan
priority_before_posting_order_script = record plain {
  runners = runner_of Parallel BestEffort SkipOnShutdown false ∷ runner_of Parallel UserVisible SkipOnShutdown false ∷
      runner_of Parallel UserBlocking SkipOnShutdown false ∷ [];
  tasks = (steps.Add 1 ∷ []) ∷ (steps.Add 1 ∷ []) ∷ (steps.Add 1 ∷ []) ∷ [];
  actions = actions.Policy policies.Nothing ∷ actions.Post 0 0 0 ∷ actions.Post 1 1 0 ∷ actions.Post 2 2 0 ∷ actions.Policy policies.All ∷ actions.Flush ∷ [];
}

abbrev priority_before_posting_order_log : List Entry
priority_before_posting_order_log =
    by 0 (kinds.Policy policies.Nothing) ∷
    by 0 (kinds.Post 0 0 0 true) ∷
    by 0 (kinds.Post 1 1 0 true) ∷
    by 0 (kinds.Post 2 2 0 true) ∷
    by 0 (kinds.Policy policies.All) ∷
    by 1 (kinds.Take 2 2 0) ∷
    by 1 (kinds.End 2 1) ∷
    by 1 (kinds.Take 1 1 0) ∷
    by 1 (kinds.End 1 1) ∷
    by 1 (kinds.Take 0 0 0) ∷
    by 1 (kinds.End 0 1) ∷
    by 0 kinds.Idle ∷
    []

-- the higher priority goes first, whatever the order of the posts
abbrev priority_before_posting_order : Worked
priority_before_posting_order = worked priority_before_posting_order_script priority_before_posting_order_log
    (codes "workers 1\nrunner 0 parallel best_effort skip\nrunner 1 parallel user_visible skip\n"
    ++ codes "runner 2 parallel user_blocking skip\ntask 0 add 1\ntask 1 add 1\ntask 2 add 1\npolicy none\npost 0 0 0\npost 1 1 0\n"
    ++ codes "post 2 2 0\npolicy all\nflush\n")
    (codes "0 0 policy none\n1 0 post 0 0 0 ok\n2 0 post 1 1 0 ok\n3 0 post 2 2 0 ok\n4 0 policy all\n5 1 take 2 2 0\n6 1 end 2 1\n"
    ++ codes "7 1 take 1 1 0\n8 1 end 1 1\n9 1 take 0 0 0\n10 1 end 0 1\n11 0 idle\n")

abbrev lower_priority_first_log : List Entry
lower_priority_first_log =
    by 0 (kinds.Policy policies.Nothing) ∷
    by 0 (kinds.Post 0 0 0 true) ∷
    by 0 (kinds.Post 1 1 0 true) ∷
    by 0 (kinds.Post 2 2 0 true) ∷
    by 0 (kinds.Policy policies.All) ∷
    by 1 (kinds.Take 0 0 0) ∷
    []

-- a task of lower priority is taken first
lower_priority_first : first_illegal priority_before_posting_order_script lower_priority_first_log ≡ Some 5
unfolding judge
lower_priority_first = refl

abbrev foreground_holds_best_effort_script : Plan
foreground_holds_best_effort_script = record plain {
  runners = runner_of Parallel BestEffort SkipOnShutdown false ∷ runner_of Parallel UserVisible SkipOnShutdown false ∷
      runner_of Parallel UserBlocking SkipOnShutdown false ∷ [];
  tasks = (steps.Add 1 ∷ []) ∷ (steps.Add 1 ∷ []) ∷ (steps.Add 1 ∷ []) ∷ [];
  actions = actions.Policy policies.Nothing ∷ actions.Post 0 0 0 ∷ actions.Post 1 1 0 ∷ actions.Post 2 2 0 ∷ actions.Policy policies.Foreground ∷
      actions.Flush ∷ [];
}

abbrev foreground_holds_best_effort_log : List Entry
foreground_holds_best_effort_log =
    by 0 (kinds.Policy policies.Nothing) ∷
    by 0 (kinds.Post 0 0 0 true) ∷
    by 0 (kinds.Post 1 1 0 true) ∷
    by 0 (kinds.Post 2 2 0 true) ∷
    by 0 (kinds.Policy policies.Foreground) ∷
    by 1 (kinds.Take 2 2 0) ∷
    by 1 (kinds.End 2 1) ∷
    by 1 (kinds.Take 1 1 0) ∷
    by 1 (kinds.End 1 1) ∷
    by 0 kinds.Idle ∷
    []

-- the policy foreground holds best-effort work back
abbrev foreground_holds_best_effort : Worked
foreground_holds_best_effort = worked foreground_holds_best_effort_script foreground_holds_best_effort_log
    (codes "workers 1\nrunner 0 parallel best_effort skip\nrunner 1 parallel user_visible skip\n"
    ++ codes "runner 2 parallel user_blocking skip\ntask 0 add 1\ntask 1 add 1\ntask 2 add 1\npolicy none\npost 0 0 0\npost 1 1 0\n"
    ++ codes "post 2 2 0\npolicy foreground\nflush\n")
    (codes "0 0 policy none\n1 0 post 0 0 0 ok\n2 0 post 1 1 0 ok\n3 0 post 2 2 0 ok\n4 0 policy foreground\n5 1 take 2 2 0\n"
    ++ codes "6 1 end 2 1\n7 1 take 1 1 0\n8 1 end 1 1\n9 0 idle\n")

abbrev held_back_work_taken_log : List Entry
held_back_work_taken_log =
    by 0 (kinds.Policy policies.Nothing) ∷
    by 0 (kinds.Post 0 0 0 true) ∷
    by 0 (kinds.Post 1 1 0 true) ∷
    by 0 (kinds.Post 2 2 0 true) ∷
    by 0 (kinds.Policy policies.Foreground) ∷
    by 1 (kinds.Take 2 2 0) ∷
    by 1 (kinds.End 2 1) ∷
    by 1 (kinds.Take 1 1 0) ∷
    by 1 (kinds.End 1 1) ∷
    by 1 (kinds.Take 0 0 0) ∷
    by 1 (kinds.End 0 1) ∷
    by 0 kinds.Idle ∷
    []

-- held back work is taken
held_back_work_taken : first_illegal foreground_holds_best_effort_script held_back_work_taken_log ≡ Some 9
unfolding judge
held_back_work_taken = refl

abbrev ties_by_post_place_script : Plan
ties_by_post_place_script = record plain {
  runners = runner_of Sequenced UserVisible SkipOnShutdown false ∷ runner_of Sequenced UserVisible SkipOnShutdown false ∷ [];
  tasks = (steps.Add 1 ∷ []) ∷ (steps.Add 1 ∷ []) ∷ [];
  actions = actions.Policy policies.Nothing ∷ actions.Post 0 1 0 ∷ actions.Post 1 0 0 ∷ actions.Policy policies.All ∷ actions.Flush ∷ [];
}

abbrev ties_by_post_place_log : List Entry
ties_by_post_place_log =
    by 0 (kinds.Policy policies.Nothing) ∷
    by 0 (kinds.Post 0 1 0 true) ∷
    by 0 (kinds.Post 1 0 0 true) ∷
    by 0 (kinds.Policy policies.All) ∷
    by 1 (kinds.Take 0 1 0) ∷
    by 1 (kinds.End 0 1) ∷
    by 1 (kinds.Take 1 0 0) ∷
    by 1 (kinds.End 1 1) ∷
    by 0 kinds.Idle ∷
    []

-- of one priority, the task that was posted first goes first
abbrev ties_by_post_place : Worked
ties_by_post_place = worked ties_by_post_place_script ties_by_post_place_log
    (codes "workers 1\nrunner 0 sequenced user_visible skip\nrunner 1 sequenced user_visible skip\ntask 0 add 1\ntask 1 add 1\n"
    ++ codes "policy none\npost 0 1 0\npost 1 0 0\npolicy all\nflush\n")
    (codes "0 0 policy none\n1 0 post 0 1 0 ok\n2 0 post 1 0 0 ok\n3 0 policy all\n4 1 take 0 1 0\n5 1 end 0 1\n6 1 take 1 0 0\n7 1 end 1 1\n8 0 idle\n")

abbrev ripening_order_script : Plan
ripening_order_script = record plain {
  runners = runner_of Sequenced UserVisible SkipOnShutdown false ∷ [];
  tasks = (steps.Add 1 ∷ []) ∷ (steps.Mul 2 ∷ []) ∷ (steps.Set 7 ∷ []) ∷ [];
  actions = actions.Policy policies.Nothing ∷ actions.Post 0 0 5 ∷ actions.Post 1 0 3 ∷ actions.Post 2 0 0 ∷ actions.Tick 1 ∷ actions.Policy policies.All ∷
      actions.Flush ∷ [];
}

abbrev ripening_order_log : List Entry
ripening_order_log =
    by 0 (kinds.Policy policies.Nothing) ∷
    by 0 (kinds.Post 0 0 5 true) ∷
    by 0 (kinds.Post 1 0 3 true) ∷
    by 0 (kinds.Post 2 0 0 true) ∷
    by 0 (kinds.Tick 10) ∷
    by 0 (kinds.Policy policies.All) ∷
    by 1 (kinds.Take 2 0 0) ∷
    by 1 (kinds.End 2 7) ∷
    by 1 (kinds.Take 1 0 7) ∷
    by 1 (kinds.End 1 14) ∷
    by 1 (kinds.Take 0 0 14) ∷
    by 1 (kinds.End 0 15) ∷
    by 0 kinds.Idle ∷
    []

-- delayed tasks go by the order in which they ripen, behind what was posted earlier
abbrev ripening_order : Worked
ripening_order = worked ripening_order_script ripening_order_log
    (codes "workers 1\nrunner 0 sequenced user_visible skip\ntask 0 add 1\ntask 1 mul 2\ntask 2 set 7\npolicy none\npost 0 0 5\n"
    ++ codes "post 1 0 3\npost 2 0 0\ntick 1\npolicy all\nflush\n")
    (codes "0 0 policy none\n1 0 post 0 0 5 ok\n2 0 post 1 0 3 ok\n3 0 post 2 0 0 ok\n4 0 tick 10\n5 0 policy all\n6 1 take 2 0 0\n"
    ++ codes "7 1 end 2 7\n8 1 take 1 0 7\n9 1 end 1 14\n10 1 take 0 0 14\n11 1 end 0 15\n12 0 idle\n")

-- each of them is right
pool_are_right : AreRight (first_run ∷ state_moves_along ∷ priority_before_posting_order ∷ foreground_holds_best_effort ∷ ties_by_post_place ∷ ripening_order ∷ [])
unfolding judge read written ways_of
pool_are_right = refl
