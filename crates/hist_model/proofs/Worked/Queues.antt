-- Histories of main queues that were worked out by hand: fences, lanes, voters, classes.
use Rattle.std.proofs.Common.{true, false, List, [], ◌∷◌, refl}
use Rattle.task_base.specs.Plan.{Plan}
use Rattle.task_base.specs.declared.entry.Entry.{Entry}
use Rattle.task_base.specs.declared.entry.Kind.TheVariants as kinds
use Rattle.task_base.specs.declared.script.Action.TheVariants as actions
use Rattle.task_base.specs.declared.script.FenceAt.TheVariants.{Now, Start}
use Rattle.task_base.specs.declared.step.Step.TheVariants as steps
use Rattle.std.specs.Prelude.{◌++◌, codes}
use Rattle.task_base.specs.Entries.{entry_by as by}
use Rattle.hist_model.proofs.Worked.Rows.{judge, read, ways_of, written, Worked, worked, AreRight, queue_of, plain}

abbrev fence_now_script : Plan
fence_now_script = record plain {
  workers = 2;
  queues = queue_of 3 0 ∷ [];
  tasks = (steps.Add 1 ∷ []) ∷ (steps.Add 2 ∷ []) ∷ [];
  actions = actions.Main 0 0 0 ∷ actions.Fence 0 Now ∷ actions.Main 1 0 0 ∷ actions.Pump 5 ∷ actions.Unfence 0 ∷ actions.Pump 5 ∷ [];
}

abbrev fence_now_log : List Entry
fence_now_log =
    by 0 (kinds.Main 0 0 0 true) ∷
    by 0 (kinds.Fence 0 Now) ∷
    by 0 (kinds.Main 1 0 0 true) ∷
    by 0 (kinds.MainTake 0 0 0) ∷
    by 0 (kinds.MainEnd 0 1) ∷
    by 0 kinds.MainNone ∷
    by 0 (kinds.Unfence 0) ∷
    by 0 (kinds.MainTake 1 0 1) ∷
    by 0 (kinds.MainEnd 1 3) ∷
    by 0 kinds.MainNone ∷
    []

-- a fence holds back what is posted behind it
abbrev fence_now : Worked
fence_now = worked fence_now_script fence_now_log
    (codes "queue 0 3 0\ntask 0 add 1\ntask 1 add 2\nmain 0 0 0\nfence 0 now\nmain 1 0 0\npump 5\nunfence 0\npump 5\n")
    (codes "0 0 main 0 0 0 ok\n1 0 fence 0 now\n2 0 main 1 0 0 ok\n3 0 maintake 0 0 0\n4 0 mainend 0 1\n5 0 mainnone\n"
    ++ codes "6 0 unfence 0\n7 0 maintake 1 0 1\n8 0 mainend 1 3\n9 0 mainnone\n")

abbrev fence_replaced_script : Plan
fence_replaced_script = record plain {
  workers = 2;
  queues = queue_of 3 0 ∷ [];
  tasks = (steps.Add 1 ∷ []) ∷ (steps.Add 2 ∷ []) ∷ (steps.Add 4 ∷ []) ∷ [];
  actions = actions.Main 0 0 0 ∷ actions.Fence 0 Start ∷ actions.Main 1 0 0 ∷ actions.Fence 0 Now ∷ actions.Main 2 0 0 ∷ actions.Pump 5 ∷ [];
}

abbrev fence_replaced_log : List Entry
fence_replaced_log =
    by 0 (kinds.Main 0 0 0 true) ∷
    by 0 (kinds.Fence 0 Start) ∷
    by 0 (kinds.Main 1 0 0 true) ∷
    by 0 (kinds.Fence 0 Now) ∷
    by 0 (kinds.Main 2 0 0 true) ∷
    by 0 (kinds.MainTake 0 0 0) ∷
    by 0 (kinds.MainEnd 0 1) ∷
    by 0 (kinds.MainTake 1 0 1) ∷
    by 0 (kinds.MainEnd 1 3) ∷
    by 0 kinds.MainNone ∷
    []

-- a new fence takes the place of the older one
abbrev fence_replaced : Worked
fence_replaced = worked fence_replaced_script fence_replaced_log
    (codes "queue 0 3 0\ntask 0 add 1\ntask 1 add 2\ntask 2 add 4\nmain 0 0 0\nfence 0 start\nmain 1 0 0\nfence 0 now\nmain 2 0 0\npump 5\n")
    (codes "0 0 main 0 0 0 ok\n1 0 fence 0 start\n2 0 main 1 0 0 ok\n3 0 fence 0 now\n4 0 main 2 0 0 ok\n5 0 maintake 0 0 0\n"
    ++ codes "6 0 mainend 0 1\n7 0 maintake 1 0 1\n8 0 mainend 1 3\n9 0 mainnone\n")

abbrev pub starvation_bound_script : Plan
starvation_bound_script = record plain {
  workers = 2;
  queues = queue_of 3 0 ∷ [];
  tasks = (steps.Add 1 ∷ []) ∷ (steps.Add 1 ∷ []) ∷ (steps.Add 1 ∷ []) ∷ (steps.Add 1 ∷ []) ∷ (steps.Add 1 ∷ []) ∷ [];
  actions = actions.Main 0 0 1 ∷ actions.Main 1 0 1 ∷ actions.Main 2 0 1 ∷ actions.Main 3 0 1 ∷ actions.Tick 1 ∷ actions.Main 4 0 0 ∷ actions.Pump 5 ∷ [];
}

abbrev starvation_bound_log : List Entry
starvation_bound_log =
    by 0 (kinds.Main 0 0 1 true) ∷
    by 0 (kinds.Main 1 0 1 true) ∷
    by 0 (kinds.Main 2 0 1 true) ∷
    by 0 (kinds.Main 3 0 1 true) ∷
    by 0 (kinds.Tick 10) ∷
    by 0 (kinds.Main 4 0 0 true) ∷
    by 0 (kinds.MainTake 0 0 0) ∷
    by 0 (kinds.MainEnd 0 1) ∷
    by 0 (kinds.MainTake 1 0 1) ∷
    by 0 (kinds.MainEnd 1 2) ∷
    by 0 (kinds.MainTake 2 0 2) ∷
    by 0 (kinds.MainEnd 2 3) ∷
    by 0 (kinds.MainTake 4 0 3) ∷
    by 0 (kinds.MainEnd 4 4) ∷
    by 0 (kinds.MainTake 3 0 4) ∷
    by 0 (kinds.MainEnd 3 5) ∷
    []

-- after three delayed tasks in a row an immediate one goes first
abbrev starvation_bound : Worked
starvation_bound = worked starvation_bound_script starvation_bound_log
    (codes "queue 0 3 0\ntask 0 add 1\ntask 1 add 1\ntask 2 add 1\ntask 3 add 1\ntask 4 add 1\nmain 0 0 1\nmain 1 0 1\nmain 2 0 1\n"
    ++ codes "main 3 0 1\ntick 1\nmain 4 0 0\npump 5\n")
    (codes "0 0 main 0 0 1 ok\n1 0 main 1 0 1 ok\n2 0 main 2 0 1 ok\n3 0 main 3 0 1 ok\n4 0 tick 10\n5 0 main 4 0 0 ok\n"
    ++ codes "6 0 maintake 0 0 0\n7 0 mainend 0 1\n8 0 maintake 1 0 1\n9 0 mainend 1 2\n10 0 maintake 2 0 2\n11 0 mainend 2 3\n"
    ++ codes "12 0 maintake 4 0 3\n13 0 mainend 4 4\n14 0 maintake 3 0 4\n15 0 mainend 3 5\n")

abbrev voters_and_closing_script : Plan
voters_and_closing_script = record plain {
  workers = 2;
  queues = queue_of 3 1 ∷ [];
  tasks = (steps.Add 1 ∷ []) ∷ (steps.Add 1 ∷ []) ∷ [];
  actions = actions.Vote 0 0 false ∷ actions.Main 0 0 0 ∷ actions.Pump 1 ∷ actions.Vote 0 0 true ∷ actions.Pump 1 ∷ actions.Close 0 ∷ actions.Main 1 0 0 ∷ [];
}

abbrev voters_and_closing_log : List Entry
voters_and_closing_log =
    by 0 (kinds.Vote 0 0 false) ∷
    by 0 (kinds.Main 0 0 0 true) ∷
    by 0 kinds.MainNone ∷
    by 0 (kinds.Vote 0 0 true) ∷
    by 0 (kinds.MainTake 0 0 0) ∷
    by 0 (kinds.MainEnd 0 1) ∷
    by 0 (kinds.Close 0) ∷
    by 0 (kinds.Main 1 0 0 false) ∷
    []

-- a queue with a voter off runs nothing, and a closed one refuses posts
abbrev voters_and_closing : Worked
voters_and_closing = worked voters_and_closing_script voters_and_closing_log
    (codes "queue 0 3 1\ntask 0 add 1\ntask 1 add 1\nvote 0 0 off\nmain 0 0 0\npump 1\nvote 0 0 on\npump 1\nclose 0\nmain 1 0 0\n")
    (codes "0 0 vote 0 0 off\n1 0 main 0 0 0 ok\n2 0 mainnone\n3 0 vote 0 0 on\n4 0 maintake 0 0 0\n5 0 mainend 0 1\n6 0 close 0\n7 0 main 1 0 0 no\n")

abbrev classes_script : Plan
classes_script = record plain {
  workers = 2;
  queues = queue_of 3 0 ∷ queue_of 2 0 ∷ [];
  tasks = (steps.Add 1 ∷ []) ∷ (steps.Add 1 ∷ []) ∷ (steps.Add 1 ∷ []) ∷ [];
  actions = actions.Main 0 0 0 ∷ actions.Main 1 1 0 ∷ actions.Pump 1 ∷ actions.Rank 0 0 ∷ actions.Main 2 1 0 ∷ actions.Pump 5 ∷ [];
}

abbrev classes_log : List Entry
classes_log =
    by 0 (kinds.Main 0 0 0 true) ∷
    by 0 (kinds.Main 1 1 0 true) ∷
    by 0 (kinds.MainTake 1 1 0) ∷
    by 0 (kinds.MainEnd 1 1) ∷
    by 0 (kinds.Rank 0 0) ∷
    by 0 (kinds.Main 2 1 0 true) ∷
    by 0 (kinds.MainTake 0 0 0) ∷
    by 0 (kinds.MainEnd 0 1) ∷
    by 0 (kinds.MainTake 2 1 1) ∷
    by 0 (kinds.MainEnd 2 2) ∷
    by 0 kinds.MainNone ∷
    []

-- the least class with an open front goes first
abbrev classes : Worked
classes = worked classes_script classes_log
    (codes "queue 0 3 0\nqueue 1 2 0\ntask 0 add 1\ntask 1 add 1\ntask 2 add 1\nmain 0 0 0\nmain 1 1 0\npump 1\nrank 0 0\nmain 2 1 0\npump 5\n")
    (codes "0 0 main 0 0 0 ok\n1 0 main 1 1 0 ok\n2 0 maintake 1 1 0\n3 0 mainend 1 1\n4 0 rank 0 0\n5 0 main 2 1 0 ok\n"
    ++ codes "6 0 maintake 0 0 0\n7 0 mainend 0 1\n8 0 maintake 2 1 1\n9 0 mainend 2 2\n10 0 mainnone\n")

-- each of them is right
queues_are_right : AreRight (fence_now ∷ fence_replaced ∷ starvation_bound ∷ voters_and_closing ∷ classes ∷ [])
unfolding judge read written ways_of
queues_are_right = refl
