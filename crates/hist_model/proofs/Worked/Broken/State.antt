-- Histories in which the state does not move along.
use Rattle.std.proofs.Common.{◌≡◌, ℕ, true, false, List, [], ◌∷◌, ◌++◌, refl}
use Rattle.std.specs.Prelude.{codes, Some, None}
use Rattle.task_base.specs.declared.entry.Entry.{Entry}
use Rattle.task_base.specs.declared.entry.Kind.TheVariants as kinds
use Rattle.task_base.specs.Entries.{entry_by as by}
use Rattle.hist_model.proofs.Worked.Rows.{judge, read}
use Rattle.hist_model.proofs.Worked.Corners.{judged}

-- two tasks of one sequence, the first of which leaves 5
abbrev two_tasks : List ℕ
two_tasks = codes "workers 1\nrunner 0 sequenced user_visible skip\ntask 0 add 5\ntask 1 add 2\npost 0 0 0\npost 1 0 0\nflush\n"

abbrev first_task_ends : List Entry
first_task_ends = by 0 (kinds.Post 0 0 0 true) ∷ by 0 (kinds.Post 1 0 0 true) ∷ by 1 (kinds.Take 0 0 0) ∷ by 1 (kinds.End 0 5) ∷ []

-- the second task finds what the first one left
finds_what_was_left : judged two_tasks (first_task_ends ++ by 1 (kinds.Take 1 0 5) ∷ by 1 (kinds.End 1 7) ∷ by 0 kinds.Idle ∷ [])
    ≡ Some (true, true, None)
unfolding judge read
finds_what_was_left = refl

-- the second task finds what the first one found
finds_an_old_value : judged two_tasks (first_task_ends ++ by 1 (kinds.Take 1 0 0) ∷ []) ≡ Some (false, false, Some 4)
unfolding judge read
finds_an_old_value = refl

-- the second task leaves what its steps make of another value
leaves_another_value : judged two_tasks (first_task_ends ++ by 1 (kinds.Take 1 0 5) ∷ by 1 (kinds.End 1 2) ∷ []) ≡ Some (false, false, Some 5)
unfolding judge read
leaves_another_value = refl

-- two main tasks of one queue, the first of which leaves 4
abbrev two_main_tasks : List ℕ
two_main_tasks = codes "queue 0 0 0\ntask 0 add 4\ntask 1 add 3\nmain 0 0 0\nmain 1 0 0\npump 2\n"

abbrev first_main_task_ends : List Entry
first_main_task_ends = by 0 (kinds.Main 0 0 0 true) ∷ by 0 (kinds.Main 1 0 0 true) ∷ by 0 (kinds.MainTake 0 0 0) ∷ by 0 (kinds.MainEnd 0 4) ∷ []

main_task_finds_an_old_value : judged two_main_tasks (first_main_task_ends ++ by 0 (kinds.MainTake 1 0 0) ∷ []) ≡ Some (false, false, Some 4)
unfolding judge read
main_task_finds_an_old_value = refl

main_task_leaves_another_value : judged two_main_tasks (first_main_task_ends ++ by 0 (kinds.MainTake 1 0 4) ∷ by 0 (kinds.MainEnd 1 3) ∷ [])
    ≡ Some (false, true, Some 5)
unfolding judge read
main_task_leaves_another_value = refl
