-- A log that ends while a task runs is legal, and not whole: the task was taken, and has no end. It is whole once the
-- task has ended, though another one waits in its sequence, a third is not ripe, and a main task lies in its lane.
use Rattle.std.proofs.Common.{◌≡◌, ℕ, true, false, List, [], ◌∷◌, ◌++◌, refl}
use Rattle.std.specs.Prelude.{codes, Some, None}
use Rattle.task_base.specs.declared.entry.Entry.{Entry}
use Rattle.task_base.specs.declared.entry.Kind.TheVariants as kinds
use Rattle.task_base.specs.Entries.{entry_by as by}
use Rattle.hist_model.proofs.Worked.Corners.{judged}
use Rattle.hist_model.proofs.Worked.Rows.{judge, read}

abbrev four_tasks : List ℕ
four_tasks = codes "workers 1\nrunner 0 sequenced user_visible skip\nqueue 0 1 0\ntask 0 add 5\ntask 1\ntask 2\ntask 3\n"
    ++ codes "post 0 0 0\npost 1 0 0\npost 2 0 7\nmain 3 0 0\n"

abbrev first_taken : List Entry
first_taken =
    by 0 (kinds.Post 0 0 0 true) ∷ by 1 (kinds.Take 0 0 0) ∷ by 0 (kinds.Post 1 0 0 true) ∷ by 0 (kinds.Post 2 0 7 true)
    ∷ by 0 (kinds.Main 3 0 0 true) ∷ []

-- the script is finished, and task 0 still runs
task_runs : judged four_tasks first_taken ≡ Some (true, false, None)
unfolding judge read
task_runs = refl

-- task 0 has ended
task_ended : judged four_tasks (first_taken ++ by 1 (kinds.End 0 5) ∷ []) ≡ Some (true, true, None)
unfolding judge read
task_ended = refl

-- no worker takes another task then, as the script is finished
none_is_taken : judged four_tasks (first_taken ++ by 1 (kinds.End 0 5) ∷ by 1 (kinds.Take 1 0 5) ∷ []) ≡ Some (false, false, Some 6)
unfolding judge read
none_is_taken = refl
