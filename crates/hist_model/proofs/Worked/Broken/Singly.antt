-- Histories in which two tasks overlap as none do in a legal log.
use Rattle.std.proofs.Common.{◌≡◌, ℕ, true, false, List, [], ◌∷◌, ◌++◌, refl}
use Rattle.std.specs.Prelude.{codes, Some, None}
use Rattle.task_base.specs.declared.entry.Entry.{Entry}
use Rattle.task_base.specs.declared.entry.Kind.TheVariants as kinds
use Rattle.task_base.specs.Entries.{entry_by as by}
use Rattle.hist_model.proofs.Worked.Corners.{judged}
use Rattle.hist_model.proofs.Worked.Rows.{judge, read}

abbrev two_tasks : List ℕ
two_tasks = codes "task 0 add 5\ntask 1 add 5\npost 0 0 0\npost 1 0 0\nflush\n"

abbrev one_sequence : List ℕ
one_sequence = codes "workers 2\nrunner 0 sequenced user_visible skip\n" ++ two_tasks

abbrev no_sequence : List ℕ
no_sequence = codes "workers 2\nrunner 0 parallel user_visible skip\n" ++ two_tasks

abbrev first_taken : List Entry
first_taken = by 0 (kinds.Post 0 0 0 true) ∷ by 0 (kinds.Post 1 0 0 true) ∷ by 1 (kinds.Take 0 0 0) ∷ []

-- another worker takes the second task of the sequence while the first runs
overlapping : judged one_sequence (first_taken ++ by 2 (kinds.Take 1 0 0) ∷ by 1 (kinds.End 0 5) ∷ []) ≡ Some (false, false, Some 3)
unfolding judge read
overlapping = refl

-- it may do so behind the end of the first, and finds what that left
one_after_another : judged one_sequence (first_taken ++ by 1 (kinds.End 0 5) ∷ by 2 (kinds.Take 1 0 5) ∷ by 2 (kinds.End 1 10) ∷ by 0 kinds.Idle ∷ [])
    ≡ Some (true, true, None)
unfolding judge read
one_after_another = refl

-- the tasks of a parallel runner may overlap
parallel_overlap : judged no_sequence (first_taken ++ by 2 (kinds.Take 1 0 0) ∷ by 1 (kinds.End 0 5) ∷ by 2 (kinds.End 1 5) ∷ by 0 kinds.Idle ∷ [])
    ≡ Some (true, true, None)
unfolding judge read
parallel_overlap = refl

abbrev two_queues : List ℕ
two_queues = codes "workers 1\nqueue 0 0 0\nqueue 1 0 0\ntask 0 add 5\ntask 1 add 5\nmain 0 0 0\nmain 1 1 0\npump 2\n"

abbrev first_main_taken : List Entry
first_main_taken = by 0 (kinds.Main 0 0 0 true) ∷ by 0 (kinds.Main 1 1 0 true) ∷ by 0 (kinds.MainTake 0 0 0) ∷ []

-- the driver takes a main task of another queue while the first runs
main_overlapping : judged two_queues (first_main_taken ++ by 0 (kinds.MainTake 1 1 0) ∷ []) ≡ Some (false, false, Some 3)
unfolding judge read
main_overlapping = refl

-- a worker takes it
main_by_a_worker : judged two_queues (first_main_taken ++ by 1 (kinds.MainTake 1 1 0) ∷ []) ≡ Some (false, false, Some 3)
unfolding judge read
main_by_a_worker = refl

-- the driver may take it behind the end of the first
main_one_after_another : judged two_queues (first_main_taken ++ by 0 (kinds.MainEnd 0 5) ∷ by 0 (kinds.MainTake 1 1 0) ∷ by 0 (kinds.MainEnd 1 5) ∷ [])
    ≡ Some (true, true, None)
unfolding judge read
main_one_after_another = refl
