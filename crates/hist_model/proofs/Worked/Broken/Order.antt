-- Histories in which tasks of a sequence, or of a main queue, are not taken in order.
use Rattle.std.proofs.Common.{◌≡◌, ℕ, true, false, List, [], ◌∷◌, ◌++◌, refl}
use Rattle.std.specs.Prelude.{codes, Some, None}
use Rattle.task_base.specs.declared.entry.Entry.{Entry}
use Rattle.task_base.specs.declared.entry.Kind.TheVariants as kinds
use Rattle.task_base.specs.Entries.{entry_by as by}
use Rattle.hist_model.proofs.Worked.Rows.{judge, read}
use Rattle.hist_model.proofs.Worked.Corners.{judged}

-- two immediate tasks of one sequence
abbrev two_tasks : List ℕ
two_tasks = codes "workers 1\nrunner 0 sequenced user_visible skip\ntask 0\ntask 1\npost 0 0 0\npost 1 0 0\nflush\n"

abbrev both_posted : List Entry
both_posted = by 0 (kinds.Post 0 0 0 true) ∷ by 0 (kinds.Post 1 0 0 true) ∷ []

posted_first_goes_first : judged two_tasks (both_posted
    ++ by 1 (kinds.Take 0 0 0) ∷ by 1 (kinds.End 0 0) ∷ by 1 (kinds.Take 1 0 0) ∷ by 1 (kinds.End 1 0) ∷ by 0 kinds.Idle ∷ []) ≡ Some (true, true, None)
unfolding judge read
posted_first_goes_first = refl

posted_second_goes_first : judged two_tasks (both_posted ++ by 1 (kinds.Take 1 0 0) ∷ []) ≡ Some (false, false, Some 2)
unfolding judge read
posted_second_goes_first = refl

-- two delayed tasks of one sequence, the second of which ripens first
abbrev two_delayed_tasks : List ℕ
two_delayed_tasks = codes "workers 1\nrunner 0 sequenced user_visible skip\ntask 0\ntask 1\npost 0 0 5\npost 1 0 3\ntick 5\nflush\n"

abbrev both_ripen : List Entry
both_ripen = by 0 (kinds.Post 0 0 5 true) ∷ by 0 (kinds.Post 1 0 3 true) ∷ by 0 (kinds.Tick 5) ∷ []

lesser_moment_goes_first : judged two_delayed_tasks (both_ripen ++ by 1 (kinds.Take 1 0 0) ∷ []) ≡ Some (true, false, None)
unfolding judge read
lesser_moment_goes_first = refl

greater_moment_goes_first : judged two_delayed_tasks (both_ripen ++ by 1 (kinds.Take 0 0 0) ∷ []) ≡ Some (false, false, Some 3)
unfolding judge read
greater_moment_goes_first = refl

-- two immediate main tasks of one queue
abbrev two_main_tasks : List ℕ
two_main_tasks = codes "queue 0 0 0\ntask 0\ntask 1\nmain 0 0 0\nmain 1 0 0\npump 2\n"

abbrev both_main_posted : List Entry
both_main_posted = by 0 (kinds.Main 0 0 0 true) ∷ by 0 (kinds.Main 1 0 0 true) ∷ []

main_posted_second_goes_first : judged two_main_tasks (both_main_posted ++ by 0 (kinds.MainTake 1 0 0) ∷ []) ≡ Some (false, false, Some 2)
unfolding judge read
main_posted_second_goes_first = refl

-- two delayed main tasks of one queue, the second of which ripens first
abbrev two_delayed_main_tasks : List ℕ
two_delayed_main_tasks = codes "queue 0 0 0\ntask 0\ntask 1\nmain 0 0 5\nmain 1 0 3\ntick 5\npump 2\n"

main_greater_moment_goes_first : judged two_delayed_main_tasks
    (by 0 (kinds.Main 0 0 5 true) ∷ by 0 (kinds.Main 1 0 3 true) ∷ by 0 (kinds.Tick 5) ∷ by 0 (kinds.MainTake 0 0 0) ∷ []) ≡ Some (false, false, Some 3)
unfolding judge read
main_greater_moment_goes_first = refl
