-- A log that has as many entries as its script's bound, and logs with one entry more.
use Rattle.std.proofs.Common.{◌≡◌, ℕ, true, false, List, [], ◌∷◌, ◌++◌, refl}
use Rattle.std.specs.Prelude.{codes, Option, Some, None, Ok, Err}
use Rattle.task_base.specs.declared.entry.Entry.{Entry}
use Rattle.task_base.specs.declared.entry.JobReply.TheVariants as replies
use Rattle.task_base.specs.declared.entry.Kind.TheVariants as kinds
use Rattle.task_base.specs.Entries.{entry_by as by}
use Rattle.script_model.specs.Bound.{events_bound_of}
use Rattle.hist_model.proofs.Worked.Corners.{judged}
use Rattle.hist_model.proofs.Worked.Rows.{judge, read}

-- the bound of the script that the text is
abbrev bound : List ℕ → Option ℕ
bound text = elim (read text) as (λ _. Option ℕ) [ Ok script ↦ Some (events_bound_of script) | Err fault ↦ None ]

-- two for each item of the job, two for task 0, and three for task 1, which has one act step; one for each of the
-- actions, and for the tick one for each reading
abbrev text : List ℕ
text = codes "workers 1\nrunner 0 sequenced user_visible skip\ntask 0 add 5\ntask 1 post 0 0 0\njob 0 user_visible skip 2 4 add 7\n"
    ++ codes "post 1 0 0\nstartjob 0\ntick 2\njoin 0\n"

abbrev tasks_run : List Entry
tasks_run = by 0 (kinds.Post 1 0 0 true) ∷ by 1 (kinds.Take 1 0 0) ∷ by 1 (kinds.Post 0 0 0 true) ∷ by 1 (kinds.End 1 0) ∷ by 1 (kinds.Take 0 0 0)
    ∷ by 1 (kinds.End 0 5) ∷ by 0 (kinds.JobPost 0 true) ∷ by 0 (kinds.Tick 0) ∷ by 0 (kinds.Tick 3) ∷ []

-- the driver and the worker do an item each
abbrev all : List Entry
all = tasks_run ++ by 0 (kinds.JobTake 0 0 0) ∷ by 1 (kinds.JobTake 0 1 1) ∷ by 0 (kinds.JobStep 0 0 0 7 None) ∷ by 1 (kinds.JobStep 0 1 1 8 None)
    ∷ by 0 (kinds.Joined 0 (replies.Finished 15)) ∷ []

bound_is_fourteen : bound text ≡ Some 14
unfolding read
bound_is_fourteen = refl

reaches_the_bound : judged text all ≡ Some (true, true, None)
unfolding judge read
reaches_the_bound = refl

-- one tick more
ticks_once_more : judged text (all ++ by 0 (kinds.Tick 3) ∷ []) ≡ Some (false, true, Some 14)
unfolding judge read
ticks_once_more = refl

-- a task that starts once more
takes_once_more : judged text (all ++ by 1 (kinds.Take 0 0 5) ∷ []) ≡ Some (false, false, Some 14)
unfolding judge read
takes_once_more = refl

-- an item that is done once more
does_once_more : judged text (all ++ by 1 (kinds.JobStep 0 1 1 8 None) ∷ []) ≡ Some (false, true, Some 14)
unfolding judge read
does_once_more = refl
