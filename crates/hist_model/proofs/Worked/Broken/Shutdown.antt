-- Histories in which shutdown does not wait, or does not forbid.
use Rattle.std.proofs.Common.{◌≡◌, ℕ, true, false, List, [], ◌∷◌, ◌++◌, refl}
use Rattle.std.specs.Prelude.{codes, Some}
use Rattle.task_base.specs.declared.entry.Entry.{Entry}
use Rattle.task_base.specs.declared.entry.Kind.TheVariants as kinds
use Rattle.task_base.specs.Entries.{entry_by as by}
use Rattle.hist_model.proofs.Worked.Rows.{judge, read}
use Rattle.hist_model.proofs.Worked.Corners.{judged}

-- a task on a runner of this behaviour is posted, and then shutdown
abbrev one_task : List ℕ → List ℕ
one_task behaviour = codes "workers 1\nrunner 0 parallel user_visible " ++ behaviour ++ codes "\ntask 0\npost 0 0 0\nshutdown\n"

abbrev posted : Entry
posted = by 0 (kinds.Post 0 0 0 true)

abbrev taken : Entry
taken = by 1 (kinds.Take 0 0 0)

done_before_a_block_task_ends : judged (one_task (codes "block")) (posted ∷ by 0 kinds.Shutdown ∷ by 0 kinds.Done ∷ []) ≡ Some (false, true, Some 2)
unfolding judge read
done_before_a_block_task_ends = refl

done_before_a_taken_skip_task_ends : judged (one_task (codes "skip")) (posted ∷ taken ∷ by 0 kinds.Shutdown ∷ by 0 kinds.Done ∷ [])
    ≡ Some (false, false, Some 3)
unfolding judge read
done_before_a_taken_skip_task_ends = refl

skip_task_starts_after_shutdown : judged (one_task (codes "skip")) (posted ∷ by 0 kinds.Shutdown ∷ taken ∷ []) ≡ Some (false, false, Some 2)
unfolding judge read
skip_task_starts_after_shutdown = refl

continue_task_starts_after_shutdown_is_done : judged (one_task (codes "continue") ++ codes "tick 1\n")
    (posted ∷ by 0 kinds.Shutdown ∷ by 0 kinds.Done ∷ taken ∷ []) ≡ Some (false, false, Some 3)
unfolding judge read
continue_task_starts_after_shutdown_is_done = refl

-- a job of this behaviour is posted, and then shutdown
abbrev one_job : List ℕ → List ℕ
one_job behaviour = codes "workers 1\njob 0 user_visible " ++ behaviour ++ codes " 1 1\nstartjob 0\nshutdown\n"

done_before_a_block_job_is_over : judged (one_job (codes "block")) (by 0 (kinds.JobPost 0 true) ∷ by 0 kinds.Shutdown ∷ by 0 kinds.Done ∷ [])
    ≡ Some (false, true, Some 2)
unfolding judge read
done_before_a_block_job_is_over = refl

done_while_somebody_is_inside_a_skip_job : judged (one_job (codes "skip"))
    (by 0 (kinds.JobPost 0 true) ∷ by 1 (kinds.JobTake 0 0 0) ∷ by 0 kinds.Shutdown ∷ by 0 kinds.Done ∷ []) ≡ Some (false, false, Some 3)
unfolding judge read
done_while_somebody_is_inside_a_skip_job = refl

continue_job_is_entered_after_shutdown : judged (one_job (codes "continue"))
    (by 0 (kinds.JobPost 0 true) ∷ by 0 kinds.Shutdown ∷ by 1 (kinds.JobTake 0 0 0) ∷ []) ≡ Some (false, false, Some 2)
unfolding judge read
continue_job_is_entered_after_shutdown = refl
