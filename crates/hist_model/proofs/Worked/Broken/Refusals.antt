-- Histories with a reply that is not the one that a post must have.
use Rattle.std.proofs.Common.{◌≡◌, ℕ, Bool, true, false, List, [], ◌∷◌, ◌++◌, refl}
use Rattle.std.specs.Prelude.{codes, Some}
use Rattle.task_base.specs.declared.entry.Entry.{Entry}
use Rattle.task_base.specs.declared.entry.Kind.TheVariants as kinds
use Rattle.task_base.specs.Entries.{entry_by as by}
use Rattle.hist_model.proofs.Worked.Rows.{judge, read}
use Rattle.hist_model.proofs.Worked.Corners.{judged}

abbrev two_runners : List ℕ
two_runners = codes "workers 1\nrunner 0 parallel user_visible block\nrunner 1 parallel user_visible skip\ntask 0\n"

-- a block task runs during shutdown, and its post to this runner has this reply
abbrev posts_during_shutdown : ℕ → Bool → List Entry
posts_during_shutdown runner ok =
    by 0 (kinds.Post 1 0 0 true) ∷ by 0 kinds.Shutdown ∷ by 1 (kinds.Take 1 0 0) ∷ by 1 (kinds.Post 0 runner 0 ok) ∷ []

skip_task_is_accepted_after_shutdown : judged (two_runners ++ codes "task 1 post 0 1 0\npost 1 0 0\nshutdown\n") (posts_during_shutdown 1 true)
    ≡ Some (false, false, Some 3)
unfolding judge read
skip_task_is_accepted_after_shutdown = refl

-- nothing but a done refuses a block task
block_task_is_refused_before_done : judged (two_runners ++ codes "task 1 post 0 0 0\npost 1 0 0\nshutdown\n") (posts_during_shutdown 0 false)
    ≡ Some (false, false, Some 3)
unfolding judge read
block_task_is_refused_before_done = refl

job_is_accepted_after_shutdown : judged (codes "workers 1\njob 0 user_visible skip 1 1\nshutdown\nstartjob 0\n")
    (by 0 kinds.Shutdown ∷ by 0 kinds.Done ∷ by 0 (kinds.JobPost 0 true) ∷ []) ≡ Some (false, true, Some 2)
unfolding judge read
job_is_accepted_after_shutdown = refl

main_task_is_accepted_after_the_close : judged (codes "queue 0 0 0\ntask 0\nclose 0\nmain 0 0 0\n")
    (by 0 (kinds.Close 0) ∷ by 0 (kinds.Main 0 0 0 true) ∷ []) ≡ Some (false, true, Some 1)
unfolding judge read
main_task_is_accepted_after_the_close = refl
