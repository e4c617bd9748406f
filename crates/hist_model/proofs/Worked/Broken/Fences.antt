-- Histories in which a main task is taken that its queue holds back.
use Rattle.std.proofs.Common.{◌≡◌, true, false, [], ◌∷◌, refl}
use Rattle.std.specs.Prelude.{codes, Some}
use Rattle.task_base.specs.declared.entry.Kind.TheVariants as kinds
use Rattle.task_base.specs.declared.script.FenceAt.TheVariants.{Now, Start}
use Rattle.task_base.specs.Entries.{entry_by as by}
use Rattle.hist_model.proofs.Worked.Rows.{judge, read}
use Rattle.hist_model.proofs.Worked.Corners.{judged}

-- the task drew its order behind the fence
taken_behind_a_fence : judged (codes "queue 0 0 0\ntask 0\nfence 0 now\nmain 0 0 0\npump 1\n")
    (by 0 (kinds.Fence 0 Now) ∷ by 0 (kinds.Main 0 0 0 true) ∷ by 0 (kinds.MainTake 0 0 0) ∷ []) ≡ Some (false, false, Some 2)
unfolding judge read
taken_behind_a_fence = refl

-- the fence was set behind the task, and then at the start
taken_behind_the_start : judged (codes "queue 0 0 0\ntask 0\nmain 0 0 0\nfence 0 now\nfence 0 start\npump 1\n")
    (by 0 (kinds.Main 0 0 0 true) ∷ by 0 (kinds.Fence 0 Now) ∷ by 0 (kinds.Fence 0 Start) ∷ by 0 (kinds.MainTake 0 0 0) ∷ []) ≡ Some (false, false, Some 3)
unfolding judge read
taken_behind_the_start = refl

taken_after_the_close : judged (codes "queue 0 0 0\ntask 0\nmain 0 0 0\nclose 0\npump 1\n")
    (by 0 (kinds.Main 0 0 0 true) ∷ by 0 (kinds.Close 0) ∷ by 0 (kinds.MainTake 0 0 0) ∷ []) ≡ Some (false, false, Some 2)
unfolding judge read
taken_after_the_close = refl

-- one of the two voters votes off
taken_against_a_vote : judged (codes "queue 0 0 2\ntask 0\nmain 0 0 0\nvote 0 1 off\npump 1\n")
    (by 0 (kinds.Main 0 0 0 true) ∷ by 0 (kinds.Vote 0 1 false) ∷ by 0 (kinds.MainTake 0 0 0) ∷ []) ≡ Some (false, false, Some 2)
unfolding judge read
taken_against_a_vote = refl
