-- Histories in which a task starts or ends as none does in a legal log.
use Rattle.std.proofs.Common.{◌≡◌, ℕ, true, false, List, [], ◌∷◌, ◌++◌, refl}
use Rattle.std.specs.Prelude.{codes, Some, None}
use Rattle.task_base.specs.declared.entry.Entry.{Entry}
use Rattle.task_base.specs.declared.entry.Kind.TheVariants as kinds
use Rattle.task_base.specs.Entries.{entry_by as by}
use Rattle.hist_model.proofs.Worked.Corners.{judged, posted_and_taken}
use Rattle.hist_model.proofs.Worked.Rows.{judge, read}

abbrev pool_and_main : List ℕ
pool_and_main = codes "workers 2\nrunner 0 parallel user_visible skip\nrunner 1 parallel user_visible skip\nqueue 0 0 0\n"
    ++ codes "task 0 add 5\ntask 1 add 5\npost 0 0 0\nmain 1 0 0\npump 2\n"

-- two seats take one task
taken_twice : judged pool_and_main (posted_and_taken ++ by 2 (kinds.Take 0 0 0) ∷ []) ≡ Some (false, false, Some 2)
unfolding judge read
taken_twice = refl

-- it is taken again after its end
taken_again : judged pool_and_main (posted_and_taken ++ by 1 (kinds.End 0 5) ∷ by 1 (kinds.Take 0 0 0) ∷ []) ≡ Some (false, false, Some 3)
unfolding judge read
taken_again = refl

-- it is taken before its post
taken_before_its_post : judged pool_and_main (by 1 (kinds.Take 0 0 0) ∷ by 0 (kinds.Post 0 0 0 true) ∷ []) ≡ Some (false, false, Some 0)
unfolding judge read
taken_before_its_post = refl

-- it is taken from another runner than it was posted to
taken_from_elsewhere : judged pool_and_main (by 0 (kinds.Post 0 0 0 true) ∷ by 1 (kinds.Take 0 1 0) ∷ []) ≡ Some (false, false, Some 1)
unfolding judge read
taken_from_elsewhere = refl

-- it ends twice
ended_twice : judged pool_and_main (posted_and_taken ++ by 1 (kinds.End 0 5) ∷ by 1 (kinds.End 0 5) ∷ []) ≡ Some (false, false, Some 3)
unfolding judge read
ended_twice = refl

-- it ends on another seat than took it
ended_by_another : judged pool_and_main (posted_and_taken ++ by 2 (kinds.End 0 5) ∷ []) ≡ Some (false, false, Some 2)
unfolding judge read
ended_by_another = refl

abbrev main_posted_and_taken : List Entry
main_posted_and_taken = by 0 (kinds.Post 0 0 0 true) ∷ by 0 (kinds.Main 1 0 0 true) ∷ by 0 (kinds.MainTake 1 0 0) ∷ []

-- a main task is taken again after its end
main_taken_again : judged pool_and_main (main_posted_and_taken ++ by 0 (kinds.MainEnd 1 5) ∷ by 0 (kinds.MainTake 1 0 5) ∷ []) ≡ Some (false, false, Some 4)
unfolding judge read
main_taken_again = refl

-- it ends twice
main_ended_twice : judged pool_and_main (main_posted_and_taken ++ by 0 (kinds.MainEnd 1 5) ∷ by 0 (kinds.MainEnd 1 5) ∷ []) ≡ Some (false, true, Some 4)
unfolding judge read
main_ended_twice = refl

-- so it is right: each is taken once behind its post, and ends once
taken_and_ended_once : judged pool_and_main (main_posted_and_taken ++ by 0 (kinds.MainEnd 1 5) ∷ by 1 (kinds.Take 0 0 0) ∷ by 0 kinds.MainNone
    ∷ by 1 (kinds.End 0 5) ∷ []) ≡ Some (true, true, None)
unfolding judge read
taken_and_ended_once = refl
