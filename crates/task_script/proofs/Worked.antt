-- A generated script that was worked out by hand.
use Rattle.std.proofs.Common.{◌≡◌, ℕ, List, [], ◌∷◌, ◌++◌, refl}
use Rattle.std.specs.Prelude.{codes}
use Rattle.script_model.specs.Canonical.{canonical}
use Rattle.script_model.proofs.Worked.Tables.{opened}
use Rattle.task_script.specs.Generated.{numbers_behind, generated}

-- the first two numbers behind 0
numbers_right : numbers_behind 0 2 ≡ 1442695040888963407 ∷ 1876011003808476466 ∷ []
unfolding numbers_behind
numbers_right = refl

-- the text of the number 0 and two tasks: the numbers give the amounts 123 and 222, and the goals runner 2 and main queue
abbrev two_tasks_text : List ℕ
two_tasks_text =
    codes "workers 4\ngroups 4 2 2\nthreshold 1000000\nrunner 0 parallel user_visible skip\n"
    ++ codes "runner 1 sequenced user_blocking block\nrunner 2 sequenced best_effort continue\n"
    ++ codes "runner 3 sequenced user_visible block\nqueue 0 3 1\ntask 0 add 123\ntask 1 add 222\n"
    ++ codes "job 0 user_visible block 16 4 mul 3 ; add 1\nstartjob 0\npost 0 2 0\nmain 1 0 0\npump 2\njoin 0\nflush\n"

two_tasks_right : canonical (generated 0 2) ≡ two_tasks_text
unfolding opened numbers_behind generated
two_tasks_right = refl
