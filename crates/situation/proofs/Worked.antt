-- Situations of histories that were worked out by hand.
use Rattle.std.proofs.Common.{◌≡◌, ℕ, true, List, [], ◌∷◌, ◌++◌, refl}
use Rattle.std.specs.Prelude.{codes, map, Option, Some, None, Ok, Err}
use Rattle.task_base.specs.Plan.{Plan}
use Rattle.task_base.specs.declared.entry.Entry.{Entry}
use Rattle.task_base.specs.declared.entry.Kind.TheVariants as kinds
use Rattle.task_base.specs.declared.step.Scope.TheVariants.{May}
use Rattle.task_base.specs.Entries.{entry_by as by}
use Rattle.task_model.specs.Past.{fold_past}
use Rattle.task_model.specs.Time.{now_of, tick_from}
use Rattle.task_model.specs.Posts.{posts, is_taken, is_ended}
use Rattle.task_model.specs.Phase.{phase_of}
use Rattle.task_model.specs.Policies.{policy_of}
use Rattle.task_model.specs.Seats.{running, holding, acts_done}
use Rattle.task_model.specs.Cells.{cell_of}
use Rattle.task_model.specs.Capacity.{priority_of, taken_with, open_scope}
use Rattle.task_model.specs.Jobs.{job_post_of, is_cancelled, claimed}
use Rattle.hist_model.specs.Laws.Agenda.{agenda}
use Rattle.hist_model.proofs.Worked.Rows.{judge, read}
use Rattle.situation.specs.Line.{Waiter, Task, OfJob, comers, standing, line_of}
use Rattle.situation.specs.Situation.{Situation, Unripe, situation_of, unripe_of}

-- the situation, with all that it takes open
unfoldable situation_at : Plan → List Entry → Situation
unfolding fold_past now_of tick_from posts is_taken is_ended phase_of policy_of running holding acts_done cell_of priority_of taken_with open_scope job_post_of
    is_cancelled claimed agenda comers standing line_of unripe_of
situation_at script log = situation_of script log

-- what is found of the script that a text is
abbrev pub of_text : {A : Type 0} → List ℕ → (Plan → A) → Option A
of_text {A = A} text look = elim (read text) as (λ _. Option A) [ Ok script ↦ Some (look script) | Err fault ↦ None ]

-- two legal logs of one script come to one situation
record AlikeAfter (text : List ℕ) (log other : List Entry) : Type 0 where
  log_is_legal : of_text text (λ script. (judge script log).0) ≡ Some true
  other_is_legal : of_text text (λ script. (judge script other).0) ≡ Some true
  same : of_text text (λ script. situation_at script log) ≡ of_text text (λ script. situation_at script other)

-- ---- logs that come to one situation

-- two tasks of a parallel runner: in which order they ran, and where, is forgotten
abbrev pub two_tasks : List ℕ
two_tasks = codes "workers 2\nrunner 0 parallel user_visible skip\ntask 0 add 1\ntask 1 add 2\npost 0 0 0\npost 1 0 0\nflush\n"

the_order_of_ends_is_forgotten : AlikeAfter two_tasks
    (by 0 (kinds.Post 0 0 0 true) ∷ by 0 (kinds.Post 1 0 0 true) ∷ by 1 (kinds.Take 0 0 0) ∷ by 2 (kinds.Take 1 0 0) ∷ by 1 (kinds.End 0 1)
    ∷ by 2 (kinds.End 1 2) ∷ [])
    (by 0 (kinds.Post 0 0 0 true) ∷ by 1 (kinds.Take 0 0 0) ∷ by 1 (kinds.End 0 1) ∷ by 0 (kinds.Post 1 0 0 true) ∷ by 1 (kinds.Take 1 0 0)
    ∷ by 1 (kinds.End 1 2) ∷ [])
unfolding situation_at judge read
the_order_of_ends_is_forgotten = record { log_is_legal = refl; other_is_legal = refl; same = refl }

-- which item of a job a seat has is forgotten, and under which number
abbrev one_job : List ℕ
one_job = codes "workers 2\njob 0 user_visible skip 4 2 add 1\nstartjob 0\njoin 0\n"

items_are_forgotten : AlikeAfter one_job
    (by 0 (kinds.JobPost 0 true) ∷ by 1 (kinds.JobTake 0 0 0) ∷ by 2 (kinds.JobTake 0 1 1) ∷ by 1 (kinds.JobStep 0 0 0 1 (Some 2)) ∷ [])
    (by 0 (kinds.JobPost 0 true) ∷ by 2 (kinds.JobTake 0 0 0) ∷ by 1 (kinds.JobTake 0 1 1) ∷ by 1 (kinds.JobStep 0 1 1 2 (Some 2)) ∷ [])
unfolding situation_at judge read
items_are_forgotten = record { log_is_legal = refl; other_is_legal = refl; same = refl }

-- ---- parts of a situation

-- the line is in the order of posts, jobs among tasks, and who is taken leaves it
abbrev in_line : List ℕ → List Entry → Option (List Waiter)
in_line text log = of_text text (λ script. (situation_at script log).line)

abbrev task_job_task : List ℕ
task_job_task = codes "workers 2\nrunner 0 parallel user_visible skip\njob 0 user_visible skip 1 1\ntask 0\ntask 1\npost 0 0 0\nstartjob 0\npost 1 0 0\nflush\n"

abbrev three_posts : List Entry
three_posts = by 0 (kinds.Post 0 0 0 true) ∷ by 0 (kinds.JobPost 0 true) ∷ by 0 (kinds.Post 1 0 0 true) ∷ []

jobs_stand_among_tasks : in_line task_job_task three_posts ≡ Some (Task 0 0 0 ∷ OfJob 0 ∷ Task 1 0 0 ∷ [])
unfolding situation_at read
jobs_stand_among_tasks = refl

who_is_taken_leaves : in_line task_job_task (three_posts ++ by 1 (kinds.Take 0 0 0) ∷ []) ≡ Some (OfJob 0 ∷ Task 1 0 0 ∷ [])
unfolding situation_at read
who_is_taken_leaves = refl

a_job_leaves_with_its_last_item : in_line task_job_task (three_posts ++ by 1 (kinds.Take 0 0 0) ∷ by 2 (kinds.JobTake 0 0 0) ∷ []) ≡ Some (Task 1 0 0 ∷ [])
unfolding situation_at read
a_job_leaves_with_its_last_item = refl

-- delayed tasks stand by ripe moment, then by post, and come into the line in that order
abbrev delays : List ℕ
delays = codes "workers 1\nrunner 0 parallel user_visible skip\ntask 0\ntask 1\ntask 2\npost 0 0 5\npost 1 0 3\npost 2 0 3\ntick 2\nflush\n"

abbrev delayed_posts : List Entry
delayed_posts = by 0 (kinds.Post 0 0 5 true) ∷ by 0 (kinds.Post 1 0 3 true) ∷ by 0 (kinds.Post 2 0 3 true) ∷ []

abbrev waiting_then : List Entry → Option (List Waiter × List Unripe)
waiting_then log = of_text delays (λ script. ((situation_at script log).line, (situation_at script log).unripe))

abbrev unripe_task : ℕ → ℕ → ℕ → Unripe
unripe_task task delay ripe = record { task = task; home = 0; delay = delay; ripe = ripe }

delayed_tasks_stand_by_moment : waiting_then delayed_posts ≡ Some ([], unripe_task 1 3 3 ∷ unripe_task 2 3 3 ∷ unripe_task 0 5 5 ∷ [])
unfolding situation_at read
delayed_tasks_stand_by_moment = refl

they_come_into_the_line : waiting_then (delayed_posts ++ by 0 (kinds.Tick 4) ∷ []) ≡ Some (Task 1 0 3 ∷ Task 2 0 3 ∷ [], unripe_task 0 5 5 ∷ [])
unfolding situation_at read
they_come_into_the_line = refl

-- a scope that may block counts from a moment on, and from then on it is one that counts now
abbrev scope : List ℕ
scope = codes "workers 1\nthreshold 10\nrunner 0 parallel user_visible skip mayblock\ntask 0 block may ; unblock\npost 0 0 0\ntick 2\nflush\n"

abbrev entered : List Entry
entered = by 0 (kinds.Post 0 0 0 true) ∷ by 1 (kinds.Take 0 0 0) ∷ by 1 (kinds.Enter 0 May) ∷ []

abbrev seats_then : List Entry → Option (List (Option ℕ))
seats_then log = of_text scope (λ script. map (λ s. s.scope) (situation_at script log).seats)

a_scope_counts_from_a_moment : seats_then (entered ++ by 0 (kinds.Tick 3) ∷ []) ≡ Some (None ∷ Some 10 ∷ [])
unfolding situation_at read
a_scope_counts_from_a_moment = refl

then_it_counts : seats_then (entered ++ by 0 (kinds.Tick 3) ∷ by 0 (kinds.Tick 11) ∷ []) ≡ Some (None ∷ Some 0 ∷ [])
unfolding situation_at read
then_it_counts = refl
