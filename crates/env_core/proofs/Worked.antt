-- Worked examples: where what the driver waits for has come, and where not.
use Rattle.std.proofs.Common.{◌≡◌, ℕ, Bool, true, false, List, [], ◌∷◌, ◌++◌, refl}
use Rattle.std.specs.Prelude.{codes, map, Option, Some, None, Ok, Err}
use Rattle.task_base.specs.declared.entry.Entry.{Entry}
use Rattle.task_base.specs.declared.entry.Kind.TheVariants as kinds
use Rattle.task_base.specs.Entries.{entry_by as by}
use Rattle.task_model.specs.Past.{fold_past}
use Rattle.task_model.specs.Time.{now_of, tick_from}
use Rattle.task_model.specs.Posts.{posts, main_posts, is_taken, is_ended, is_main_taken}
use Rattle.task_model.specs.Phase.{phase_of}
use Rattle.task_model.specs.Policies.{policy_of}
use Rattle.task_model.specs.Keys.{ready}
use Rattle.task_model.specs.Sequences.{eligible, head_of}
use Rattle.task_model.specs.Seats.{running, holding, runs_sequence, inside}
use Rattle.task_model.specs.Capacity.{priority_of, taken_with, open_scope, load, capacity, best_load, best_capacity, has_room}
use Rattle.task_model.specs.Jobs.{job_post_of, is_cancelled, claimed, done, job_sum, may_enter}
use Rattle.task_model.specs.Sources.{would_wait, waiting, best_of}
use Rattle.task_model.specs.Blockers.{block_part, skip_part, blockers_of}
use Rattle.hist_model.specs.Script.{current}
use Rattle.hist_model.proofs.Worked.Rows.{read}
use Rattle.env_core.specs.Waits.{may_go_on}

-- whether the driver may go on behind these entries, for the script that the text is, with all that this takes open
unfoldable answer : List ℕ → List Entry → Option Bool
unfolding may_go_on current fold_past now_of tick_from posts main_posts is_taken is_ended is_main_taken phase_of policy_of ready eligible head_of running
    holding runs_sequence inside priority_of taken_with open_scope load capacity best_load best_capacity has_room job_post_of is_cancelled claimed done job_sum
    may_enter would_wait waiting best_of block_part skip_part blockers_of read
answer text past = elim (read text) as (λ _. Option Bool) [ Ok script ↦ Some (may_go_on script past) | Err fault ↦ None ]

-- the answers behind each of these histories
abbrev answers : List ℕ → List (List Entry) → List (Option Bool)
answers text pasts = map (answer text) pasts

-- ---- a flush

abbrev one_task : List ℕ
one_task = codes "workers 1\nrunner 0 sequenced user_visible skip\ntask 0 add 5\npost 0 0 0\n"

abbrev posted : List Entry
posted = by 0 (kinds.Post 0 0 0 true) ∷ []

abbrev taken : List Entry
taken = posted ++ by 1 (kinds.Take 0 0 0) ∷ []

abbrev ended : List Entry
ended = taken ++ by 1 (kinds.End 0 5) ∷ []

-- a post waits for nothing; a flush waits while a task may be taken, and while one runs; a finished driver waits for nothing
flush_waits : answers (one_task ++ codes "flush\n") ([] ∷ posted ∷ taken ∷ ended ∷ (ended ++ by 0 kinds.Idle ∷ []) ∷ [])
    ≡ Some true ∷ Some false ∷ Some false ∷ Some true ∷ Some true ∷ []
unfolding answer
flush_waits = refl

-- ---- a shutdown

abbrev started : List Entry
started = taken ++ by 0 kinds.Shutdown ∷ []

-- a shutdown that has not started waits for nothing, and then for the skip task that runs
shutdown_waits : answers (one_task ++ codes "shutdown\n") (taken ∷ started ∷ (started ++ by 1 (kinds.End 0 5) ∷ []) ∷ [])
    ≡ Some true ∷ Some false ∷ Some true ∷ []
unfolding answer
shutdown_waits = refl

-- ---- a join, and a cancel

abbrev one_job : List ℕ
one_job = codes "workers 1\njob 0 user_visible skip 2 1 add 7\nstartjob 0\n"

abbrev job_posted : List Entry
job_posted = by 0 (kinds.JobPost 0 true) ∷ []

abbrev worker_inside : List Entry
worker_inside = job_posted ++ by 1 (kinds.JobTake 0 0 0) ∷ []

abbrev job_finished : List Entry
job_finished = worker_inside ++ by 1 (kinds.JobStep 0 0 0 7 (Some 1)) ∷ by 1 (kinds.JobStep 0 0 1 8 None) ∷ []

-- the driver may go into the job that it joins, and waits while a worker fills it, until there is a reply
join_waits : answers (one_job ++ codes "join 0\n") (job_posted ∷ worker_inside ∷ job_finished ∷ []) ≡ Some true ∷ Some false ∷ Some true ∷ []
unfolding answer
join_waits = refl

abbrev cancelled : List Entry
cancelled = worker_inside ++ by 0 (kinds.JobCancel 0) ∷ []

-- a cancel that has not begun waits for nothing, and then for the worker inside
cancel_waits : answers (one_job ++ codes "cancel 0\n") (worker_inside ∷ cancelled ∷ (cancelled ++ by 1 (kinds.JobStep 0 0 0 7 None) ∷ []) ∷ [])
    ≡ Some true ∷ Some false ∷ Some true ∷ []
unfolding answer
cancel_waits = refl
