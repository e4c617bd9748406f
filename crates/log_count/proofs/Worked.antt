-- Numbers of whole logs that were counted by hand.
use Rattle.std.proofs.Common.{◌≡◌, ℕ, true, List, ◌++◌, refl, Some}
use Rattle.std.specs.Prelude.{codes, is_some}
use Rattle.task_base.specs.Plan.{Plan}
use Rattle.task_model.specs.Past.{fold_past}
use Rattle.task_model.specs.Time.{now_of, tick_from}
use Rattle.task_model.specs.Posts.{posts, is_taken, is_ended}
use Rattle.task_model.specs.Phase.{phase_of}
use Rattle.task_model.specs.Policies.{policy_of}
use Rattle.task_model.specs.Seats.{running, holding, acts_done}
use Rattle.task_model.specs.Cells.{cell_of}
use Rattle.task_model.specs.Capacity.{priority_of, taken_with, open_scope}
use Rattle.task_model.specs.Jobs.{job_post_of, is_cancelled, claimed}
use Rattle.hist_model.specs.Laws.Agenda.{agenda}
use Rattle.hist_model.proofs.Worked.Rows.{read}
use Rattle.situation.specs.Line.{comers, standing, line_of}
use Rattle.situation.specs.Situation.{Situation, unripe_of}
use Rattle.situation.proofs.WorkedNumbers.{number_of}
use Rattle.situation.proofs.Worked.{of_text, two_tasks}
use Rattle.log_count.specs.Clocks.{by_step, by_jumps}
use Rattle.log_count.specs.Parts.{actions_in, priority_in, runs_in, acts_in, taken_in, scope_in, behaviour_in, job_in, reply_in}
use Rattle.log_count.specs.Parts.{is_cancelled_in, claimed_in, cell_in}
use Rattle.log_count.specs.Sources.{runs_sequence_in, inside_in, load_in, blocked_in, has_room_for, may_enter_in, waiting_in, best_in, leaves_in}
use Rattle.log_count.specs.Ways.{way_in, is_quiet_in, blockers_in, next_in}
use Rattle.log_count.specs.After.{after_in}
use Rattle.log_count.specs.Equal.{same_situation}
use Rattle.log_count.specs.Layers.{onward, layer, count_of_logs}

-- how many whole logs the layers count, with all that this takes open
unfoldable counted_of : (Situation → ℕ) → Plan → ℕ
unfolding fold_past now_of tick_from posts is_taken is_ended phase_of policy_of running holding acts_done cell_of priority_of taken_with open_scope job_post_of
    is_cancelled claimed agenda comers standing line_of unripe_of actions_in priority_in runs_in acts_in taken_in scope_in behaviour_in job_in reply_in
    is_cancelled_in claimed_in cell_in runs_sequence_in inside_in load_in blocked_in has_room_for may_enter_in waiting_in best_in leaves_in way_in is_quiet_in
    blockers_in next_in after_in same_situation onward layer count_of_logs
counted_of tick script = count_of_logs script tick

-- ---- counted by hand

-- as many as are listed (`situation`, `WorkedNumbers`)
two_tasks_have_twenty : of_text two_tasks (counted_of (by_step 0)) ≡ Some 20
unfolding counted_of read
two_tasks_have_twenty = refl

-- a job of two items that two may be inside, with three seats. Where a second seat enters before the first is done, there are 3 * 2
-- ways in, and then each leaves after its item, in either order: 12. Else the first one goes on to the second item: 3
abbrev a_job : List ℕ
a_job = codes "workers 2\njob 0 user_visible skip 2 2 add 1\nstartjob 0\njoin 0\n"

a_job_has_fifteen : of_text a_job (counted_of (by_step 0)) ≡ Some 15
unfolding counted_of read
a_job_has_fifteen = refl

-- three tasks on one worker, of which one may be taken at once, and one after each tick; so their takes and ends are in one order. The
-- first tick stands before the third of these six entries, and the second one behind it and before the fifth: 5 + 4 + 3
abbrev two_ticks : List ℕ
two_ticks = codes "workers 1\nrunner 0 parallel user_visible skip\ntask 0\ntask 1\ntask 2\npost 0 0 5\npost 1 0 3\npost 2 0 0\ntick 2\nflush\n"

two_ticks_have_twelve : of_text two_ticks (counted_of by_jumps) ≡ Some 12
unfolding counted_of read
two_ticks_have_twelve = refl

-- ---- the layers count as many as are listed

record Agree (text : List ℕ) (clock : Situation → ℕ) : Type 0 where
  reads : is_some (of_text text (λ script. script)) ≡ true
  same : of_text text (counted_of clock) ≡ of_text text (number_of clock)

-- a group that waits for a scope to count, by steps and by jumps, and a task that posts another
abbrev scopes : List ℕ
scopes =
    codes "workers 2\ngroups 1 1 0\nthreshold 5\nrunner 0 parallel user_visible skip mayblock\n"
    ++ codes "task 0\ntask 1 block may ; post 0 0 0 ; unblock\npost 1 0 0\ntick 1\nflush\n"

scopes_by_steps : Agree scopes (by_step 6)
unfolding counted_of number_of read
scopes_by_steps = record { reads = refl; same = refl }

scopes_by_jumps : Agree scopes by_jumps
unfolding counted_of number_of read
scopes_by_jumps = record { reads = refl; same = refl }

-- shutdown skips one task and waits for the other, and refuses a post
shutdown : Agree (codes "workers 2\nrunner 0 sequenced user_visible block\nrunner 1 sequenced best_effort skip\n"
    ++ codes "task 0 mul 2\ntask 1 add 1 ; post 0 1 0\npost 1 0 0\nshutdown\n") (by_step 0)
unfolding counted_of number_of read
shutdown = record { reads = refl; same = refl }

-- priorities that change, a policy that holds back, a job beside a single-thread runner, and a cancel
priorities : Agree (codes "workers 2\ngroups 2 1 0\nrunner 0 single:1 best_effort skip\njob 0 user_visible skip 2 1 add 1\ntask 0 add 3\n"
    ++ codes "policy foreground\npost 0 0 0\nstartjob 0\nreprio 0 user_blocking\ncancel 0\njoin 0\nflush\n") (by_step 0)
unfolding counted_of number_of read
priorities = record { reads = refl; same = refl }
