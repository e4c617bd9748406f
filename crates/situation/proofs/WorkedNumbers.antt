-- Numbers of whole logs that were counted by hand.
use Rattle.std.proofs.Common.{◌≡◌, ℕ, length, refl, Some}
use Rattle.task_base.specs.Plan.{Plan}
use Rattle.task_model.specs.Past.{fold_past}
use Rattle.task_model.specs.Time.{now_of, tick_from}
use Rattle.task_model.specs.Posts.{posts, main_posts, is_taken, is_ended, is_main_taken}
use Rattle.task_model.specs.Phase.{phase_of}
use Rattle.task_model.specs.Policies.{policy_of}
use Rattle.task_model.specs.Refusal.{is_closed}
use Rattle.task_model.specs.Keys.{ready}
use Rattle.task_model.specs.Sequences.{eligible, head_of}
use Rattle.task_model.specs.Seats.{running, holding, is_quiet, runs_sequence, inside, acts_done}
use Rattle.task_model.specs.Cells.{cell_of, main_cell_of}
use Rattle.task_model.specs.Capacity.{priority_of, taken_with, open_scope, load, capacity, best_load, best_capacity, has_room}
use Rattle.task_model.specs.Jobs.{job_post_of, is_cancelled, claimed, done, job_sum, may_enter}
use Rattle.task_model.specs.Sources.{would_wait, waiting, best_of, leaves}
use Rattle.task_model.specs.Blockers.{block_part, skip_part, blockers_of}
use Rattle.hist_model.specs.Script.{current, is_wanted, is_finished}
use Rattle.hist_model.specs.Allowed.{by_script, by_task, may_come}
use Rattle.hist_model.specs.Laws.Agenda.{agenda}
use Rattle.hist_model.specs.Laws.Ways.{way_on}
use Rattle.hist_model.proofs.Worked.Rows.{read}
use Rattle.situation.specs.Counts.{whole_logs}
use Rattle.situation.specs.Line.{comers, standing, line_of}
use Rattle.situation.specs.Situation.{Situation, unripe_of}
use Rattle.situation.proofs.Worked.{of_text, two_tasks}

-- how many whole logs the script has, with all that this takes open
unfoldable pub number_of : (Situation → ℕ) → Plan → ℕ
unfolding fold_past now_of tick_from posts main_posts is_taken is_ended is_main_taken phase_of policy_of is_closed ready eligible head_of running holding
    is_quiet runs_sequence inside acts_done cell_of main_cell_of priority_of taken_with open_scope load capacity best_load best_capacity has_room
    job_post_of is_cancelled claimed done job_sum may_enter would_wait waiting best_of leaves block_part skip_part blockers_of current is_wanted is_finished
    by_script by_task may_come way_on agenda comers standing line_of unripe_of whole_logs
number_of tick script = length (whole_logs script tick)

-- two tasks of a parallel runner on two workers. The first is posted and taken before the second is; the second is taken after
-- its post. Where the first has ended by then, the second post stands at one of three places, and each task has two seats: 3 * 4.
-- Else it stands at one of two places, the tasks end in either order, and the second task has the other seat: 2 * 2 * 2
two_tasks_have_twenty : of_text two_tasks (number_of (λ s. s.now)) ≡ Some 20
unfolding number_of read
two_tasks_have_twenty = refl
