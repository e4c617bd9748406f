-- How worked histories are checked: by computing, with all definitions open.
use Rattle.std.proofs.Common.{◌≡◌, ℕ, Bool, true, List, [], ◌∷◌, ◌++◌, false}
use Rattle.std.specs.Prelude.{if◌then◌else◌, Option, Some, None, Result, Ok, map}
use Rattle.task_base.specs.Plan.{Plan, JobPlan}
use Rattle.task_base.specs.declared.entry.Entry.{Entry}
use Rattle.task_base.specs.declared.entry.Kind.{Kind}
use Rattle.task_base.specs.declared.script.MainQueue.{MainQueue}
use Rattle.task_base.specs.declared.script.Runner.{Runner}
use Rattle.task_base.specs.declared.script.RunnerKind.{RunnerKind}
use Rattle.task_base.specs.declared.step.Step.{Step}
use Rattle.task_traits.specs.declared.traits.Behaviour.{Behaviour}
use Rattle.task_traits.specs.declared.traits.Priority.{Priority}
use Rattle.task_model.specs.Past.{fold_past}
use Rattle.task_model.specs.Time.{now_of, tick_from}
use Rattle.task_model.specs.Posts.{posts, main_posts, is_taken, is_ended, is_main_taken}
use Rattle.task_model.specs.Phase.{phase_of}
use Rattle.task_model.specs.Policies.{policy_of}
use Rattle.task_model.specs.Refusal.{is_closed}
use Rattle.task_model.specs.Keys.{ready}
use Rattle.task_model.specs.Sequences.{eligible, head_of}
use Rattle.task_model.specs.Seats.{running, holding, is_quiet, runs_sequence, inside, acts_done}
use Rattle.task_model.specs.Cells.{cell_of, main_cell_of}
use Rattle.task_model.specs.Capacity.{priority_of, taken_with, open_scope, load, capacity, best_load, best_capacity, has_room}
use Rattle.task_model.specs.Jobs.{job_post_of, is_cancelled, claimed, done, job_sum, may_enter}
use Rattle.task_model.specs.Sources.{would_wait, waiting, best_of, leaves}
use Rattle.task_model.specs.Blockers.{block_part, skip_part, blockers_of}
use Rattle.task_model.specs.Orders.{ripening, draws, order_of}
use Rattle.task_model.specs.MainQueues.{fence_of, votes_on, class_of, front_of, open_fronts, of_least_class, streak_of, choice_among}
use Rattle.hist_model.specs.Open.{was_posted}
use Rattle.hist_model.specs.Script.{current, is_wanted, is_finished, is_whole}
use Rattle.hist_model.specs.Allowed.{by_script, by_task, may_come}
use Rattle.hist_model.specs.Legal.{is_legal, first_illegal}
use Rattle.hist_model.specs.Laws.Ways.{but_moment, is_due, way_on}
use Rattle.script_model.specs.Places.{number_from, kind_named, step_said, steps_read}
use Rattle.script_model.specs.Lines.{workers_line, groups_line, threshold_line, runner_line, queue_line, task_line, job_line, post_line, main_line, tick_line}
use Rattle.script_model.specs.Lines.{policy_line, reprio_line, fence_line, unfence_line, vote_line, rank_line, close_line, pump_line, flush_line}
use Rattle.script_model.specs.Lines.{start_job_line, join_line, cancel_line, shutdown_line, queue_command_read, action_command_read, command_read, words_read}
use Rattle.script_model.specs.Grammar.{lines_read, script_read}
use Rattle.log_model.specs.LogText.{log_lines}
use Rattle.std.specs.Fmt.{digits}

-- whether the history is legal, whether it is whole, and the least place that is not allowed, with all that this
-- takes open
unfoldable pub judge : Plan → List Entry → Bool × Bool × Option ℕ
unfolding fold_past now_of tick_from posts main_posts is_taken is_ended is_main_taken phase_of policy_of is_closed ready eligible head_of running holding
    is_quiet runs_sequence inside acts_done cell_of main_cell_of priority_of taken_with open_scope load capacity best_load best_capacity has_room
    job_post_of is_cancelled
    claimed done
    job_sum may_enter would_wait waiting best_of leaves block_part skip_part blockers_of ripening draws order_of fence_of votes_on class_of front_of open_fronts
    of_least_class streak_of choice_among current is_wanted is_finished was_posted by_script by_task may_come is_legal first_illegal
judge script log = (is_legal script log, is_whole script log, first_illegal script log)

-- what the seat of each entry does next after those before it, but for the moment of a tick, where that is due
abbrev ways_from : Plan → List Entry → List Entry → List (Option Kind)
ways_from script past [] = []
ways_from script past (e ∷ rest) =
    (if is_due script past e.kind then way_on script past e.seat else None) ∷ ways_from script (past ++ e ∷ []) rest

-- the same from the empty past, with all that this takes open
unfoldable pub ways_of : Plan → List Entry → List (Option Kind)
unfolding fold_past now_of tick_from posts main_posts is_taken is_ended is_main_taken phase_of policy_of is_closed ready eligible head_of running holding
    is_quiet runs_sequence inside acts_done cell_of main_cell_of priority_of taken_with open_scope load capacity best_load best_capacity has_room
    job_post_of is_cancelled
    claimed done
    job_sum may_enter would_wait waiting best_of leaves block_part skip_part blockers_of ripening draws order_of fence_of votes_on class_of front_of open_fronts
    of_least_class streak_of choice_among current is_wanted is_finished by_script by_task may_come way_on
ways_of script log = ways_from script [] log

-- the script that the bytes are, with all that this takes open
unfoldable pub read : List ℕ → Result Plan (ℕ × ℕ)
unfolding number_from kind_named step_said steps_read workers_line groups_line threshold_line runner_line queue_line task_line job_line post_line main_line
    tick_line policy_line reprio_line fence_line unfence_line vote_line rank_line close_line pump_line flush_line start_job_line join_line cancel_line
    shutdown_line
    queue_command_read action_command_read command_read words_read lines_read script_read
read bytes = script_read bytes

-- the lines of the log
unfoldable pub written : List Entry → List ℕ
unfolding log_lines digits
written log = log_lines log

-- a history that was worked out: its script and its entries, the text of the script and the lines of the entries
pub record Worked : Type 0 where
  pub script : Plan
  pub log : List Entry
  pub text : List ℕ
  pub lines : List ℕ

abbrev pub worked : Plan → List Entry → List ℕ → List ℕ → Worked
worked script log text lines = record { script = script; log = log; text = text; lines = lines }

-- what its texts and its entries are found to be: the script of the text, the lines of the entries, the judgement, and the ways on
abbrev Findings : Type 0
Findings = Result Plan (ℕ × ℕ) × List ℕ × (Bool × Bool × Option ℕ) × List (Option Kind)

abbrev found : Worked → Findings
found w = (read w.text, written w.log, judge w.script w.log, ways_of w.script w.log)

abbrev wanted : Worked → Findings
wanted w = (Ok w.script, w.lines, (true, true, None), map (λ e. Some (but_moment e.kind)) w.log)

-- the text of each is its script, the lines are those of its log, the log is legal and whole for the script, and each entry is its
-- seat's way on
abbrev pub AreRight : List Worked → Type 0
AreRight rows = map found rows ≡ map wanted rows

-- a script that says nothing, of which the others differ by what they say
abbrev pub plain : Plan
plain = record {
  workers = 1;
  foreground = 4;
  foreground_best = 2;
  background = 0;
  threshold = 1000000;
  runners = [];
  queues = [];
  tasks = [];
  jobs = [];
  actions = [];
  is_open = false;
}

abbrev pub runner_of : RunnerKind → Priority → Behaviour → Bool → Runner
runner_of kind priority behaviour may_block = record { kind = kind; traits = record { priority = priority; behaviour = behaviour; may_block = may_block } }

abbrev pub queue_of : ℕ → ℕ → MainQueue
queue_of class voters = record { class = class; voters = voters }

abbrev pub job_of : Priority → Behaviour → ℕ → ℕ → List Step → JobPlan
job_of priority behaviour items cap steps = record { priority = priority; behaviour = behaviour; items = items; cap = cap; steps = steps }

-- a history, and the least place in it that is not allowed
pub record Refused : Type 0 where
  pub log : List Entry
  pub place : ℕ

abbrev pub at : ℕ → List Entry → Refused
at place log = record { log = log; place = place }

-- each of the histories has its place
abbrev pub AreRefused : Plan → List Refused → Type 0
AreRefused script rows = map (λ r. first_illegal script r.log) rows ≡ map (λ r. Some r.place) rows
