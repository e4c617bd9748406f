-- What one line adds to the script that the earlier lines give, or its reason: that of its places first, then the
-- first that holds of it and the earlier lines, in the order of the reasons. (The lines are this project's own.)
use Rattle.std.specs.Prelude.{ℕ, ◌+◌, ◌==◌, false, not, nat_lt, is_some, if◌then◌else◌, List, [], ◌∷◌, ◌++◌, length, drop, codes, flat_map, Some, Result, Ok, Err}
use Rattle.std.specs.List.{list_any, list_all}
use Rattle.task_base.specs.Plan.{JobPlan}
use Rattle.task_base.specs.Steps.{is_act}
use Rattle.task_base.specs.declared.step.Step.{Step}
use Rattle.task_base.specs.declared.step.Step.TheVariants.{Post as PostStep, Main as MainStep}
use Rattle.task_base.specs.declared.script.Action.{Action}
use Rattle.task_base.specs.declared.script.Action.TheVariants.{Post, Main, Tick, Policy, Reprio, Fence, Unfence, Vote, Rank, Close, Pump, Flush, StartJob, Join, Cancel, Shutdown}
use Rattle.task_base.specs.declared.limits.TheConstants.{MOST_WORKERS, MOST_RUNNERS, MOST_QUEUES, MOST_TASKS, MOST_JOBS, MOST_ITEMS, MOST_STEPS, MOST_TICKS, MOST_EVENTS}
use Rattle.script_model.specs.Words.{words_of, is_word, begins_comment, is_all_ascii}
use Rattle.script_model.specs.Reasons.{◌>>=◌, ◌>>◌, ◌&◌, refuse, not_ascii, unknown_word, out_of_range, out_of_order, undeclared, posted_twice, declaration_late, bad_block, job_use, shutdown_twice, config_twice, too_many}
use Rattle.script_model.specs.Bound.{events_of_task, events_of_job, events_of_action}
use Rattle.script_model.specs.Draft.{Draft, has_no_actions, is_bare, is_above_workers, is_declared, has_runner, has_queue, has_voter, has_job, posted_in, is_any_posted, has_bad_scopes, is_bad_post, is_started, has_shutdown, ticks_of, items_in, steps_in, ticks_in, events_in}
use Rattle.script_model.specs.Laws.Postings.{posts_of_step}
use Rattle.value_words.specs.Words.{priority_named, behaviour_named, policy_named, fence_named, vote_named}
use Rattle.script_model.specs.Places.{said_at, name_at, ends_at, number_at, id_at, time_at, kind_named, may_block_at, steps_read}

-- ---- configuration

-- `workers N`: how many worker seats there are
unfoldable pub workers_line : Draft → List (List ℕ) → Result Draft ℕ
workers_line d words = do
  (n, _) ← number_at 1 MOST_WORKERS words 0 & ends_at words 1
  refuse (not (is_bare d)) declaration_late
  refuse (is_some d.workers) config_twice
  Ok (record d { workers = Some n })

-- `groups F FB B`: the limits of the groups
unfoldable pub groups_line : Draft → List (List ℕ) → Result Draft ℕ
groups_line d words = do
  (f, (fb, (b, _))) ← number_at 1 64 words 0 & number_at 1 64 words 1 & number_at 0 64 words 2 & ends_at words 3
  refuse (nat_lt f fb) out_of_range
  refuse (not (is_bare d)) declaration_late
  refuse (is_some d.groups) config_twice
  Ok (record d { groups = Some (record { foreground = f; foreground_best = fb; background = b }) })

-- `threshold U`: after how many microseconds a scope that may block counts
unfoldable pub threshold_line : Draft → List (List ℕ) → Result Draft ℕ
threshold_line d words = do
  (u, _) ← time_at words 0 & ends_at words 1
  refuse (not (is_bare d)) declaration_late
  refuse (is_some d.threshold) config_twice
  Ok (record d { threshold = Some u })

-- ---- declarations

-- `runner R KIND PRIORITY BEHAVIOUR`, with `mayblock` at the end or without it
unfoldable pub runner_line : Draft → List (List ℕ) → Result Draft ℕ
runner_line d words = do
  (r, (kind, (priority, (behaviour, (may_block, _))))) ← id_at words 0 & said_at kind_named words 1 & name_at priority_named words 2 & name_at behaviour_named
      words 3 & may_block_at words 4 & ends_at words 5
  refuse (not (r == length d.runners)) out_of_order
  refuse (is_above_workers d kind) undeclared
  refuse (not (has_no_actions d)) declaration_late
  refuse (nat_lt MOST_RUNNERS (length d.runners + 1)) too_many
  Ok (record d { runners = d.runners ++ record { kind = kind; traits = record { priority = priority; behaviour = behaviour; may_block = may_block } } ∷ [] })

-- `queue Q CLASS VOTERS`
unfoldable pub queue_line : Draft → List (List ℕ) → Result Draft ℕ
queue_line d words = do
  (q, (class, (voters, _))) ← id_at words 0 & number_at 0 7 words 1 & number_at 0 16 words 2 & ends_at words 3
  refuse (not (q == length d.queues)) out_of_order
  refuse (not (has_no_actions d)) declaration_late
  refuse (nat_lt MOST_QUEUES (length d.queues + 1)) too_many
  Ok (record d { queues = d.queues ++ record { class = class; voters = voters } ∷ [] })

-- `task T STEPS`
unfoldable pub task_line : Draft → List (List ℕ) → Result Draft ℕ
task_line d words = do
  (t, steps) ← id_at words 0 & steps_read (drop 1 words)
  refuse (not (t == length d.tasks)) out_of_order
  refuse (not (list_all (is_declared d) steps)) undeclared
  refuse (is_any_posted (posted_in d) (flat_map posts_of_step steps)) posted_twice
  refuse (not (has_no_actions d)) declaration_late
  refuse (has_bad_scopes false steps) bad_block
  refuse (list_any (is_bad_post d) steps) bad_block
  refuse (nat_lt MOST_TASKS (length d.tasks + 1)) too_many
  refuse (nat_lt MOST_STEPS (steps_in d + length steps)) too_many
  refuse (nat_lt MOST_EVENTS (events_in d + events_of_task steps)) too_many
  Ok (record d { tasks = d.tasks ++ steps ∷ [] })

-- `job J PRIORITY BEHAVIOUR ITEMS CAP STEPS`
unfoldable pub job_line : Draft → List (List ℕ) → Result Draft ℕ
job_line d words = do
  (j, (priority, (behaviour, (items, (cap, steps))))) ← id_at words 0 & name_at priority_named words 1 & name_at behaviour_named words 2 & number_at 0 65536
      words 3 & number_at 1 64 words 4 & steps_read (drop 5 words)
  refuse (not (j == length d.jobs)) out_of_order
  refuse (not (list_all (is_declared d) steps)) undeclared
  refuse (is_any_posted (posted_in d) (flat_map posts_of_step steps)) posted_twice
  refuse (not (has_no_actions d)) declaration_late
  refuse (list_any (is_bad_post d) steps) bad_block
  refuse (list_any is_act steps) job_use
  refuse (nat_lt MOST_JOBS (length d.jobs + 1)) too_many
  refuse (nat_lt MOST_ITEMS (items_in d + items)) too_many
  refuse (nat_lt MOST_STEPS (steps_in d + length steps)) too_many
  let job : JobPlan = record { priority = priority; behaviour = behaviour; items = items; cap = cap; steps = steps }
  refuse (nat_lt MOST_EVENTS (events_in d + events_of_job job)) too_many
  Ok (record d { jobs = d.jobs ++ job ∷ [] })

-- ---- actions

-- an action more, if its ticks and entries keep the limits
abbrev pub acted : Draft → Action → Result Draft ℕ
acted d action = do
  refuse (nat_lt MOST_TICKS (ticks_in d + ticks_of action)) too_many
  refuse (nat_lt MOST_EVENTS (events_in d + events_of_action action)) too_many
  Ok (record d { actions = d.actions ++ action ∷ [] })

-- an action that posts, seen as a step that does: what it names was declared, its task was not posted, and it may
-- block there if it does
abbrev pub posted : Draft → Step → Action → Result Draft ℕ
posted d step action = do
  refuse (not (is_declared d step)) undeclared
  refuse (is_any_posted (posted_in d) (posts_of_step step)) posted_twice
  refuse (is_bad_post d step) bad_block
  acted d action

-- `post T R D`
unfoldable pub post_line : Draft → List (List ℕ) → Result Draft ℕ
post_line d words = do
  (task, (runner, (delay, _))) ← id_at words 0 & id_at words 1 & time_at words 2 & ends_at words 3
  posted d (PostStep task runner delay) (Post task runner delay)

-- `main T Q D`
unfoldable pub main_line : Draft → List (List ℕ) → Result Draft ℕ
main_line d words = do
  (task, (queue, (delay, _))) ← id_at words 0 & id_at words 1 & time_at words 2 & ends_at words 3
  posted d (MainStep task queue delay) (Main task queue delay)

-- `tick N`
unfoldable pub tick_line : Draft → List (List ℕ) → Result Draft ℕ
tick_line d words = do
  (n, _) ← number_at 1 65536 words 0 & ends_at words 1
  acted d (Tick n)

-- `policy all`, `policy foreground`, `policy none`
unfoldable pub policy_line : Draft → List (List ℕ) → Result Draft ℕ
policy_line d words = do
  (policy, _) ← name_at policy_named words 0 & ends_at words 1
  acted d (Policy policy)

-- `reprio R PRIORITY`: from here on the runner has this priority
unfoldable pub reprio_line : Draft → List (List ℕ) → Result Draft ℕ
reprio_line d words = do
  (runner, (priority, _)) ← id_at words 0 & name_at priority_named words 1 & ends_at words 2
  refuse (not (has_runner d runner)) undeclared
  acted d (Reprio runner priority)

-- `fence Q now`, `fence Q start`
unfoldable pub fence_line : Draft → List (List ℕ) → Result Draft ℕ
fence_line d words = do
  (queue, (place, _)) ← id_at words 0 & name_at fence_named words 1 & ends_at words 2
  refuse (not (has_queue d queue)) undeclared
  acted d (Fence queue place)

-- `unfence Q`
unfoldable pub unfence_line : Draft → List (List ℕ) → Result Draft ℕ
unfence_line d words = do
  (queue, _) ← id_at words 0 & ends_at words 1
  refuse (not (has_queue d queue)) undeclared
  acted d (Unfence queue)

-- `vote Q V on`, `vote Q V off`
unfoldable pub vote_line : Draft → List (List ℕ) → Result Draft ℕ
vote_line d words = do
  (queue, (voter, (on, _))) ← id_at words 0 & number_at 0 255 words 1 & name_at vote_named words 2 & ends_at words 3
  refuse (not (has_voter d queue voter)) undeclared
  acted d (Vote queue voter on)

-- `rank Q CLASS`
unfoldable pub rank_line : Draft → List (List ℕ) → Result Draft ℕ
rank_line d words = do
  (queue, (class, _)) ← id_at words 0 & number_at 0 7 words 1 & ends_at words 2
  refuse (not (has_queue d queue)) undeclared
  acted d (Rank queue class)

-- `close Q`
unfoldable pub close_line : Draft → List (List ℕ) → Result Draft ℕ
close_line d words = do
  (queue, _) ← id_at words 0 & ends_at words 1
  refuse (not (has_queue d queue)) undeclared
  acted d (Close queue)

-- `pump N`
unfoldable pub pump_line : Draft → List (List ℕ) → Result Draft ℕ
pump_line d words = do
  (n, _) ← number_at 1 16384 words 0 & ends_at words 1
  acted d (Pump n)

-- `flush`
unfoldable pub flush_line : Draft → List (List ℕ) → Result Draft ℕ
flush_line d words = do
  ends_at words 0
  acted d Flush

-- `startjob J`
unfoldable pub start_job_line : Draft → List (List ℕ) → Result Draft ℕ
start_job_line d words = do
  (job, _) ← id_at words 0 & ends_at words 1
  refuse (not (has_job d job)) undeclared
  refuse (is_started d job) job_use
  acted d (StartJob job)

-- `join J`
unfoldable pub join_line : Draft → List (List ℕ) → Result Draft ℕ
join_line d words = do
  (job, _) ← id_at words 0 & ends_at words 1
  refuse (not (has_job d job)) undeclared
  refuse (not (is_started d job)) job_use
  acted d (Join job)

-- `cancel J`
unfoldable pub cancel_line : Draft → List (List ℕ) → Result Draft ℕ
cancel_line d words = do
  (job, _) ← id_at words 0 & ends_at words 1
  refuse (not (has_job d job)) undeclared
  refuse (not (is_started d job)) job_use
  acted d (Cancel job)

-- `shutdown`
unfoldable pub shutdown_line : Draft → List (List ℕ) → Result Draft ℕ
shutdown_line d words = do
  ends_at words 0
  refuse (has_shutdown d) shutdown_twice
  acted d Shutdown

-- ---- a line

-- the line of an action that has to do with main queues or the clock
unfoldable pub queue_command_read : Draft → List ℕ → List (List ℕ) → Result Draft ℕ
queue_command_read d name words =
    if is_word name (codes "tick") then tick_line d words
    else (if is_word name (codes "fence") then fence_line d words
    else (if is_word name (codes "unfence") then unfence_line d words
    else (if is_word name (codes "vote") then vote_line d words
    else (if is_word name (codes "rank") then rank_line d words
    else (if is_word name (codes "close") then close_line d words
    else (if is_word name (codes "pump") then pump_line d words
    else Err unknown_word))))))

-- the line of an action
unfoldable pub action_command_read : Draft → List ℕ → List (List ℕ) → Result Draft ℕ
action_command_read d name words =
    if is_word name (codes "post") then post_line d words
    else (if is_word name (codes "main") then main_line d words
    else (if is_word name (codes "policy") then policy_line d words
    else (if is_word name (codes "reprio") then reprio_line d words
    else (if is_word name (codes "flush") then flush_line d words
    else (if is_word name (codes "startjob") then start_job_line d words
    else (if is_word name (codes "join") then join_line d words
    else (if is_word name (codes "cancel") then cancel_line d words
    else (if is_word name (codes "shutdown") then shutdown_line d words
    else queue_command_read d name words))))))))

-- a line, by its command and the words behind it
unfoldable pub command_read : Draft → List ℕ → List (List ℕ) → Result Draft ℕ
command_read d name words =
    if is_word name (codes "workers") then workers_line d words
    else (if is_word name (codes "groups") then groups_line d words
    else (if is_word name (codes "threshold") then threshold_line d words
    else (if is_word name (codes "runner") then runner_line d words
    else (if is_word name (codes "queue") then queue_line d words
    else (if is_word name (codes "task") then task_line d words
    else (if is_word name (codes "job") then job_line d words
    else action_command_read d name words))))))

-- a line, by its words; no words and a comment say nothing
unfoldable pub words_read : Draft → List ℕ → List (List ℕ) → Result Draft ℕ
words_read d line [] = Ok d
words_read d line (name ∷ words) =
    if begins_comment name then Ok d
    else (refuse (not (is_all_ascii line)) not_ascii >> command_read d name words)

-- a line, by its bytes
abbrev pub line_read : Draft → List ℕ → Result Draft ℕ
line_read d line = words_read d line (words_of line)
