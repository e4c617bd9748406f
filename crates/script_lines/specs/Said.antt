-- What a line of a script says by its words alone: the command with its values, or the least reason that its words
-- give. (The lines are this project's own.)
use Rattle.std.specs.Prelude.{ℕ, not, nat_lt, if◌then◌else◌, List, [], ◌∷◌, drop, codes, Result, Ok, Err}
use Rattle.task_base.specs.declared.script.Action.{Action}
use Rattle.task_base.specs.declared.script.Action.TheVariants.{Post, Main, Tick, Policy, Reprio, Fence, Unfence, Vote, Rank, Close, Pump, Flush, StartJob, Join, Cancel, Shutdown}
use Rattle.task_base.specs.declared.limits.TheConstants.{MOST_WORKERS}
use Rattle.script_model.specs.Words.{words_of, is_word, begins_comment, is_all_ascii}
use Rattle.script_model.specs.Reasons.{◌>>=◌, ◌>>◌, ◌&◌, refuse, not_ascii, unknown_word, out_of_range}
use Rattle.value_words.specs.Words.{priority_named, behaviour_named, policy_named, fence_named, vote_named}
use Rattle.script_model.specs.Places.{said_at, name_at, ends_at, number_at, id_at, time_at, kind_named, may_block_at, steps_read}
use Rattle.script_lines.specs.declared.command.Command.{Command}
use Rattle.script_lines.specs.declared.command.Command.TheVariants as commands

-- ---- configuration

-- `workers N`
unfoldable pub workers_said : List (List ℕ) → Result Command ℕ
workers_said words = do
  (n, _) ← number_at 1 MOST_WORKERS words 0 & ends_at words 1
  Ok (commands.Workers n)

-- `groups F FB B`
unfoldable pub groups_said : List (List ℕ) → Result Command ℕ
groups_said words = do
  (f, (fb, (b, _))) ← number_at 1 64 words 0 & number_at 1 64 words 1 & number_at 0 64 words 2 & ends_at words 3
  refuse (nat_lt f fb) out_of_range
  Ok (commands.Groups f fb b)

-- `threshold U`
unfoldable pub threshold_said : List (List ℕ) → Result Command ℕ
threshold_said words = do
  (u, _) ← time_at words 0 & ends_at words 1
  Ok (commands.Threshold u)

-- ---- declarations

-- `runner R KIND PRIORITY BEHAVIOUR`, with `mayblock` at the end or without it
unfoldable pub runner_said : List (List ℕ) → Result Command ℕ
runner_said words = do
  (r, (kind, (priority, (behaviour, (may_block, _))))) ← id_at words 0 & said_at kind_named words 1 & name_at priority_named words 2 & name_at behaviour_named
      words 3 & may_block_at words 4 & ends_at words 5
  Ok (commands.Runner r (record { kind = kind; traits = record { priority = priority; behaviour = behaviour; may_block = may_block } }))

-- `queue Q CLASS VOTERS`
unfoldable pub queue_said : List (List ℕ) → Result Command ℕ
queue_said words = do
  (q, (class, (voters, _))) ← id_at words 0 & number_at 0 7 words 1 & number_at 0 16 words 2 & ends_at words 3
  Ok (commands.Queue q (record { class = class; voters = voters }))

-- `task T STEPS`
unfoldable pub task_said : List (List ℕ) → Result Command ℕ
task_said words = do
  (t, steps) ← id_at words 0 & steps_read (drop 1 words)
  Ok (commands.Task t steps)

-- `job J PRIORITY BEHAVIOUR ITEMS CAP STEPS`
unfoldable pub job_said : List (List ℕ) → Result Command ℕ
job_said words = do
  (j, (priority, (behaviour, (items, (cap, steps))))) ← id_at words 0 & name_at priority_named words 1 & name_at behaviour_named words 2 & number_at 0 65536
      words 3 & number_at 1 64 words 4 & steps_read (drop 5 words)
  Ok (commands.Job j (record { priority = priority; behaviour = behaviour; items = items; cap = cap; steps = steps }))

-- ---- actions

-- `post T R D`
unfoldable pub post_said : List (List ℕ) → Result Command ℕ
post_said words = do
  (task, (runner, (delay, _))) ← id_at words 0 & id_at words 1 & time_at words 2 & ends_at words 3
  Ok (commands.Act (Post task runner delay))

-- `main T Q D`
unfoldable pub main_said : List (List ℕ) → Result Command ℕ
main_said words = do
  (task, (queue, (delay, _))) ← id_at words 0 & id_at words 1 & time_at words 2 & ends_at words 3
  Ok (commands.Act (Main task queue delay))

-- an action of one number from low to high
abbrev pub number_said : (ℕ → Action) → ℕ → ℕ → List (List ℕ) → Result Command ℕ
number_said made low high words = do
  (n, _) ← number_at low high words 0 & ends_at words 1
  Ok (commands.Act (made n))

-- an action of one id
abbrev pub id_said : (ℕ → Action) → List (List ℕ) → Result Command ℕ
id_said made words = do
  (id, _) ← id_at words 0 & ends_at words 1
  Ok (commands.Act (made id))

-- an action without arguments
abbrev pub bare_said : Action → List (List ℕ) → Result Command ℕ
bare_said action words = ends_at words 0 >> Ok (commands.Act action)

-- `policy all`, `policy foreground`, `policy none`
unfoldable pub policy_said : List (List ℕ) → Result Command ℕ
policy_said words = do
  (policy, _) ← name_at policy_named words 0 & ends_at words 1
  Ok (commands.Act (Policy policy))

-- `reprio R PRIORITY`
unfoldable pub reprio_said : List (List ℕ) → Result Command ℕ
reprio_said words = do
  (runner, (priority, _)) ← id_at words 0 & name_at priority_named words 1 & ends_at words 2
  Ok (commands.Act (Reprio runner priority))

-- `fence Q now`, `fence Q start`
unfoldable pub fence_said : List (List ℕ) → Result Command ℕ
fence_said words = do
  (queue, (place, _)) ← id_at words 0 & name_at fence_named words 1 & ends_at words 2
  Ok (commands.Act (Fence queue place))

-- `vote Q V on`, `vote Q V off`
unfoldable pub vote_said : List (List ℕ) → Result Command ℕ
vote_said words = do
  (queue, (voter, (on, _))) ← id_at words 0 & number_at 0 255 words 1 & name_at vote_named words 2 & ends_at words 3
  Ok (commands.Act (Vote queue voter on))

-- `rank Q CLASS`
unfoldable pub rank_said : List (List ℕ) → Result Command ℕ
rank_said words = do
  (queue, (class, _)) ← id_at words 0 & number_at 0 7 words 1 & ends_at words 2
  Ok (commands.Act (Rank queue class))

-- ---- a line

-- the line of an action that has to do with main queues or the clock
unfoldable pub queue_command_said : List ℕ → List (List ℕ) → Result Command ℕ
queue_command_said name words =
    if is_word name (codes "tick") then number_said Tick 1 65536 words
    else (if is_word name (codes "fence") then fence_said words
    else (if is_word name (codes "unfence") then id_said Unfence words
    else (if is_word name (codes "vote") then vote_said words
    else (if is_word name (codes "rank") then rank_said words
    else (if is_word name (codes "close") then id_said Close words
    else (if is_word name (codes "pump") then number_said Pump 1 16384 words
    else Err unknown_word))))))

-- the line of an action
unfoldable pub action_command_said : List ℕ → List (List ℕ) → Result Command ℕ
action_command_said name words =
    if is_word name (codes "post") then post_said words
    else (if is_word name (codes "main") then main_said words
    else (if is_word name (codes "policy") then policy_said words
    else (if is_word name (codes "reprio") then reprio_said words
    else (if is_word name (codes "flush") then bare_said Flush words
    else (if is_word name (codes "startjob") then id_said StartJob words
    else (if is_word name (codes "join") then id_said Join words
    else (if is_word name (codes "cancel") then id_said Cancel words
    else (if is_word name (codes "shutdown") then bare_said Shutdown words
    else queue_command_said name words))))))))

-- a line, by its command and the words behind it
unfoldable pub command_said : List ℕ → List (List ℕ) → Result Command ℕ
command_said name words =
    if is_word name (codes "workers") then workers_said words
    else (if is_word name (codes "groups") then groups_said words
    else (if is_word name (codes "threshold") then threshold_said words
    else (if is_word name (codes "runner") then runner_said words
    else (if is_word name (codes "queue") then queue_said words
    else (if is_word name (codes "task") then task_said words
    else (if is_word name (codes "job") then job_said words
    else action_command_said name words))))))

-- a line, by its words; no words and a comment say nothing
unfoldable pub words_said : List ℕ → List (List ℕ) → Result Command ℕ
words_said line [] = Ok commands.Nothing
words_said line (name ∷ words) =
    if begins_comment name then Ok commands.Nothing
    else (refuse (not (is_all_ascii line)) not_ascii >> command_said name words)

-- a line, by its bytes
abbrev pub line_said : List ℕ → Result Command ℕ
line_said line = words_said line (words_of line)
