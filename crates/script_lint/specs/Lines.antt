-- What is wrong with a line whose words are right, by what stands before it. Where a reason holds of the line as a whole, the place
-- is that of its command.
use Rattle.std.specs.Prelude.{ℕ, ◌==◌, ◌||◌, Bool, true, false, is_some, if◌then◌else◌, List, [], ◌∷◌, length, slice_get, Option, Some, None}
use Rattle.std.specs.Option.{option_and_then, option_map}
use Rattle.task_base.specs.Plan.{Plan}
use Rattle.task_base.specs.declared.step.Step.{Step}
use Rattle.task_base.specs.declared.step.Step.TheVariants as steps
use Rattle.task_base.specs.declared.script.RunnerKind.{RunnerKind}
use Rattle.task_base.specs.declared.script.RunnerKind.TheVariants.{Single}
use Rattle.task_base.specs.declared.script.Action.{Action}
use Rattle.task_base.specs.declared.script.Action.TheVariants as actions
use Rattle.script_model.specs.Reasons.{out_of_order, undeclared, posted_twice, declaration_late, bad_block as bad_block_reason, job_use, shutdown_twice, config_twice, too_many as too_many_reason}
use Rattle.script_lines.specs.declared.command.Command.{Command}
use Rattle.script_lines.specs.declared.command.Command.TheVariants as commands
use Rattle.line_places.specs.declared.expected.Thing.TheVariants.{Runner, Queue, Task, Job}
use Rattle.lint_text.specs.declared.complaint.Complaint.TheVariants.{OutOfOrder, NoVoter, NoSeat, PostedTwice, Late, StartedBefore, NotStarted, StandsBefore, TooMany}
use Rattle.script_lint.specs.declared.earlier.Sought.{Sought}
use Rattle.script_lint.specs.declared.earlier.Sought.TheVariants as sought
use Rattle.lint_text.specs.declared.objection.Objection.{Objection}
use Rattle.script_lint.specs.declared.steps.Question.TheVariants.{Declared, Blocking, Computing}
use Rattle.script_lint.specs.Earlier.{first_line}
use Rattle.script_lint.specs.Limits.{limit_passed, most_of}
use Rattle.lint_text.specs.Objections.{at, none_of}
use Rattle.script_lint.specs.Posting.{posted_again}
use Rattle.script_lint.specs.Scopes.{block_in}
use Rattle.script_lint.specs.Steps.{first_step}

-- the number of a declaration is not the next one
abbrev pub order_objection : Plan → Command → Option Objection
order_objection script (commands.Runner number runner) = Some (at 2 (OutOfOrder Runner (length script.runners)))
order_objection script (commands.Queue number queue) = Some (at 2 (OutOfOrder Queue (length script.queues)))
order_objection script (commands.Task number task) = Some (at 2 (OutOfOrder Task (length script.tasks)))
order_objection script (commands.Job number job) = Some (at 2 (OutOfOrder Job (length script.jobs)))
order_objection script command = None

-- ---- what is not declared

-- a runner is for a worker seat that there is not
abbrev pub kind_objection : Plan → RunnerKind → Option Objection
kind_objection script (Single seat) = Some (at 3 (NoSeat script.workers))
kind_objection script kind = None

-- a queue is not declared, or has no such voter
abbrev pub voter_objection : Plan → ℕ → Objection
voter_objection script queue = elim (slice_get script.queues queue) as (λ _. Objection) [
  | None ↦ at 2 (none_of Queue (length script.queues))
  | Some declared ↦ at 3 (NoVoter declared.voters)
]

-- the step that posts what an action posts
abbrev pub posting_of : Action → Option Step
posting_of (actions.Post task runner delay) = Some (steps.Post task runner delay)
posting_of (actions.Main task queue delay) = Some (steps.Main task queue delay)
posting_of action = None

-- an action names something that is not declared
abbrev pub undeclared_act : Plan → Action → Option Objection
undeclared_act script (actions.Post task runner delay) = first_step script Declared (steps.Post task runner delay ∷ []) 1
undeclared_act script (actions.Main task queue delay) = first_step script Declared (steps.Main task queue delay ∷ []) 1
undeclared_act script (actions.Reprio runner priority) = Some (at 2 (none_of Runner (length script.runners)))
undeclared_act script (actions.Vote queue voter on) = Some (voter_objection script queue)
undeclared_act script (actions.Fence queue place) = Some (at 2 (none_of Queue (length script.queues)))
undeclared_act script (actions.Unfence queue) = Some (at 2 (none_of Queue (length script.queues)))
undeclared_act script (actions.Rank queue class) = Some (at 2 (none_of Queue (length script.queues)))
undeclared_act script (actions.Close queue) = Some (at 2 (none_of Queue (length script.queues)))
undeclared_act script (actions.StartJob job) = Some (at 2 (none_of Job (length script.jobs)))
undeclared_act script (actions.Join job) = Some (at 2 (none_of Job (length script.jobs)))
undeclared_act script (actions.Cancel job) = Some (at 2 (none_of Job (length script.jobs)))
undeclared_act script action = None

-- a command names something that is not declared: steps stand behind the task's number, and behind the job's five words
abbrev pub undeclared_in : Plan → Command → Option Objection
undeclared_in script (commands.Runner number runner) = kind_objection script runner.kind
undeclared_in script (commands.Task number task) = first_step script Declared task 3
undeclared_in script (commands.Job number job) = first_step script Declared job.steps 7
undeclared_in script (commands.Act action) = undeclared_act script action
undeclared_in script command = None

-- ---- what is posted and started

-- the place of a task that the command posts, and that is posted before, and the task
abbrev pub posted_place : Plan → Command → Option (ℕ × ℕ)
posted_place script (commands.Task number task) = posted_again script task 0 task 3
posted_place script (commands.Job number job) = posted_again script job.steps 0 job.steps 7
posted_place script (commands.Act action) = option_and_then (λ step. posted_again script (step ∷ []) 0 (step ∷ []) 1) (posting_of action)
posted_place script command = None

-- a command posts a task that is posted before
abbrev pub is_posted_twice : Plan → List ℕ → Command → Option Objection
is_posted_twice script front command =
    option_map (λ found. at found.0 (PostedTwice found.1 (first_line (sought.Posts found.1) front))) (posted_place script command)

-- scopes do not open and close in turn, or a task is posted where it must not block
abbrev pub bad_block : Plan → Command → Option Objection
bad_block script (commands.Task number task) = block_in script false task 3
bad_block script (commands.Job number job) = first_step script Blocking job.steps 7
bad_block script (commands.Act action) = option_and_then (λ step. first_step script Blocking (step ∷ []) 1) (posting_of action)
bad_block script command = None

-- the job is started before
abbrev pub started_before : List ℕ → ℕ → Objection
started_before front job = at 2 (StartedBefore job (first_line (sought.Starts job) front))

-- a step of a job does not compute, or a job is started before, or is not
abbrev pub is_start_wrong : Plan → List ℕ → Command → Option Objection
is_start_wrong script front (commands.Job number job) = first_step script Computing job.steps 7
is_start_wrong script front (commands.Act (actions.StartJob job)) = Some (started_before front job)
is_start_wrong script front (commands.Act (actions.Join job)) = Some (at 2 (NotStarted job))
is_start_wrong script front (commands.Act (actions.Cancel job)) = Some (at 2 (NotStarted job))
is_start_wrong script front command = None

-- ---- where a line stands

-- a command declares something
abbrev pub is_declaration : Command → Bool
is_declaration (commands.Runner number runner) = true
is_declaration (commands.Queue number queue) = true
is_declaration (commands.Task number task) = true
is_declaration (commands.Job number job) = true
is_declaration command = false

-- a line stands after an action, or after a declaration
abbrev pub late_at : Bool → Option ℕ → Objection
late_at action line = at 1 (Late action line)

-- the line that is declared before, if that is against the command: it configures
abbrev pub declared_before : List ℕ → Command → Option ℕ
declared_before front command = if is_declaration command then None else first_line sought.Declares front

-- a command declares after an action, or configures after a declaration
abbrev pub is_late : List ℕ → Command → Option Objection
is_late front command =
    if is_some (declared_before front command) then Some (late_at false (declared_before front command))
    else Some (late_at true (first_line sought.Acts front))

-- what is looked for that may stand once, as the command
abbrev pub once : Command → Option Sought
once (commands.Workers count) = Some sought.Workers
once (commands.Groups foreground foreground_best background) = Some sought.Groups
once (commands.Threshold microseconds) = Some sought.Threshold
once (commands.Act actions.Shutdown) = Some sought.ShutsDown
once command = None

-- a command stands before
abbrev pub stands_before : List ℕ → Command → Option Objection
stands_before front command = option_map (λ sought. at 1 (StandsBefore (first_line sought front))) (once command)

-- with a command a limit is passed
abbrev pub too_many : Plan → Command → Option Objection
too_many script command = Some (at 1 (TooMany (limit_passed script command) (most_of (limit_passed script command))))

-- ---- any of these

-- what is wrong with a command behind the script of the lines before it, whose bytes these are, by the reason
abbrev pub line_objection : Plan → List ℕ → Command → ℕ → Option Objection
line_objection script front command reason =
    if reason == out_of_order then order_objection script command
    else (if reason == undeclared then undeclared_in script command
    else (if reason == posted_twice then is_posted_twice script front command
    else (if reason == declaration_late then is_late front command
    else (if reason == bad_block_reason then bad_block script command
    else (if reason == job_use then is_start_wrong script front command
    else (if reason == shutdown_twice || reason == config_twice then stands_before front command
    else (if reason == too_many_reason then too_many script command
    else None)))))))
