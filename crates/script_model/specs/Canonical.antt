-- The canonical text of a script: one spelling for each.
use Rattle.std.specs.Prelude.{ℕ, ◌+◌, Bool, if◌then◌else◌, List, [], ◌∷◌, ◌++◌, drop, map, codes, decimal, flat_map}
use Rattle.std.specs.List.{join_with_byte}
use Rattle.task_base.specs.Plan.{Plan, JobPlan}
use Rattle.task_base.specs.declared.step.Step.{Step}
use Rattle.task_base.specs.declared.step.Step.TheVariants.{Add, Mul, Set, Post as PostStep, Main as MainStep, Block, Unblock}
use Rattle.task_base.specs.declared.script.Runner.{Runner}
use Rattle.task_base.specs.declared.script.MainQueue.{MainQueue}
use Rattle.task_base.specs.declared.script.Action.{Action}
use Rattle.task_base.specs.declared.script.Action.TheVariants.{Post, Main, Tick, Policy, Reprio, Fence, Unfence, Vote, Rank, Close, Pump, Flush, StartJob, Join, Cancel, Shutdown}
use Rattle.value_words.specs.Words.{priority_word, behaviour_word, policy_word, fence_word, scope_word, vote_word, kind_word}
use Rattle.script_model.specs.Grammar.{Reads}

-- the words of a step
abbrev pub step_words : Step → List (List ℕ)
step_words (Add by) = codes "add" ∷ decimal by ∷ []
step_words (Mul by) = codes "mul" ∷ decimal by ∷ []
step_words (Set to) = codes "set" ∷ decimal to ∷ []
step_words (PostStep task runner delay) = codes "post" ∷ decimal task ∷ decimal runner ∷ decimal delay ∷ []
step_words (MainStep task queue delay) = codes "main" ∷ decimal task ∷ decimal queue ∷ decimal delay ∷ []
step_words (Block scope) = codes "block" ∷ scope_word scope ∷ []
step_words Unblock = codes "unblock" ∷ []

-- the words of steps, with `;` between each two
abbrev pub steps_words : List Step → List (List ℕ)
steps_words steps = drop 1 (flat_map (λ step. codes ";" ∷ step_words step) steps)

-- `mayblock`, where it is said
abbrev pub may_block_words : Bool → List (List ℕ)
may_block_words may_block = if may_block then codes "mayblock" ∷ [] else []

-- the line of a runner, by its number
abbrev pub runner_words : ℕ → Runner → List (List ℕ)
runner_words r runner = codes "runner" ∷ decimal r ∷ kind_word runner.kind ∷ priority_word runner.traits.priority ∷ behaviour_word runner.traits.behaviour ∷
    may_block_words runner.traits.may_block

-- the line of a main queue, by its number
abbrev pub queue_words : ℕ → MainQueue → List (List ℕ)
queue_words q queue = codes "queue" ∷ decimal q ∷ decimal queue.class ∷ decimal queue.voters ∷ []

-- the line of a task, by its number
abbrev pub task_words : ℕ → List Step → List (List ℕ)
task_words t steps = codes "task" ∷ decimal t ∷ steps_words steps

-- the line of a job, by its number
abbrev pub job_words : ℕ → JobPlan → List (List ℕ)
job_words j job = codes "job" ∷ decimal j ∷ priority_word job.priority ∷ behaviour_word job.behaviour ∷ decimal job.items ∷ decimal job.cap ∷ steps_words
    job.steps

-- the line of an action
abbrev pub action_words : Action → List (List ℕ)
action_words (Post task runner delay) = codes "post" ∷ decimal task ∷ decimal runner ∷ decimal delay ∷ []
action_words (Main task queue delay) = codes "main" ∷ decimal task ∷ decimal queue ∷ decimal delay ∷ []
action_words (Tick count) = codes "tick" ∷ decimal count ∷ []
action_words (Policy policy) = codes "policy" ∷ policy_word policy ∷ []
action_words (Reprio runner priority) = codes "reprio" ∷ decimal runner ∷ priority_word priority ∷ []
action_words (Fence queue place) = codes "fence" ∷ decimal queue ∷ fence_word place ∷ []
action_words (Unfence queue) = codes "unfence" ∷ decimal queue ∷ []
action_words (Vote queue voter on) = codes "vote" ∷ decimal queue ∷ decimal voter ∷ vote_word on ∷ []
action_words (Rank queue class) = codes "rank" ∷ decimal queue ∷ decimal class ∷ []
action_words (Close queue) = codes "close" ∷ decimal queue ∷ []
action_words (Pump count) = codes "pump" ∷ decimal count ∷ []
action_words Flush = codes "flush" ∷ []
action_words (StartJob job) = codes "startjob" ∷ decimal job ∷ []
action_words (Join job) = codes "join" ∷ decimal job ∷ []
action_words (Cancel job) = codes "cancel" ∷ decimal job ∷ []
action_words Shutdown = codes "shutdown" ∷ []

-- the configuration, all of it
abbrev pub config_lines : Plan → List (List (List ℕ))
config_lines script =
    (codes "workers" ∷ decimal script.workers ∷ [])
    ∷ (codes "groups" ∷ decimal script.foreground ∷ decimal script.foreground_best ∷ decimal script.background ∷ [])
    ∷ (codes "threshold" ∷ decimal script.threshold ∷ [])
    ∷ []

-- a line for each element, by its number, from this number on
abbrev pub numbered : {A : Type 0} → (ℕ → A → List (List ℕ)) → ℕ → List A → List (List (List ℕ))
numbered line n [] = []
numbered line n (x ∷ xs) = line n x ∷ numbered line (n + 1) xs

-- the lines of a script, as words: the configuration, all runners, all queues, all tasks, all jobs, and the actions
-- in order (this project's own order)
abbrev pub canonical_lines : Plan → List (List (List ℕ))
canonical_lines script =
    config_lines script ++ numbered runner_words 0 script.runners ++ numbered queue_words 0 script.queues ++ numbered task_words 0 script.tasks
    ++ numbered job_words 0 script.jobs ++ map action_words script.actions

-- the canonical text: words parted by one space, and a line feed behind each line (this project's own form)
abbrev pub canonical : Plan → List ℕ
canonical script = flat_map (λ words. join_with_byte 32 words ++ 10 ∷ []) (canonical_lines script)

-- the script is what its canonical text says (this project's own notion)
abbrev pub IsValid : Plan → Type 0
IsValid script = Reads (canonical script) script
