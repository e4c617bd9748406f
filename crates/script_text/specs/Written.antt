-- The canonical text, piece by piece, and what putting a text to a sink leaves.
use Rattle.std.specs.Prelude.{◌≡◌, ℕ, ◌+◌, ◌≤◌, ◌==◌, if◌then◌else◌, List, [], ◌∷◌, ◌++◌, take, Option, Result, MatchResult, codes, decimal}
use Rattle.std.specs.List.{flat_map, join_with_byte}
use Rattle.line_text.specs.Words.{with_words}
use Rattle.task_base.specs.Plan.{Plan, JobPlan}
use Rattle.task_base.specs.declared.step.Step.{Step}
use Rattle.task_base.specs.declared.script.Runner.{Runner}
use Rattle.task_base.specs.declared.script.MainQueue.{MainQueue}
use Rattle.task_base.specs.declared.script.Action.{Action}
use Rattle.env_io.specs.Bytes.{Gains, Rose}
use Rattle.value_words.specs.Words.{priority_word, behaviour_word}
use Rattle.script_model.specs.Canonical.{step_words, runner_words, queue_words, task_words, job_words, action_words, config_lines}

-- a text with a line's words behind it, parted by single spaces
abbrev pub with_line : List ℕ → List (List ℕ) → List ℕ
with_line text [] = text
with_line text (word ∷ words) = with_words (text ++ word) words

-- a line of words: one space between each two, and a line feed
abbrev pub line_text : List (List ℕ) → List ℕ
line_text words = join_with_byte 32 words ++ 10 ∷ []

-- what stands before a step: a space, and `;` where it is not the first of its line
abbrev pub before_step : ℕ → List ℕ
before_step place = if place == 0 then codes " " else codes " ; "

-- a step as it stands in the line of a task or a job, by its place there
abbrev pub step_text : ℕ → Step → List ℕ
step_text place step = before_step place ++ join_with_byte 32 (step_words step)

-- the line of a runner, by its number
abbrev pub runner_text : ℕ → Runner → List ℕ
runner_text r runner = line_text (runner_words r runner)

-- the line of a main queue, by its number
abbrev pub queue_text : ℕ → MainQueue → List ℕ
queue_text q queue = line_text (queue_words q queue)

-- the line of a task, by its number
abbrev pub task_text : ℕ → List Step → List ℕ
task_text t steps = line_text (task_words t steps)

-- the line of a job, by its number
abbrev pub job_text : ℕ → JobPlan → List ℕ
job_text j job = line_text (job_words j job)

-- the line of a job up to its steps
abbrev pub job_head_text : ℕ → JobPlan → List ℕ
job_head_text j job =
    with_line [] (codes "job" ∷ decimal j ∷ priority_word job.priority ∷ behaviour_word job.behaviour ∷ decimal job.items ∷ decimal job.cap ∷ [])

-- the line of an action; its place does not matter
abbrev pub action_text : ℕ → Action → List ℕ
action_text place action = line_text (action_words action)

-- the lines of the configuration
abbrev pub config_text : Plan → List ℕ
config_text script = flat_map line_text (config_lines script)

-- the texts of elements from a place on, one behind the other
abbrev pub texts_from : {A : Type 0} → (ℕ → A → List ℕ) → ℕ → List A → List ℕ
texts_from text place [] = []
texts_from text place (x ∷ xs) = text place x ++ texts_from text (place + 1) xs

-- the text was put: the sink took it behind what it held, and counted no failure
pub record IsPut (held : Option (List ℕ)) (faults : ℕ) (text : List ℕ) (held_after : Option (List ℕ)) (faults_after : ℕ) : Type 0 where
  pub taken : Gains held text held_after
  pub steady : faults_after ≡ faults

-- a front of the text was put, and the count of failures rose
pub record IsCut (held : Option (List ℕ)) (faults : ℕ) (text : List ℕ) (held_after : Option (List ℕ)) (faults_after : ℕ) : Type 0 where
  pub kept : ℕ
  pub taken : Gains held (take kept text) held_after
  pub failed : Rose faults faults_after
  pub grown : faults ≤ faults_after

-- the text was put where the result is Ok, and otherwise cut
abbrev pub Puts : {S T E : Type 0} → (S → Option (List ℕ)) → (S → ℕ) → S → List ℕ → Result T E → S → Type 0
Puts holds faults before text result after =
    MatchResult result (λ _. IsPut (holds before) (faults before) text (holds after) (faults after))
    (λ _. IsCut (holds before) (faults before) text (holds after) (faults after))
