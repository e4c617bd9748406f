-- What the words of a line of a nest script say, if they have a form that there is (the forms are this project's own).
use Rattle.std.specs.Prelude.{ℕ, ◌-◌, ◌^◌, Bool, true, false, nat_le, ◌&&◌, if◌then◌else◌, List, [], ◌∷◌, map, codes, Option, Some, None}
use Rattle.std.specs.List.{slice_split}
use Rattle.std.specs.Option.{option_and_then}
use Rattle.script_model.specs.Words.{words_of, is_word, is_mark, begins_comment, number_of}
use Rattle.nested_loop.specs.declared.nest.NestStep.{NestStep}
use Rattle.nested_loop.specs.declared.nest.NestStep.TheVariants as steps
use Rattle.nested_loop.specs.declared.nest.NestAction.TheVariants as actions
use Rattle.nested_loop.specs.declared.limits.TheConstants.{MOST_LOOP_TASKS}
use Rattle.nested_loop.specs.declared.line.NestLine.{NestLine}
use Rattle.nested_loop.specs.declared.line.NestLine.TheVariants.{Nothing, Queue, Task, Act}

infixl 10 ◌>>=◌
-- the second, made of the value of the first, if there is one
abbrev pub ◌>>=◌ : {A B : Type 0} → Option A → (A → Option B) → Option B
o >>= f = option_and_then f o

-- ---- numbers

-- the number, if there is one and it is from low to high
abbrev pub within : ℕ → ℕ → Option ℕ → Option ℕ
within low high number = number >>= λ n. if nat_le low n && nat_le n high then Some n else None

-- the number from low to high that a word writes: one to 20 digits, also with zeros in front
unfoldable pub number_in : ℕ → ℕ → List ℕ → Option ℕ
number_in low high word = within low high (number_of word)

-- the number of a task or queue: 32 bits
abbrev pub id_of : List ℕ → Option ℕ
id_of word = number_in 0 (2 ^ 32 - 1) word

-- how many tasks a loop runs at most
abbrev pub bound_of : List ℕ → Option ℕ
bound_of word = number_in 1 MOST_LOOP_TASKS word

-- ---- steps

-- `say K`, a number of 64 bits
abbrev pub say_said : List (List ℕ) → Option NestStep
say_said (value ∷ []) = number_in 0 (2 ^ 64 - 1) value >>= λ k. Some (steps.Say k)
say_said words = None

-- a task and a queue, of a step or an action that posts
abbrev pub posting_said : List (List ℕ) → Option (ℕ × ℕ)
posting_said (task ∷ queue ∷ []) = id_of task >>= λ t. id_of queue >>= λ q. Some (t, q)
posting_said words = None

-- the bound of a loop, of a step or an action that runs one
abbrev pub bound_said : List (List ℕ) → Option ℕ
bound_said (bound ∷ []) = bound_of bound
bound_said words = None

-- a step, by its first word and the words behind it: `say K`, `post T Q` or `loop N`
unfoldable pub step_named : List ℕ → List (List ℕ) → Option NestStep
step_named name words =
    if is_word name (codes "say") then say_said words
    else (if is_word name (codes "post") then (posting_said words >>= λ p. Some (steps.Post p.0 p.1))
    else (if is_word name (codes "loop") then (bound_said words >>= λ n. Some (steps.Loop n))
    else None))

-- a step, by its words
abbrev pub step_said : List (List ℕ) → Option NestStep
step_said [] = None
step_said (name ∷ words) = step_named name words

-- all the values, if each is there
abbrev pub all_said : {A : Type 0} → List (Option A) → Option (List A)
all_said [] = Some []
all_said (o ∷ rest) = o >>= λ x. all_said rest >>= λ xs. Some (x ∷ xs)

-- no step, or steps parted by the word `;`
unfoldable pub steps_said : List (List ℕ) → Option (List NestStep)
steps_said [] = Some []
steps_said (word ∷ words) = all_said (map step_said (slice_split is_mark (word ∷ words)))

-- ---- lines

-- whether a task is nestable, by its word
abbrev pub nestable_named : List ℕ → Option Bool
nestable_named word =
    if is_word word (codes "nestable") then Some true
    else (if is_word word (codes "deferred") then Some false
    else None)

-- `queue Q CLASS`, a class from 0 to 7
abbrev pub queue_said : List (List ℕ) → Option NestLine
queue_said (number ∷ class ∷ []) = id_of number >>= λ q. number_in 0 7 class >>= λ c. Some (Queue q c)
queue_said words = None

-- `task T nestable STEPS`, `task T deferred STEPS`
unfoldable pub task_said : List (List ℕ) → Option NestLine
task_said (number ∷ kind ∷ words) = do
  t ← id_of number
  nestable ← nestable_named kind
  steps ← steps_said words
  Some (Task t (record { nestable = nestable; steps = steps }))
task_said words = None

-- a line without steps, by its command and the words behind it
abbrev pub nest_plain_said : List ℕ → List (List ℕ) → Option NestLine
nest_plain_said name words =
    if is_word name (codes "queue") then queue_said words
    else (if is_word name (codes "post") then (posting_said words >>= λ p. Some (Act (actions.Post p.0 p.1)))
    else (if is_word name (codes "run") then (bound_said words >>= λ n. Some (Act (actions.Run n)))
    else None))

-- a line, by its command and the words behind it
unfoldable pub command_said : List ℕ → List (List ℕ) → Option NestLine
command_said name words = if is_word name (codes "task") then task_said words else nest_plain_said name words

-- a line, by its words; no words and a comment say nothing
abbrev pub nest_words_said : List (List ℕ) → Option NestLine
nest_words_said [] = Some Nothing
nest_words_said (name ∷ words) = if begins_comment name then Some Nothing else command_said name words

-- a line, by its bytes; a byte above 127 is of no form
abbrev pub nest_line_said : List ℕ → Option NestLine
nest_line_said line = nest_words_said (words_of line)
