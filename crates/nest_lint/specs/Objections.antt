-- What is wrong with a line whose words are right, by what stands before it.
use Rattle.std.specs.Prelude.{ℕ, suc, ◌==◌, Bool, true, false, not, ◌||◌, nat_lt, is_some, if◌then◌else◌, List, [], ◌∷◌, length, codes, Option, Some, None, option_and_then}
use Rattle.task_base.specs.declared.limits.TheConstants.{MOST_QUEUES}
use Rattle.script_model.specs.Words.{words_of, is_word}
use Rattle.line_places.specs.declared.expected.Thing.{Thing}
use Rattle.line_places.specs.declared.expected.Thing.TheVariants as things
use Rattle.line_places.specs.Words.{command_of, id_of}
use Rattle.lint_text.specs.declared.complaint.Complaint.{Complaint}
use Rattle.lint_text.specs.declared.complaint.Complaint.TheVariants.{OutOfOrder, PostedTwice, Late, TooMany}
use Rattle.lint_text.specs.declared.complaint.Limited.{Limited}
use Rattle.lint_text.specs.declared.complaint.Limited.TheVariants.{Queues, Tasks, Steps, Actions}
use Rattle.lint_text.specs.declared.objection.Objection.{Objection}
use Rattle.lint_text.specs.Objections.{at, none_of}
use Rattle.nested_loop.specs.declared.limits.TheConstants.{MOST_NEST_TASKS, MOST_NEST_STEPS, MOST_NEST_ACTIONS}
use Rattle.nested_loop.specs.Plan.{NestPlan}
use Rattle.nested_loop.specs.NestReasons.{nest_out_of_order, nest_undeclared, nest_posted_twice, late, nest_too_many}
use Rattle.nest_lint.specs.declared.earlier.Sought.TheVariants.{Posts, Acts}
use Rattle.nest_lint.specs.declared.posts.Part.{Part}
use Rattle.nest_lint.specs.declared.posts.Part.TheVariants.{Task, Queue, Other}
use Rattle.nest_lint.specs.Earlier.{first_line}
use Rattle.nest_lint.specs.Posts.{part_behind, posting_place}

-- ---- declarations

-- what a declaration declares, and how many of them there are
abbrev pub declared : NestPlan → List ℕ → Thing × ℕ
declared nest command = if is_word command (codes "queue") then (things.Queue, length nest.classes) else (things.Task, length nest.tasks)

-- the number of a declaration is not the next one
abbrev pub order_objection : NestPlan → List ℕ → Objection
order_objection nest command = at 2 (OutOfOrder (declared nest command).0 (declared nest command).1)

-- ---- what is named

-- of so many things this is none
abbrev pub not_among : Thing → ℕ → Option ℕ → Option Complaint
not_among of count None = None
not_among of count (Some id) = if nat_lt id count then None else Some (none_of of count)

-- the task or queue that a word is, is not declared
abbrev pub undeclared_word : NestPlan → Part → List ℕ → Option Complaint
undeclared_word nest Task word = not_among things.Task (length nest.tasks) (id_of word)
undeclared_word nest Queue word = not_among things.Queue (length nest.classes) (id_of word)
undeclared_word nest Other word = None

-- the first task or queue of words, from this place on, that is not declared
unfoldable pub undeclared_from : NestPlan → Part → List (List ℕ) → ℕ → Option Objection
undeclared_from nest part [] place = None
undeclared_from nest part (word ∷ words) place = elim (undeclared_word nest part word) as (λ _. Option Objection) [
  | None ↦ undeclared_from nest (part_behind part word) words (suc place)
  | Some complaint ↦ Some (at place complaint)
]

-- the first task or queue of a line that is not declared
abbrev pub undeclared_in : NestPlan → List ℕ → Option Objection
undeclared_in nest line = undeclared_from nest Other (words_of line) 1

-- ---- what is posted

-- there is a place, and it stands before this one
abbrev pub is_before : Option ℕ → ℕ → Bool
is_before None place = false
is_before (Some first) place = nat_lt first place

-- the task is posted by the lines before a line, or by the line itself before this place
abbrev pub posted_again : List ℕ → List ℕ → ℕ → ℕ → Option Complaint
posted_again front line task place =
    if is_some (first_line (Posts task) front) || is_before (posting_place line task) place
    then Some (PostedTwice task (first_line (Posts task) front)) else None

-- a word is a task that is posted before it
abbrev pub posted_word : List ℕ → List ℕ → Part → List ℕ → ℕ → Option Complaint
posted_word front line Task word place = option_and_then (λ task. posted_again front line task place) (id_of word)
posted_word front line part word place = None

-- the first task of words, from this place on, that is posted before it
unfoldable pub posted_from : List ℕ → List ℕ → Part → List (List ℕ) → ℕ → Option Objection
posted_from front line part [] place = None
posted_from front line part (word ∷ words) place = elim (posted_word front line part word place) as (λ _. Option Objection) [
  | None ↦ posted_from front line (part_behind part word) words (suc place)
  | Some complaint ↦ Some (at place complaint)
]

-- the first task that a line posts, and that the lines before it post, or the line itself before
abbrev pub posted_in : List ℕ → List ℕ → Option Objection
posted_in front line = posted_from front line Other (words_of line) 1

-- ---- limits

-- what there is too much of with a line of this command, and how many there may be
abbrev pub limit_passed : NestPlan → List ℕ → Limited × ℕ
limit_passed nest command =
    if is_word command (codes "queue") then (Queues, MOST_QUEUES)
    else (if not (is_word command (codes "task")) then (Actions, MOST_NEST_ACTIONS)
    else (if nat_lt (length nest.tasks) MOST_NEST_TASKS then (Steps, MOST_NEST_STEPS)
    else (Tasks, MOST_NEST_TASKS)))

-- with the line a limit is passed
abbrev pub too_many : NestPlan → List ℕ → Objection
too_many nest command = at 1 (TooMany (limit_passed nest command).0 (limit_passed nest command).1)

-- ---- any of these

-- what is wrong with a line behind the nest of the lines before it, whose bytes these are, by the reason
abbrev pub nest_objection : NestPlan → List ℕ → List ℕ → ℕ → Option Objection
nest_objection nest front line reason =
    if reason == nest_out_of_order then Some (order_objection nest (command_of line))
    else (if reason == nest_undeclared then undeclared_in nest line
    else (if reason == nest_posted_twice then posted_in front line
    else (if reason == late then Some (at 1 (Late true (first_line Acts front)))
    else (if reason == nest_too_many then Some (too_many nest (command_of line))
    else None))))
