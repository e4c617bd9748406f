-- What the past and the script have to do with an entry that may not come, as lines of plain words (this project's own).
use Rattle.std.specs.Prelude.{ℕ, List, ◌++◌, codes, decimal, flat_map}
use Rattle.log_model.specs.LogText.{line_of}
use Rattle.task_traits.specs.declared.traits.Behaviour.{Behaviour}
use Rattle.task_traits.specs.declared.traits.Priority.{Priority}
use Rattle.value_words.specs.Words.{behaviour_word, priority_word}
use Rattle.log_context.specs.declared.fact.Fact.{Fact}
use Rattle.log_context.specs.declared.fact.Fact.TheVariants as facts
use Rattle.log_context.specs.declared.fact.Limit.{Limit}
use Rattle.log_context.specs.declared.fact.Limit.TheVariants as limits
use Rattle.log_context.specs.declared.fact.Role.{Role}
use Rattle.log_context.specs.declared.fact.Role.TheVariants as roles

-- what an entry is to the one that may not come
abbrev pub role_words : Role → List ℕ
role_words roles.Itself = codes "the line is: "
role_words roles.Taken = codes "the task was taken before: "
role_words roles.Posted = codes "it was posted by: "
role_words roles.Runs = codes "its sequence runs on another seat: "
role_words roles.Due = codes "the task that is due instead was posted by: "
role_words roles.Left = codes "the value that is found there was left by: "
role_words roles.Busy = codes "this seat is at work since: "
role_words roles.Elsewhere = codes "the task was taken by another seat: "
role_words roles.Ended = codes "the task ended before: "
role_words roles.Policy = codes "the policy that holds it back was set by: "
role_words roles.Shutdown = codes "shutdown was started by: "
role_words roles.Moment = codes "the clock was last read by: "
role_words roles.Cancelled = codes "the job was cancelled by: "
role_words roles.Fence = codes "the fence of the queue was set by: "
role_words roles.Off = codes "a voter of the queue was switched off by: "
role_words roles.Closed = codes "the queue was closed by: "
role_words roles.Before = codes "it would have been allowed before: "
role_words roles.After = codes "it would have been allowed after: "
role_words roles.Works = codes "still at work since: "
role_words roles.Waiting = codes "this waits to be taken: "
role_words roles.Blocks = codes "this blocks the end of shutdown: "

-- a number between words
abbrev pub around : List ℕ → ℕ → List ℕ → List ℕ
around before number after = before ++ decimal number ++ after

-- two numbers between words
abbrev pub around_two : List ℕ → ℕ → List ℕ → ℕ → List ℕ → List ℕ
around_two before first between second after = around before first (around between second after)

-- a number and a word between words
abbrev pub worded : List ℕ → ℕ → List ℕ → List ℕ → List ℕ → List ℕ
worded before number between word after = around before number (between ++ word ++ after)

-- the line of a task that is not posted
abbrev pub unposted_line : ℕ → List ℕ
unposted_line task = around (codes "no entry before it posts task ") task (codes "\n")

-- the line of the only seat that a runner has
abbrev pub single_line : ℕ → ℕ → List ℕ
single_line runner seat = around_two (codes "runner ") runner (codes " is that of seat ") seat (codes " alone\n")

-- the line of two priorities
abbrev pub priorities_line : ℕ → Priority → ℕ → Priority → List ℕ
priorities_line runner priority best higher =
    worded (codes "runner ") runner (codes " has priority ") (priority_word priority) (codes ", ")
    ++ worded (codes "and runner ") best (codes " has priority ") (priority_word higher) (codes "\n")

-- the line of the limits
abbrev pub limits_line : ℕ → ℕ → ℕ → List ℕ
limits_line foreground best_effort background =
    around_two (codes "the limits are: foreground ") foreground (codes ", of which best_effort ") best_effort (codes ", ")
    ++ around (codes "background ") background (codes "\n")

-- the work that a limit is of
abbrev pub limit_words : Limit → List ℕ
limit_words limits.Foreground = codes "work of the foreground: "
limit_words limits.BestEffort = codes "best_effort work of the foreground: "
limit_words limits.Background = codes "work of the background: "

-- the line of what runs by a limit
abbrev pub room_line : Limit → ℕ → ℕ → List ℕ
room_line limit running most = around_two (limit_words limit) running (codes " of ") most (codes " run\n")

-- the line of what shutdown does with a runner's tasks
abbrev pub behaves_line : ℕ → Behaviour → List ℕ
behaves_line runner behaviour = worded (codes "runner ") runner (codes " has shutdown behaviour ") (behaviour_word behaviour) (codes "\n")

-- the line of a fact
abbrev pub fact_line : Fact → List ℕ
fact_line (facts.Stands role place e) = role_words role ++ line_of place e
fact_line (facts.Unposted task) = unposted_line task
fact_line (facts.Single runner seat) = single_line runner seat
fact_line (facts.Priorities runner priority best higher) = priorities_line runner priority best higher
fact_line (facts.Limits foreground best_effort background) = limits_line foreground best_effort background
fact_line (facts.Room limit running most) = room_line limit running most
fact_line (facts.Behaves runner behaviour) = behaves_line runner behaviour
fact_line (facts.MayTake place e) = codes "it may be taken by: " ++ line_of place e

-- what was told of a log, and after it a line for each fact
abbrev pub with_lines : List ℕ → List Fact → List ℕ
with_lines told known = told ++ flat_map fact_line known
