-- What is wrong with a reply, by what stands before it.
use Rattle.std.specs.Prelude.{ℕ, ◌+◌, ◌==◌, not, nat_lt, if◌then◌else◌, List, length, Option, Some, None}
use Rattle.task_base.specs.Plan.{Plan}
use Rattle.task_base.specs.declared.limits.TheConstants.{MOST_STEPS, MOST_EVENTS}
use Rattle.script_model.specs.Bound.{events_bound_of}
use Rattle.line_places.specs.declared.expected.Thing.TheVariants as things
use Rattle.lint_text.specs.declared.complaint.Complaint.{Complaint}
use Rattle.lint_text.specs.declared.complaint.Complaint.TheVariants.{NotBefore, PostedTwice, PostedByScript, MayNotBlock, TooMany, Breaks}
use Rattle.lint_text.specs.declared.complaint.Limited.{Limited}
use Rattle.lint_text.specs.declared.complaint.Limited.TheVariants.{Steps, Entries}
use Rattle.lint_text.specs.declared.objection.Objection.{Objection}
use Rattle.lint_text.specs.Objections.{at, none_of}
use Rattle.task_reply.specs.declared.reply.Home.{Home}
use Rattle.task_reply.specs.declared.reply.Home.TheVariants.{Runner, Queue}
use Rattle.task_reply.specs.declared.reply.Reply.{Reply}
use Rattle.task_reply.specs.Replies.{reply_undeclared, reply_posted_twice, reply_bad_block, reply_too_many}
use Rattle.reply_lint.specs.Earlier.{first_reply, replies_in}

-- the home is not declared
abbrev pub undeclared_home : Plan → Home → Complaint
undeclared_home script (Runner runner) = none_of things.Runner (length script.runners)
undeclared_home script (Queue queue) = none_of things.Queue (length script.queues)

-- a task or the home is not declared, or the reply not before the task
abbrev pub undeclared : Plan → Reply → Objection
undeclared script reply =
    if not (nat_lt reply.task (length script.tasks)) then at 2 (none_of things.Task (length script.tasks))
    else (if not (nat_lt reply.reply (length script.tasks)) then at 3 (none_of things.Task (length script.tasks))
    else (if not (nat_lt reply.reply reply.task) then at 3 (NotBefore reply.task)
    else at 5 (undeclared_home script reply.home)))

-- the task is posted, by the earlier line of this number, or by the script where there is none
abbrev pub posted_by : ℕ → Option ℕ → Complaint
posted_by task None = PostedByScript task
posted_by task (Some line) = PostedTwice task (Some line)

-- the runner, where the home is one
abbrev pub runner_of : Home → Option ℕ
runner_of (Runner runner) = Some runner
runner_of (Queue queue) = None

-- what there is too much of with one reply more, each of which is a step and an entry, and how many there may be
abbrev pub limit_passed : Plan → List ℕ → Limited × ℕ
limit_passed script front =
    if nat_lt MOST_EVENTS (events_bound_of script + replies_in front + 1) then (Entries, MOST_EVENTS) else (Steps, MOST_STEPS)

-- with one reply more a limit is passed
abbrev pub too_many : Plan → List ℕ → Objection
too_many script front = at 1 (TooMany (limit_passed script front).0 (limit_passed script front).1)

-- what is wrong with a reply behind the lines before it, whose bytes these are, by the reason
abbrev pub reply_objection : Plan → List ℕ → Reply → ℕ → Objection
reply_objection script front reply reason =
    if reason == reply_undeclared then undeclared script reply
    else (if reason == reply_posted_twice then at 3 (posted_by reply.reply (first_reply front reply.reply))
    else (if reason == reply_bad_block then at 3 (MayNotBlock reply.reply (runner_of reply.home))
    else (if reason == reply_too_many then too_many script front
    else at 1 (Breaks reason))))
