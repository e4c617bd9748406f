-- The exit status and the note of each failure.
use Rattle.std.specs.Prelude.{ℕ, Bool, true, false, List, [], ◌++◌, codes}
use Rattle.task_base.specs.Fault.{note_of, status_of}
use Rattle.task_base.specs.declared.fault.Fault.TheVariants.{NotLegal}
use Rattle.open_check.specs.Plans.{plan_note}
use Rattle.order_answer.specs.Bad.{bad_note}
use Rattle.task_reply.specs.Fault.{bad_replies_note}
use Rattle.nested_loop.specs.NestReasons.{nest_note_of}
use Rattle.nested_loop.specs.declared.fault.NestFault.TheVariants.{Bad}
use Rattle.app_modes.specs.declared.failure.Failure.{Failure}
use Rattle.app_modes.specs.declared.failure.Failure.TheVariants.{Common, Linted, NoOrder, GaveUp, BadEvents, BadPlan, NotTraced, BadReplies, BadNest}

-- the status that a failure ends a command with (this project's own rule)
abbrev pub failure_status : Failure → ℕ
failure_status (Common fault) = status_of fault
failure_status Linted = 1
failure_status NoOrder = 1
failure_status GaveUp = 8
failure_status (BadEvents bad) = 3
failure_status (BadPlan bad) = 3
failure_status (NotTraced line) = 1
failure_status (BadReplies line reason) = 3
failure_status (BadNest line reason) = 3

-- what is told of a failure, without a line feed (this project's own rule)
abbrev pub failure_note : Failure → List ℕ
failure_note (Common fault) = note_of fault
failure_note Linted = []
failure_note NoOrder = []
failure_note GaveUp = []
failure_note (BadEvents bad) = bad_note bad
failure_note (BadPlan bad) = plan_note bad
failure_note (NotTraced line) = note_of (NotLegal line)
failure_note (BadReplies line reason) = bad_replies_note line reason
failure_note (BadNest line reason) = nest_note_of (Bad line reason)

-- the note of a failure, with its line feed. A verdict has none, since it is written to the sink
abbrev pub note_line : Failure → List ℕ
note_line (Common (NotLegal line)) = []
note_line Linted = []
note_line NoOrder = []
note_line GaveUp = []
note_line failure = failure_note failure ++ codes "\n"

-- it is a verdict, which is written: a log is not legal, an input is none, or no order was found
abbrev pub is_verdict : Failure → Bool
is_verdict (Common (NotLegal line)) = true
is_verdict Linted = true
is_verdict NoOrder = true
is_verdict GaveUp = true
is_verdict failure = false
