-- What is said of bytes that are no replies of a script.
use Rattle.std.specs.Prelude.{ℕ, ◌-◌, ◌==◌, if◌then◌else◌, List, codes, Option, Some, None, option_map}
use Rattle.task_base.specs.Plan.{Plan}
use Rattle.line_places.specs.declared.expected.Language.TheVariants.{Replies}
use Rattle.line_places.specs.Bytes.{front_of, line_at}
use Rattle.lint_text.specs.declared.complaint.Complaint.TheVariants.{Breaks}
use Rattle.lint_text.specs.declared.objection.Objection.{Objection}
use Rattle.lint_text.specs.Objections.{at, by_words, objection_line}
use Rattle.task_reply.specs.declared.reply.Reply.{Reply}
use Rattle.task_reply.specs.Replies.{bad_reply_line, reply_fault}
use Rattle.reply_lint.specs.Said.{reply_in}
use Rattle.reply_lint.specs.Objections.{reply_objection}

-- what is wrong with the reply that a line says, if it says one
abbrev pub objection_said : Plan → List ℕ → Option Reply → ℕ → Objection
objection_said script front None reason = at 1 (Breaks reason)
objection_said script front (Some reply) reason = reply_objection script front reply reason

-- what is wrong with a line behind the bytes of the lines before it, by the line's reason: its words alone, or what it says behind
-- them
unfoldable pub objection_of : Plan → List ℕ → List ℕ → ℕ → Objection
objection_of script front line reason =
    if reason == bad_reply_line then by_words Replies line else objection_said script front (reply_in line) reason

-- the line of text that says what is wrong with the line of this number of the bytes, by its reason
abbrev pub fault_line : Plan → List ℕ → ℕ → ℕ → List ℕ
fault_line script bytes number reason =
    objection_line (codes "replies ") number (line_at bytes (number - 1))
    (objection_of script (front_of bytes (number - 1)) (line_at bytes (number - 1)) reason)

-- what is said of bytes: of their first bad line, if they have one
abbrev pub reply_lint_of : Plan → List ℕ → Option (List ℕ)
reply_lint_of script bytes = option_map (λ fault. fault_line script bytes fault.0 fault.1) (reply_fault script bytes)
