-- The sentence on a complaint, at the end of a text (this project's own).
use Rattle.std.specs.Prelude.{ℕ, ◌==◌, Bool, true, false, if◌then◌else◌, List, ◌++◌, codes, decimal, Option, Some, None}
use Rattle.line_places.specs.declared.expected.Language.{Language}
use Rattle.line_places.specs.declared.expected.Thing.{Thing}
use Rattle.line_places.specs.declared.expected.Expected.{Expected}
use Rattle.line_places.specs.declared.expected.Expected.TheVariants.{End}
use Rattle.lint_text.specs.declared.complaint.Complaint.{Complaint}
use Rattle.lint_text.specs.declared.complaint.Complaint.TheVariants as complaints
use Rattle.line_places.specs.declared.expected.Length.{Length}
use Rattle.lint_text.specs.declared.complaint.Limited.{Limited}
use Rattle.lint_text.specs.declared.complaint.Limited.TheVariants.{Runners, Queues, Tasks, Jobs, Items, Steps, Ticks, Entries, Actions}
use Rattle.script_model.specs.Reasons.{word_count, out_of_range}
use Rattle.lint_text.specs.Quote.{quoted}
use Rattle.lint_text.specs.Expected.{expected_words, id_noun, noun, thing_name}

-- the text with the word at the place, if there is one
abbrev pub with_word : List ℕ → Option (List ℕ) → List ℕ
with_word text None = text
with_word text (Some word) = quoted text word

-- the text with a line's number, if it was found
abbrev pub with_line : List ℕ → Option ℕ → List ℕ
with_line text None = text ++ codes " on an earlier line"
with_line text (Some line) = text ++ codes " on line " ++ decimal line

-- ---- what can't stand at a place

-- the text with how many words a line takes
abbrev pub with_length : List ℕ → Option Length → List ℕ
with_length text None = text
with_length text (Some length) =
    (if length.least == length.most then text ++ codes "; the line takes " ++ decimal length.most
    else text ++ codes "; the line takes " ++ decimal length.least ++ codes " or " ++ decimal length.most)
    ++ (if length.most == 1 then codes " word" else codes " words")

-- what is expected is that no word stands there
abbrev pub is_end : Expected → Bool
is_end End = true
is_end expected = false

-- the text with what is missing, and what may stand there
abbrev pub missing_words : List ℕ → Language → Expected → List ℕ
missing_words text language expected = expected_words (text ++ noun expected ++ codes " is missing: ") language expected

-- the text with why the word at its end can't stand there: it is one too many, or another is missing before it
abbrev pub behind_word : List ℕ → Language → Expected → List ℕ
behind_word text language expected =
    if is_end expected then text ++ codes " is one word too many" else missing_words (text ++ codes " stands where a ") language expected

-- words are missing at the place, or it has one too many
abbrev pub count_words : List ℕ → Language → Expected → Option (List ℕ) → List ℕ
count_words text language expected None = missing_words (text ++ codes "a ") language expected
count_words text language expected (Some word) = behind_word (quoted text word) language expected

-- the word is none of those that are expected, or a number out of its range
abbrev pub choice_words : List ℕ → Language → Expected → ℕ → Option (List ℕ) → List ℕ
choice_words text language expected reason word =
    if reason == out_of_range then expected_words (with_word text word ++ codes " is out of range: ") language expected
    else expected_words (with_word text word ++ codes " is no " ++ noun expected ++ codes ": ") language expected

-- the word can't stand where this is expected
abbrev pub unexpected_words : List ℕ → Language → Expected → ℕ → Option Length → Option (List ℕ) → List ℕ
unexpected_words text language expected reason length word =
    if reason == word_count then with_length (count_words text language expected word) length
    else choice_words text language expected reason word

-- ---- what was declared

abbrev pub order_words : List ℕ → Thing → ℕ → List ℕ
order_words text of next = text ++ codes " is not the next " ++ id_noun of ++ codes ": " ++ decimal next

abbrev pub undeclared_words : List ℕ → Thing → ℕ → List ℕ
undeclared_words text of count = text ++ codes " is no " ++ thing_name of ++ codes " that is declared: so far " ++ decimal count

abbrev pub seat_words : List ℕ → ℕ → List ℕ
seat_words text workers = text ++ codes " names no worker seat: the script has " ++ decimal workers

abbrev pub voter_words : List ℕ → ℕ → List ℕ
voter_words text voters = text ++ codes " is no voter of the queue: it has " ++ decimal voters

abbrev pub before_words : List ℕ → ℕ → List ℕ
before_words text task = text ++ codes " is no task that is declared before task " ++ decimal task

-- a declaration after an action, or configuration after a declaration
abbrev pub late_words : List ℕ → Bool → Option ℕ → List ℕ
late_words text action line = with_line (if action then text ++ codes " stands after an action," else text ++ codes " stands after a declaration,") line

-- ---- what is posted and started

abbrev pub posted_words : List ℕ → ℕ → Option ℕ → List ℕ
posted_words text task None = text ++ codes "task " ++ decimal task ++ codes " is posted on this line before"
posted_words text task (Some line) = text ++ codes "task " ++ decimal task ++ codes " is posted on line " ++ decimal line ++ codes " too"

abbrev pub script_posts_words : List ℕ → ℕ → List ℕ
script_posts_words text task = text ++ codes "task " ++ decimal task ++ codes " is posted by the script too"

abbrev pub block_words : List ℕ → ℕ → Option ℕ → List ℕ
block_words text task None = text ++ codes "task " ++ decimal task ++ codes " opens a blocking scope, and no main queue takes one"
block_words text task (Some runner) =
    text ++ codes "task " ++ decimal task ++ codes " opens a blocking scope, and runner " ++ decimal runner ++ codes " has no mayblock"

abbrev pub started_words : List ℕ → ℕ → Option ℕ → List ℕ
started_words text job line = with_line (text ++ codes "job " ++ decimal job ++ codes " is started") line ++ codes " already"

abbrev pub not_started_words : List ℕ → ℕ → List ℕ
not_started_words text job = text ++ codes "job " ++ decimal job ++ codes " is not started before"

abbrev pub stands_words : List ℕ → Option ℕ → List ℕ
stands_words text line = with_line (text ++ codes " stands") line ++ codes " already"

-- ---- limits

-- what has a limit
abbrev pub limited_name : Limited → List ℕ
limited_name Runners = codes " runners"
limited_name Queues = codes " main queues"
limited_name Tasks = codes " tasks"
limited_name Jobs = codes " jobs"
limited_name Items = codes " items of jobs"
limited_name Steps = codes " steps"
limited_name Ticks = codes " ticks"
limited_name Entries = codes " entries of a run"
limited_name Actions = codes " actions"

abbrev pub limit_words : List ℕ → Limited → ℕ → List ℕ
limit_words text of most = text ++ codes "with this line there are more than " ++ decimal most ++ limited_name of

-- the line breaks a rule
abbrev pub rule_words : List ℕ → ℕ → List ℕ
rule_words text reason = text ++ codes " begins a line that breaks rule " ++ decimal reason

-- ---- any complaint

-- the text with the sentence on the complaint, where this word stands at the place, or none
abbrev pub complaint_words : List ℕ → Complaint → Option (List ℕ) → List ℕ
complaint_words text complaints.NotAscii word = with_word text word ++ codes " has a byte above 127: only comments may"
complaint_words text (complaints.Unexpected language expected reason length) word = unexpected_words text language expected reason length word
complaint_words text (complaints.OutOfOrder of next) word = order_words (with_word text word) of next
complaint_words text (complaints.Undeclared of count) word = undeclared_words (with_word text word) of count
complaint_words text (complaints.NotBefore task) word = before_words (with_word text word) task
complaint_words text (complaints.NoVoter voters) word = voter_words (with_word text word) voters
complaint_words text (complaints.NoSeat workers) word = seat_words (with_word text word) workers
complaint_words text (complaints.PostedTwice task line) word = posted_words text task line
complaint_words text (complaints.PostedByScript task) word = script_posts_words text task
complaint_words text (complaints.Late action line) word = late_words (with_word text word) action line
complaint_words text complaints.OpensSecond word = with_word text word ++ codes " opens a scope while one is open"
complaint_words text complaints.ClosesNone word = with_word text word ++ codes " closes no scope: none is open"
complaint_words text complaints.StaysOpen word = with_word text word ++ codes " opens a scope that stays open"
complaint_words text (complaints.MayNotBlock task runner) word = block_words text task runner
complaint_words text complaints.NoJobStep word = with_word text word ++ codes " is no step of a job: add, mul or set"
complaint_words text (complaints.StartedBefore job line) word = started_words text job line
complaint_words text (complaints.NotStarted job) word = not_started_words text job
complaint_words text (complaints.StandsBefore line) word = stands_words (with_word text word) line
complaint_words text (complaints.TooMany of most) word = limit_words text of most
complaint_words text (complaints.Breaks reason) word = rule_words (with_word text word) reason

-- the line that says it: where the line and the place stand, each counted from 1, and the sentence
abbrev pub lint_line : List ℕ → ℕ → ℕ → Complaint → Option (List ℕ) → List ℕ
lint_line front line place complaint word =
    complaint_words (front ++ codes "line " ++ decimal line ++ codes ", word " ++ decimal place ++ codes ": ") complaint word ++ codes "\n"
