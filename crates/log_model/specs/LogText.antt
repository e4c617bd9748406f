-- A log as text, a line for each entry, and as JSON.
use Rattle.std.specs.Prelude.{◌≡◌, ℕ, ◌+◌, if◌then◌else◌, Option, None, Some, List, [], ◌∷◌, ◌++◌, length, map, codes, nat_eq}
use Rattle.std.specs.Fmt.{decimal}
use Rattle.std.specs.List.{starts_with, join_with_byte}
use Rattle.task_base.specs.declared.entry.Entry.{Entry}
use Rattle.task_base.specs.declared.entry.Kind.{Kind}
use Rattle.task_base.specs.declared.entry.Kind.TheVariants as kinds
use Rattle.task_base.specs.declared.entry.JobReply.{JobReply}
use Rattle.task_base.specs.declared.entry.JobReply.TheVariants as replies
use Rattle.value_words.specs.Words.{reply_word, vote_word, scope_word, priority_word, policy_word, fence_word}
use Rattle.log_model.specs.Fits.{Fits}
use Rattle.log_model.specs.declared.version.Version.{Version}
use Rattle.log_model.specs.declared.version.Version.TheVariants.{One, Two}

-- what an entry is written as: words and numbers, in order (this project's own)
pub data Part : Type 0 where
  word : List ℕ → Part
  number : ℕ → Part

-- the item that a seat goes on with: its number, or `-` where it leaves the job (this project's own)
abbrev pub next_part : Option ℕ → Part
next_part None = word (codes "-")
next_part (Some item) = number item

-- how a joined job has ended: a word, and the sum of a job that is done (this project's own)
abbrev pub reply_parts : JobReply → List Part
reply_parts replies.Refused = word (codes "refused") ∷ []
reply_parts (replies.Finished sum) = word (codes "done") ∷ number sum ∷ []
reply_parts replies.Cancelled = word (codes "cancelled") ∷ []
reply_parts replies.Stopped = word (codes "stopped") ∷ []

-- the word of each kind, and its arguments (this project's own)
abbrev pub parts_of : Kind → List Part
parts_of (kinds.Post task runner delay ok) = word (codes "post") ∷ number task ∷ number runner ∷ number delay ∷ word (reply_word ok) ∷ []
parts_of (kinds.Main task queue delay ok) = word (codes "main") ∷ number task ∷ number queue ∷ number delay ∷ word (reply_word ok) ∷ []
parts_of (kinds.Tick now) = word (codes "tick") ∷ number now ∷ []
parts_of (kinds.Take task runner found) = word (codes "take") ∷ number task ∷ number runner ∷ number found ∷ []
parts_of (kinds.End task left) = word (codes "end") ∷ number task ∷ number left ∷ []
parts_of (kinds.Enter task scope) = word (codes "block") ∷ number task ∷ word (scope_word scope) ∷ []
parts_of (kinds.Leave task) = word (codes "unblock") ∷ number task ∷ []
parts_of (kinds.Policy policy) = word (codes "policy") ∷ word (policy_word policy) ∷ []
parts_of (kinds.Reprio runner priority) = word (codes "reprio") ∷ number runner ∷ word (priority_word priority) ∷ []
parts_of (kinds.Fence queue at) = word (codes "fence") ∷ number queue ∷ word (fence_word at) ∷ []
parts_of (kinds.Unfence queue) = word (codes "unfence") ∷ number queue ∷ []
parts_of (kinds.Vote queue voter on) = word (codes "vote") ∷ number queue ∷ number voter ∷ word (vote_word on) ∷ []
parts_of (kinds.Rank queue class) = word (codes "rank") ∷ number queue ∷ number class ∷ []
parts_of (kinds.Close queue) = word (codes "close") ∷ number queue ∷ []
parts_of (kinds.MainTake task queue found) = word (codes "maintake") ∷ number task ∷ number queue ∷ number found ∷ []
parts_of (kinds.MainEnd task left) = word (codes "mainend") ∷ number task ∷ number left ∷ []
parts_of kinds.MainNone = word (codes "mainnone") ∷ []
parts_of (kinds.JobPost job ok) = word (codes "startjob") ∷ number job ∷ word (reply_word ok) ∷ []
parts_of (kinds.JobTake job id item) = word (codes "jobtake") ∷ number job ∷ number id ∷ number item ∷ []
parts_of (kinds.JobStep job id item value next) = word (codes "jobstep") ∷ number job ∷ number id ∷ number item ∷ number value ∷ next_part next ∷ []
parts_of (kinds.JobCancel job) = word (codes "cancel") ∷ number job ∷ []
parts_of (kinds.Cancelled job) = word (codes "cancelled") ∷ number job ∷ []
parts_of (kinds.Joined job reply) = word (codes "joined") ∷ number job ∷ reply_parts reply
parts_of kinds.Idle = word (codes "idle") ∷ []
parts_of kinds.Shutdown = word (codes "shutdown") ∷ []
parts_of kinds.Done = word (codes "done") ∷ []

-- the parts of an entry: its place, its seat, and those of its kind (this project's own)
abbrev pub entry_parts : ℕ → Entry → List Part
entry_parts place e = number place ∷ number e.seat ∷ parts_of e.kind

-- a part in text: a number is decimal, without zeros in front (this project's own)
abbrev pub shown : Part → List ℕ
shown (word bytes) = bytes
shown (number n) = decimal n

-- a kind in text, part by part (this project's own)
abbrev pub kind_words : Kind → List (List ℕ)
kind_words kind = map shown (parts_of kind)

-- the line of an entry: its parts, parted by single spaces, and a line feed (this project's own)
abbrev pub line_of : ℕ → Entry → List ℕ
line_of place e = join_with_byte 32 (map shown (entry_parts place e)) ++ 10 ∷ []

-- the lines of the entries from a place on (this project's own)
abbrev pub text_from : ℕ → List Entry → List ℕ
text_from place [] = []
text_from place (e ∷ rest) = line_of place e ++ text_from (place + 1) rest

-- the lines of the entries, in order: all of a text of version 1 (this project's own)
unfoldable pub log_lines : List Entry → List ℕ
log_lines log = text_from 0 log

-- the first line of a text of version 2 (this project's own)
abbrev pub head_line : List ℕ
head_line = codes "taskenv log 2\n"

-- its last line: the number of entries (this project's own)
abbrev pub total_line : ℕ → List ℕ
total_line n = codes "total " ++ (decimal n ++ 10 ∷ [])

-- what stands before the lines of the entries, and how many lines that is (this project's own)
abbrev pub head_of : Version → List ℕ
head_of One = []
head_of Two = head_line

abbrev pub lines_before : Version → ℕ
lines_before One = 0
lines_before Two = 1

-- what stands behind the lines of so many entries (this project's own)
abbrev pub end_of : Version → ℕ → List ℕ
end_of One n = []
end_of Two n = total_line n

-- the text of a log in a version (this project's own)
abbrev pub text_in : Version → List Entry → List ℕ
text_in version log = head_of version ++ (log_lines log ++ end_of version (length log))

-- the version that a text is read by: 2 exactly where it begins with the first line of that version (this project's own)
unfoldable pub version_of : List ℕ → Version
version_of text = if starts_with nat_eq text head_line then Two else One

-- the text of a log, which is that of version 2 (this project's own)
unfoldable pub log_text : List Entry → List ℕ
log_text log = text_in Two log

-- what a reader takes for this entry at this place: the entry's line, letter for letter, each number in the range
-- of its type (this project's own)
pub record IsLogLine (place : ℕ) (line : List ℕ) (e : Entry) : Type 0 where
  pub same : line ≡ line_of place e
  pub fits : Fits e

-- what such a reader leaves there: however a line is cut off its front, it is that of no entry at this place (this
-- project's own)
abbrev pub BeginsWithNoLine : ℕ → List ℕ → Type 0
BeginsWithNoLine place text = (line behind : List ℕ) → text ≡ line ++ behind → (e : Entry) → ¬ IsLogLine place line e

-- a part in JSON: a word is a string (this project's own)
abbrev pub shown_json : Part → List ℕ
shown_json (word bytes) = 34 ∷ bytes ++ 34 ∷ []
shown_json (number n) = decimal n

-- an array in compact JSON, of items in JSON (RFC 8259)
abbrev pub json_array : List (List ℕ) → List ℕ
json_array items = 91 ∷ join_with_byte 44 items ++ 93 ∷ []

-- an entry in JSON: the array of its parts (this project's own)
abbrev pub json_of : ℕ → Entry → List ℕ
json_of place e = json_array (map shown_json (entry_parts place e))

-- the entries from a place on, each in JSON (this project's own)
abbrev pub jsons_from : ℕ → List Entry → List (List ℕ)
jsons_from place [] = []
jsons_from place (e ∷ rest) = json_of place e ∷ jsons_from (place + 1) rest

-- the JSON form of a log: the array of its entries, in order (this project's own)
unfoldable pub log_json : List Entry → List ℕ
log_json log = json_array (jsons_from 0 log)
