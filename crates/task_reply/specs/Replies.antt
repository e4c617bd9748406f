-- Which lines say which replies, and which line is the first bad one. (The lines and the reasons are this project's own.)
use Rattle.std.specs.Prelude.{ℕ, ◌+◌, ◌^◌, ◌==◌, Bool, true, false, not, ◌&&◌, ◌||◌, nat_lt, if◌then◌else◌, List, [], ◌∷◌, ◌++◌, length, codes, Option, Some, None, option_map, option_and_then, Result, Ok, Err}
use Rattle.std.specs.List.{list_any}
use Rattle.std.specs.Result.{result_err}
use Rattle.task_base.specs.Plan.{Plan}
use Rattle.task_base.specs.declared.limits.TheConstants.{MOST_STEPS, MOST_EVENTS}
use Rattle.script_model.specs.Words.{lines_of, words_of, is_word, begins_comment, number_of}
use Rattle.script_model.specs.Reasons.{◌>>=◌}
use Rattle.script_model.specs.Grammar.{at_line}
use Rattle.script_model.specs.Bound.{events_bound_of, steps_of_plan}
use Rattle.script_model.specs.Draft.{opens_scope, may_block_on}
use Rattle.script_model.specs.Laws.Postings.{postings}
use Rattle.task_reply.specs.declared.reply.Home.{Home}
use Rattle.task_reply.specs.declared.reply.Home.TheVariants.{Runner, Queue}
use Rattle.task_reply.specs.declared.reply.Reply.{Reply}

-- ---- the reasons

-- the line is no reply
abbrev pub bad_reply_line : ℕ
bad_reply_line = 1

-- the task, the runner or the queue was not declared, or the reply was not declared before the task
abbrev pub reply_undeclared : ℕ
reply_undeclared = 2

-- the script posts the reply, or an earlier line makes it the reply of a task
abbrev pub reply_posted_twice : ℕ
reply_posted_twice = 3

-- the reply opens a blocking scope, and goes where none may block
abbrev pub reply_bad_block : ℕ
reply_bad_block = 4

-- with this line the script has more steps or more entries than the limits allow
abbrev pub reply_too_many : ℕ
reply_too_many = 5

-- ---- what a line says

-- the number, if 32 bits hold it
abbrev pub of_32_bits : ℕ → Option ℕ
of_32_bits n = if nat_lt n (2 ^ 32) then Some n else None

-- the id that a word writes
unfoldable pub id_of : List ℕ → Option ℕ
id_of word = option_and_then of_32_bits (number_of word)

-- the home of this number, of the sort that a word names
unfoldable pub home_named : List ℕ → ℕ → Option Home
home_named sort id = if is_word sort (codes "runner") then Some (Runner id) else (if is_word sort (codes "queue") then Some (Queue id) else None)

-- the home whose sort and number two words write
abbrev pub home_said : List ℕ → List ℕ → Option Home
home_said sort number = option_and_then (home_named sort) (id_of number)

-- the reply whose parts the words behind the first one write
unfoldable pub reply_of : List ℕ → List ℕ → List ℕ → List ℕ → Option Reply
reply_of task reply sort number =
    option_and_then (λ t. option_and_then (λ u. option_map (λ h. record { task = t; reply = u; home = h }) (home_said sort number)) (id_of reply))
    (id_of task)

-- `reply T U runner R` or `reply T U queue Q`, by the words
unfoldable pub reply_said : List (List ℕ) → Option Reply
reply_said (name ∷ task ∷ reply ∷ sort ∷ home ∷ []) = if is_word name (codes "reply") then reply_of task reply sort home else None
reply_said words = None

-- a line without words and a comment are skipped
abbrev pub is_skipped : List (List ℕ) → Bool
is_skipped [] = true
is_skipped (word ∷ words) = begins_comment word

-- the reply that a line says, if it is not skipped, by its words
abbrev pub reply_words_said : List (List ℕ) → Result (Option Reply) ℕ
reply_words_said words = if is_skipped words then Ok None else said_or_bad (reply_said words)
  where
    said_or_bad : Option Reply → Result (Option Reply) ℕ
    said_or_bad None = Err bad_reply_line
    said_or_bad (Some reply) = Ok (Some reply)

-- the reply that a line says, by its bytes
abbrev pub reply_line_said : List ℕ → Result (Option Reply) ℕ
reply_line_said line = reply_words_said (words_of line)

-- ---- what is asked of a reply

-- the runner or queue was declared
abbrev pub has_home : Plan → Home → Bool
has_home script (Runner runner) = nat_lt runner (length script.runners)
has_home script (Queue queue) = nat_lt queue (length script.queues)

-- the task and the home were declared, and the reply before the task
abbrev pub is_declared_reply : Plan → Reply → Bool
is_declared_reply script reply = nat_lt reply.task (length script.tasks) && nat_lt reply.reply reply.task && has_home script reply.home

-- the script posts the task, or it is one of these replies
abbrev pub is_posted : Plan → List Reply → ℕ → Bool
is_posted script earlier task = list_any (λ posted. posted == task) (postings script) || list_any (λ reply. reply.reply == task) earlier

-- tasks that block may go there
abbrev pub home_takes_block : Plan → Home → Bool
home_takes_block script (Runner runner) = may_block_on script.runners runner
home_takes_block script (Queue queue) = false

-- the reply opens a scope, and goes where none may block
abbrev pub is_bad_block : Plan → Reply → Bool
is_bad_block script reply = opens_scope script.tasks reply.reply && not (home_takes_block script reply.home)

-- behind this many replies, each of which is a step and an entry, one more passes a limit
abbrev pub is_full : Plan → ℕ → Bool
is_full script replies = nat_lt MOST_STEPS (steps_of_plan script + replies + 1) || nat_lt MOST_EVENTS (events_bound_of script + replies + 1)

-- the first reason against a reply behind these, if there is one
unfoldable pub reason_against : Plan → List Reply → Reply → Option ℕ
reason_against script earlier reply =
    if not (is_declared_reply script reply) then Some reply_undeclared
    else (if is_posted script earlier reply.reply then Some reply_posted_twice
    else (if is_bad_block script reply then Some reply_bad_block
    else (if is_full script (length earlier) then Some reply_too_many
    else None)))

-- ---- the lines

-- the earlier replies with this one, if no reason is against it
abbrev pub with_next_reply : List Reply → Reply → Option ℕ → Result (List Reply) ℕ
with_next_reply earlier reply None = Ok (earlier ++ reply ∷ [])
with_next_reply earlier reply (Some reason) = Err reason

-- the replies of the earlier lines and that of this line, if it says one, or the first reason against it
abbrev pub reply_added : Plan → List Reply → Option Reply → Result (List Reply) ℕ
reply_added script earlier None = Ok earlier
reply_added script earlier (Some reply) = with_next_reply earlier reply (reason_against script earlier reply)

-- a line, by its bytes
unfoldable pub line_read : Plan → List Reply → List ℕ → Result (List Reply) ℕ
line_read script earlier line = reply_line_said line >>= reply_added script earlier

-- the replies that lines say behind those of earlier lines, or the first bad line, by its number, and its reason
unfoldable pub lines_read : Plan → List Reply → ℕ → List (List ℕ) → Result (List Reply) (ℕ × ℕ)
lines_read script earlier number [] = Ok earlier
lines_read script earlier number (line ∷ lines) = at_line number (line_read script earlier line) >>= λ next. lines_read script next (number + 1) lines

-- the replies that the bytes say, in order, or their first bad line, counted from 1, and its first reason
abbrev pub replies_read : Plan → List ℕ → Result (List Reply) (ℕ × ℕ)
replies_read script bytes = lines_read script [] 1 (lines_of bytes)

-- the first bad line and its first reason, if there is one
abbrev pub reply_fault : Plan → List ℕ → Option (ℕ × ℕ)
reply_fault script bytes = result_err (replies_read script bytes)
