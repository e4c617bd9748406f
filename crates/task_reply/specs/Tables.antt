-- What the readers of replies answer and hold, against the definitions.
use Rattle.std.specs.Prelude.{◌≡◌, ℕ, ◌+◌, Bool, true, false, not, ◌||◌, nat_le, if◌then◌else◌, List, [], ◌∷◌, ◌++◌, length, map, fold, replicate, slice_index_or, slice_set, Option, Some, None, Result, Ok, Err}
use Rattle.task_base.specs.Plan.{Plan}
use Rattle.task_base.specs.declared.step.Step.{Step}
use Rattle.task_base.specs.declared.limits.TheConstants.{MOST_STEPS, MOST_EVENTS}
use Rattle.script_model.specs.Bound.{events_bound_of, steps_of_plan}
use Rattle.script_model.specs.Draft.{opens_scope}
use Rattle.script_model.specs.Laws.Postings.{postings, times}
use Rattle.script_model.specs.Laws.Sound.{IsSound}
use Rattle.script_lines.specs.declared.fault.LineFault.{LineFault}
use Rattle.script_lines.specs.declared.fault.LineFault.TheVariants.{Bad, Memory}
use Rattle.task_reply.specs.declared.reply.Reply.{Reply}
use Rattle.task_reply.specs.declared.held.Held.{Held}
use Rattle.task_reply.specs.declared.fault.ReplyFault.{ReplyFault}
use Rattle.task_reply.specs.declared.fault.ReplyFault.TheVariants.{Bad as BadReplies, Memory as NoMemory}
use Rattle.task_reply.specs.Elaborated.{IsElaborated, reply_posting}
use Rattle.task_reply.specs.Replies.{reply_undeclared, reply_posted_twice, reply_bad_block, reply_too_many, is_declared_reply, is_bad_block}

-- ---- one line

-- what the definition says, or the reason why it says nothing; want of memory may come at any line
abbrev pub SaysReply : {A : Type 0} → Result A LineFault → Result A ℕ → Type 0
SaysReply (Ok x) said = said ≡ Ok x
SaysReply (Err (Bad reason)) said = said ≡ Err reason
SaysReply (Err (Memory error)) said = Unit {0}

-- ---- marks for tasks by their numbers, as a list of flags

-- the marks, and those of these tasks
abbrev pub marked : List Bool → List ℕ → List Bool
marked marks tasks = fold (λ all task. slice_set all task true) marks tasks

-- ---- the script so far

-- the script in which a task has one more step
abbrev pub with_task_step : Plan → ℕ → Step → Plan
with_task_step script task step = record script { tasks = slice_set script.tasks task (slice_index_or script.tasks task [] ++ step ∷ []) }

-- the script has grown by these replies, each of which is a step, an entry and a posting more; no scope is new
pub record IsGrown (script : Plan) (replies : List Reply) (result : Plan) : Type 0 where
  pub elaborated : IsElaborated script replies result
  pub sound : IsSound result
  pub steps : steps_of_plan result ≡ steps_of_plan script + length replies
  pub events : events_bound_of result ≡ events_bound_of script + length replies
  pub posted : (t : ℕ) → times t (postings result) ≡ times t (postings script) + times t (map (λ reply. reply.reply) replies)
  pub scopes : (t : ℕ) → opens_scope result.tasks t ≡ opens_scope script.tasks t

-- what is held stands for the script with these replies
pub record HoldsReplies (script : Plan) (replies : List Reply) (held : Held) : Type 0 where
  pub grown : IsGrown script replies held.script
  pub marks : held.posted.items ≡ marked (replicate (length script.tasks) false) (postings script ++ map (λ reply. reply.reply) replies)
  pub steps : held.steps ≡ steps_of_plan script + length replies
  pub events : held.events ≡ events_bound_of script + length replies

-- the first reason against a reply that the tables give
unfoldable pub held_reason : Held → Reply → Option ℕ
held_reason held reply =
    if not (is_declared_reply held.script reply) then Some reply_undeclared
    else (if slice_index_or held.posted.items reply.reply false then Some reply_posted_twice
    else (if is_bad_block held.script reply then Some reply_bad_block
    else (if nat_le MOST_STEPS held.steps || nat_le MOST_EVENTS held.events then Some reply_too_many
    else None)))

-- a reply was added, against which there is no reason
pub record IsAdded (old new : Held) (reply : Reply) : Type 0 where
  pub no_reason : held_reason old reply ≡ None
  pub script : new.script ≡ with_task_step old.script reply.task (reply_posting reply)
  pub marks : new.posted.items ≡ slice_set old.posted.items reply.reply true
  pub steps : new.steps ≡ old.steps + 1
  pub events : new.events ≡ old.events + 1

-- the reply was added, or there is this reason against it, or memory ran out
abbrev pub Adds : Result (Unit {0}) LineFault → Held → Held → Reply → Type 0
Adds (Ok done) old new reply = IsAdded old new reply
Adds (Err (Bad reason)) old new reply = held_reason old reply ≡ Some reason
Adds (Err (Memory error)) old new reply = Unit {0}

-- the replies went on to what a line gives, or the line is bad, or memory ran out
abbrev pub ReplyTurns : Result (Unit {0}) LineFault → Plan → Held → Result (List Reply) ℕ → Type 0
ReplyTurns (Ok done) script held read = (replies : List Reply) × (read ≡ Ok replies) × HoldsReplies script replies held
ReplyTurns (Err (Bad reason)) script held read = read ≡ Err reason
ReplyTurns (Err (Memory error)) script held read = Unit {0}

-- the same, where a bad line has its number
abbrev pub ReplyTurnsAt : Result (Unit {0}) ReplyFault → Plan → Held → Result (List Reply) (ℕ × ℕ) → Type 0
ReplyTurnsAt (Ok done) script held read = (replies : List Reply) × (read ≡ Ok replies) × HoldsReplies script replies held
ReplyTurnsAt (Err (BadReplies line reason)) script held read = read ≡ Err (line, reason)
ReplyTurnsAt (Err (NoMemory error)) script held read = Unit {0}
