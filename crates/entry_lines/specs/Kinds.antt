-- The kind that has these words. No two kinds have the same words.
use Rattle.std.specs.Prelude.{ℕ, if◌then◌else◌, List, [], ◌∷◌, codes, Option, Some, None}
use Rattle.std.specs.Option.{option_and_then}
use Rattle.std.specs.Str.{bytes_eq}
use Rattle.task_base.specs.declared.entry.Kind.{Kind}
use Rattle.task_base.specs.declared.entry.Kind.TheVariants as kinds
use Rattle.task_base.specs.declared.entry.JobReply.{JobReply}
use Rattle.task_base.specs.declared.entry.JobReply.TheVariants as replies
use Rattle.value_words.specs.Words.{reply_named, vote_named, scope_named, policy_named, priority_named, fence_named}
use Rattle.numeral_text.specs.Number.{number_of}

infixl 10 ◌>>=◌
-- the second, made of the value of the first, if there is one (this project's own)
abbrev pub ◌>>=◌ : {A B : Type 0} → Option A → (A → Option B) → Option B
o >>= f = option_and_then f o

-- the item that a seat goes on with: `-` says that there is none (this project's own)
abbrev pub next_of : List ℕ → Option (Option ℕ)
next_of word = if bytes_eq word (codes "-") then Some None else (number_of 32 word >>= λ item. Some (Some item))

-- the reply of a join without a sum (this project's own)
abbrev pub ending_of : List ℕ → Option JobReply
ending_of word =
    if bytes_eq word (codes "refused") then Some replies.Refused
    else (if bytes_eq word (codes "cancelled") then Some replies.Cancelled
    else (if bytes_eq word (codes "stopped") then Some replies.Stopped
    else None))

-- a kind of no argument (this project's own)
unfoldable pub kind_alone : List ℕ → Option Kind
kind_alone name =
    if bytes_eq name (codes "mainnone") then Some kinds.MainNone
    else (if bytes_eq name (codes "idle") then Some kinds.Idle
    else (if bytes_eq name (codes "shutdown") then Some kinds.Shutdown
    else (if bytes_eq name (codes "done") then Some kinds.Done
    else None)))

-- a kind of one argument (this project's own)
unfoldable pub kind_with_one : List ℕ → List ℕ → Option Kind
kind_with_one name first =
    if bytes_eq name (codes "tick") then (number_of 64 first >>= λ now. Some (kinds.Tick now))
    else (if bytes_eq name (codes "unblock") then (number_of 32 first >>= λ task. Some (kinds.Leave task))
    else (if bytes_eq name (codes "policy") then (policy_named first >>= λ policy. Some (kinds.Policy policy))
    else (if bytes_eq name (codes "unfence") then (number_of 32 first >>= λ queue. Some (kinds.Unfence queue))
    else (if bytes_eq name (codes "close") then (number_of 32 first >>= λ queue. Some (kinds.Close queue))
    else (if bytes_eq name (codes "cancel") then (number_of 32 first >>= λ job. Some (kinds.JobCancel job))
    else (if bytes_eq name (codes "cancelled") then (number_of 32 first >>= λ job. Some (kinds.Cancelled job))
    else None))))))

-- a kind of two arguments (this project's own)
unfoldable pub kind_with_two : List ℕ → List ℕ → List ℕ → Option Kind
kind_with_two name first second =
    if bytes_eq name (codes "end") then (number_of 32 first >>= λ task. number_of 64 second >>= λ left. Some (kinds.End task left))
    else (if bytes_eq name (codes "block") then (number_of 32 first >>= λ task. scope_named second >>= λ scope. Some (kinds.Enter task scope))
    else (if bytes_eq name (codes "reprio") then (number_of 32 first >>= λ runner. priority_named second >>= λ priority. Some (kinds.Reprio runner priority))
    else (if bytes_eq name (codes "fence") then (number_of 32 first >>= λ queue. fence_named second >>= λ at. Some (kinds.Fence queue at))
    else (if bytes_eq name (codes "rank") then (number_of 32 first >>= λ queue. number_of 8 second >>= λ class. Some (kinds.Rank queue class))
    else (if bytes_eq name (codes "mainend") then (number_of 32 first >>= λ task. number_of 64 second >>= λ left. Some (kinds.MainEnd task left))
    else (if bytes_eq name (codes "startjob") then (number_of 32 first >>= λ job. reply_named second >>= λ ok. Some (kinds.JobPost job ok))
    else (if bytes_eq name (codes "joined") then (number_of 32 first >>= λ job. ending_of second >>= λ reply. Some (kinds.Joined job reply))
    else None)))))))

-- the join of a job that is done, with its sum (this project's own)
unfoldable pub joined_of : List ℕ → List ℕ → List ℕ → Option Kind
joined_of first second third =
    if bytes_eq second (codes "done") then (number_of 32 first >>= λ job. number_of 64 third >>= λ sum. Some (kinds.Joined job (replies.Finished sum)))
    else None

-- a kind of three arguments (this project's own)
unfoldable pub kind_with_three : List ℕ → List ℕ → List ℕ → List ℕ → Option Kind
kind_with_three name first second third =
    if bytes_eq name (codes "take") then (number_of 32 first >>= λ task. number_of 32 second >>= λ runner. number_of 64 third
    >>= λ found. Some (kinds.Take task runner found))
    else (if bytes_eq name (codes "vote") then (number_of 32 first >>= λ queue. number_of 8 second >>= λ voter. vote_named third
    >>= λ on. Some (kinds.Vote queue voter on))
    else (if bytes_eq name (codes "maintake") then (number_of 32 first >>= λ task. number_of 32 second >>= λ queue. number_of 64 third
    >>= λ found. Some (kinds.MainTake task queue found))
    else (if bytes_eq name (codes "jobtake") then (number_of 32 first >>= λ job. number_of 32 second >>= λ id. number_of 32 third
    >>= λ item. Some (kinds.JobTake job id item))
    else (if bytes_eq name (codes "joined") then joined_of first second third
    else None))))

-- a kind of four arguments (this project's own)
unfoldable pub kind_with_four : List ℕ → List ℕ → List ℕ → List ℕ → List ℕ → Option Kind
kind_with_four name first second third fourth = do
  task ← number_of 32 first
  home ← number_of 32 second
  delay ← number_of 64 third
  ok ← reply_named fourth
  if bytes_eq name (codes "post") then Some (kinds.Post task home delay ok)
      else (if bytes_eq name (codes "main") then Some (kinds.Main task home delay ok)
      else None)

-- a kind of five arguments (this project's own)
unfoldable pub kind_with_five : List ℕ → List ℕ → List ℕ → List ℕ → List ℕ → List ℕ → Option Kind
kind_with_five name first second third fourth fifth = do
  job ← number_of 32 first
  id ← number_of 32 second
  item ← number_of 32 third
  value ← number_of 64 fourth
  next ← next_of fifth
  if bytes_eq name (codes "jobstep") then Some (kinds.JobStep job id item value next) else None

-- the kind, by its name and its arguments (this project's own)
unfoldable pub kind_of : List (List ℕ) → Option Kind
kind_of (name ∷ []) = kind_alone name
kind_of (name ∷ first ∷ []) = kind_with_one name first
kind_of (name ∷ first ∷ second ∷ []) = kind_with_two name first second
kind_of (name ∷ first ∷ second ∷ third ∷ []) = kind_with_three name first second third
kind_of (name ∷ first ∷ second ∷ third ∷ fourth ∷ []) = kind_with_four name first second third fourth
kind_of (name ∷ first ∷ second ∷ third ∷ fourth ∷ fifth ∷ []) = kind_with_five name first second third fourth fifth
kind_of words = None
