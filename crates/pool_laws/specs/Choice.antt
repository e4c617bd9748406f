-- Words of the laws on what waits, and what a worker takes next.
use Rattle.std.specs.Prelude.{◌≡◌, IsTrue, ℕ, false, List, [], ◌∷◌, ◌++◌, Option, Some, None, slice_get, take, option_and_then, Bool, true, All, nat_lt, if◌then◌else◌, length, Contains}
use Rattle.task_base.specs.Plan.{Plan}
use Rattle.task_base.specs.declared.entry.Entry.{Entry}
use Rattle.task_base.specs.declared.entry.Kind.{Kind}
use Rattle.task_base.specs.declared.entry.Kind.TheVariants as kinds
use Rattle.task_base.specs.declared.source.TaskSource.{TaskSource}
use Rattle.task_base.specs.declared.source.TaskSource.TheVariants.{Sequence, Job}
use Rattle.task_base.specs.Runners.{sequence_of, sequence_count}
use Rattle.task_model.specs.Sources.{Candidate, sequence_waiting, would_wait, waiting, is_takeable, goes_before, job_waiting}
use Rattle.task_model.specs.Posts.{Posted, post_behind}
use Rattle.task_model.specs.Policies.{is_held}
use Rattle.pool_laws.specs.Keys.{sequence_parts}
use Rattle.pool_laws.specs.Jobs.{job_parts}
use Rattle.pool_laws.specs.Moves.{Part, Phases, Policies, Priorities, moves}
use Rattle.pool_laws.specs.Seats.{running_parts}

-- the source waits
abbrev pub IsWaiting : Plan → List Entry → Candidate → Type 0
IsWaiting script past c = Contains (waiting script past) c

-- the source waits, and the seat may take it
abbrev pub IsTakeable : Plan → List Entry → ℕ → Candidate → Type 0
IsTakeable script past seat c = IsWaiting script past c × IsTrue (is_takeable script past seat c)

-- the source that the entry is a post to
abbrev pub posted_source : Plan → Kind → Option TaskSource
posted_source script (kinds.Post task runner delay ok) = Some (Sequence (sequence_of script runner task))
posted_source script (kinds.JobPost job ok) = Some (Job job)
posted_source script kind = None

-- the source that the entry at a place is a post to
abbrev pub source_at : Plan → List Entry → ℕ → Option TaskSource
source_at script past place = option_and_then (λ e. posted_source script e.kind) (slice_get past place)

-- the task that an entry behind a past posts to the pool
abbrev pub post_by : List Entry → Kind → Option Posted
post_by before (kinds.Post task runner delay ok) = Some (post_behind before task runner delay)
post_by before kind = None

-- the task that the entry at a place posts to the pool
abbrev pub post_at : List Entry → ℕ → Option Posted
post_at past place = option_and_then (λ e. post_by (take place past) e.kind) (slice_get past place)

-- the best source may be taken, and no other that may be taken goes before it
pub record IsBest (script : Plan) (past : List Entry) (seat : ℕ) (c : Candidate) : Type 0 where
  pub takeable : IsTakeable script past seat c
  pub none_before : All (λ d. is_takeable script past seat d ≡ true → goes_before d c ≡ false) (waiting script past)

-- the source would wait, were nothing held back
abbrev pub WouldWait : Plan → List Entry → Candidate → Type 0
WouldWait script past c = Contains (would_wait script past) c

-- the candidate of a source, where it is one of the script's and waits
abbrev pub source_waiting : Plan → List Entry → TaskSource → Option Candidate
source_waiting script past (Sequence s) = if nat_lt s (sequence_count script) then sequence_waiting script past s else None
source_waiting script past (Job j) = if nat_lt j (length script.jobs) then job_waiting script past j else None

-- it is the candidate of its source, and the policy does not hold it back
pub record IsFree (script : Plan) (past : List Entry) (c : Candidate) : Type 0 where
  pub candidate : source_waiting script past c.source ≡ Some c
  pub not_held : is_held past c.priority ≡ false

-- the kind that changes the priority of a runner
abbrev pub moves_priorities : Kind → Bool
moves_priorities = moves (Priorities ∷ [])

-- the kinds that may change whether a sequence waits, and with which priority
abbrev pub sequence_waiting_parts : List Part
sequence_waiting_parts = Priorities ∷ sequence_parts ++ running_parts

abbrev pub moves_sequence_waiting : Kind → Bool
moves_sequence_waiting = moves sequence_waiting_parts

-- the kinds that may change whether a source waits
abbrev pub source_parts : List Part
source_parts = sequence_waiting_parts ++ job_parts

abbrev pub moves_sources : Kind → Bool
moves_sources = moves source_parts

-- the kinds that may change what waits
abbrev pub waiting_parts : List Part
waiting_parts = Policies ∷ source_parts

abbrev pub moves_waiting : Kind → Bool
moves_waiting = moves waiting_parts

-- the kinds that may change which work is held back
abbrev pub held_parts : List Part
held_parts = Policies ∷ Phases ∷ []

abbrev pub moves_held : Kind → Bool
moves_held = moves held_parts

-- each source but one waits as before
abbrev pub OthersKept : Plan → List Entry → List Entry → TaskSource → Type 0
OthersKept script past later source = (other : TaskSource) → (other ≡ source → ⊥) → source_waiting script later other ≡ source_waiting script past other
