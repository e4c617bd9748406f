-- The sources of a runner while they are given their places anew.
use Rattle.std.specs.Prelude.{◌≡◌, ◌⊎◌, ⊤, ℕ, ◌+◌, ◌<◌, if◌then◌else◌, List, length, slice_set, is_some, Option}
use Rattle.std.specs.Option.{IfSome}
use Rattle.task_base.specs.Plan.{Plan}
use Rattle.task_base.specs.Runners.{sequence_count, sequence_of}
use Rattle.task_base.specs.declared.entry.Entry.{Entry}
use Rattle.task_base.specs.declared.source.TaskSource.{TaskSource}
use Rattle.task_base.specs.declared.source.TaskSource.TheVariants.{Sequence}
use Rattle.task_model.specs.Sources.{Candidate}
use Rattle.task_runners.specs.Table.{table_of}
use Rattle.pool_core.specs.Calls.{KnowsRunner}
use Rattle.pool_core.specs.Listings.{AreListed, IsCovered, IsPostedTo}
use Rattle.pool_core.specs.Pasts.{IsPoolScript}
use Rattle.pool_core.specs.Queues.{AreRoomy, HoldBy, IsPlaced, lane_of}
use Rattle.pool_core.specs.Refreshes.{AllDeclared}
use Rattle.pool_core.specs.State.{lane_by, standing}
use Rattle.pool_core.specs.TaskLists.{AreApart, IsListed, Lists, with_task}
use Rattle.pool_core.specs.declared.pool.Pool.{Pool}
use Rattle.task_sequence.specs.Sequences.{first_of, sequence_at}
use Rattle.task_traits.specs.declared.traits.Priority.{Priority}

-- the source is the sequence of a task of the runner that is in such a list, and some rank or none in the runner's lane
pub record IsLoose (script : Plan) (pool : Pool) (runner : ℕ) (such : ℕ → Type 0) (source : TaskSource) : Type 0 where
  pub list : ℕ
  pub task : ℕ
  pub listed : IsListed pool.lists list task
  pub is_such : such list
  pub posted : IsPostedTo pool.postings.items task runner
  pub source_is : Sequence (sequence_of script runner task) ≡ source
  pub candidate : Option Candidate
  pub of_lane : IfSome candidate (λ c. lane_of c.seat ≡ lane_by script runner)
  pub placed : IsPlaced pool.lanes source candidate

-- each source is in its place, but for those of the runner's tasks in such lists; a task is in the list of its runner, or of
-- this runner and in the spare list
pub record IsMoving (script : Plan) (past : List Entry) (pool : Pool) (runner : ℕ) (such : ℕ → Type 0) : Type 0 where
  pub limits : IsPoolScript script
  pub runners : pool.runners ≡ table_of script.runners script.background
  pub declared : runner < length script.runners
  pub ranked : length pool.priorities.items ≡ length script.runners
  pub all : length pool.sequences.sequences ≡ sequence_count script
  pub postings_fit : AllDeclared script pool.postings.items
  pub apart : AreApart pool.lists
  pub lines : length pool.lists.lines ≡ length script.runners + 1
  pub tasks : length pool.lists.after ≡ length script.tasks
  pub owned : (l t : ℕ) → IsListed pool.lists l t
      → IsPostedTo pool.postings.items t l ⊎ ((l ≡ length script.runners) × IsPostedTo pool.postings.items t runner)
  pub covered : (s : ℕ) → IsCovered script pool.postings.items pool.sequences pool.lists s
  pub roomy : AreRoomy script pool.lanes
  pub places : (source : TaskSource)
      → IsPlaced pool.lanes source (standing script past pool.priorities.items pool.postings.items pool.sequences source)
      ⊎ IsLoose script pool runner such source

-- any list, the spare list, and none
abbrev pub AnyList : ℕ → Type 0
AnyList l = ⊤

abbrev pub IsSpare : Plan → ℕ → Type 0
IsSpare script l = l ≡ length script.runners

abbrev pub NoList : ℕ → Type 0
NoList l = ⊥

-- the lists where a task that waits has come to the spare one
abbrev pub set_aside : Pool → ℕ → ℕ → Lists
set_aside pool s t =
    if is_some (first_of (sequence_at pool.sequences s).tasks) then with_task pool.lists (length pool.priorities.items) t else pool.lists

-- the pool, but for the present priority of a runner, stands for the past
pub record IsRanked (script : Plan) (past : List Entry) (before pool : Pool) (runner : ℕ) : Type 0 where
  pub knows : KnowsRunner script past before runner
  pub priority : Priority
  pub others : pool ≡ record before { priorities = pool.priorities }
  pub given : pool.priorities.items ≡ slice_set before.priorities.items runner priority

-- the lanes and the lists alone have changed, and hold what waits
pub record IsMoved (script : Plan) (past : List Entry) (pool later : Pool) (runner : ℕ) : Type 0 where
  pub others : later ≡ record pool { lanes = later.lanes; lists = later.lists }
  pub listed : AreListed script pool.postings.items pool.sequences later.lists
  pub hold : HoldBy script (standing script past pool.priorities.items pool.postings.items pool.sequences) later.lanes
