-- The lists of the tasks that wait of parallel runners, by which a change of priority finds them.
use Rattle.std.specs.Prelude.{◌≡◌, ◌⊎◌, ℕ, ◌+◌, ◌<◌, List, [], length, Option, Some, slice_get}
use Rattle.task_base.specs.Plan.{Plan}
use Rattle.task_base.specs.Runners.{sequence_of}
use Rattle.task_sequence.specs.Sequences.{Held, sequence_at}
use Rattle.pool_core.specs.TaskLists.{AreApart, IsListed, Lists}
use Rattle.pool_core.specs.declared.posting.Posting.{Posting}

-- the task was posted to the runner
pub record IsPostedTo (postings : List (Option Posting)) (t runner : ℕ) : Type 0 where
  pub posting : Posting
  pub posted : slice_get postings t ≡ Some (Some posting)
  pub runner_is : posting.runner ≡ runner

-- the sequence is that of a task that is in a list
pub record IsOfListed (script : Plan) (postings : List (Option Posting)) (lists : Lists) (s : ℕ) : Type 0 where
  pub list : ℕ
  pub task : ℕ
  pub runner : ℕ
  pub listed : IsListed lists list task
  pub posted : IsPostedTo postings task runner
  pub sequence_is : sequence_of script runner task ≡ s

-- the sequence has no task, is a runner's own, or is that of a task that is in a list
abbrev pub IsCovered : Plan → List (Option Posting) → Held → Lists → ℕ → Type 0
IsCovered script postings held lists s =
    ((sequence_at held s).tasks ≡ []) ⊎ ((s < length script.runners) ⊎ IsOfListed script postings lists s)

-- there is a list for each runner, with tasks that were posted to it alone, and a spare one; each sequence that has a task and is
-- no runner's own is that of a task in a list
pub record AreListed (script : Plan) (postings : List (Option Posting)) (held : Held) (lists : Lists) : Type 0 where
  pub apart : AreApart lists
  pub lines : length lists.lines ≡ length script.runners + 1
  pub tasks : length lists.after ≡ length script.tasks
  pub owned : (l t : ℕ) → IsListed lists l t → IsPostedTo postings t l
  pub covered : (s : ℕ) → IsCovered script postings held lists s
