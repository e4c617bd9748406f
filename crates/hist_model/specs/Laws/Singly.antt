-- What every legal log gives of the tasks of one sequence, and of the main tasks.
use Rattle.std.specs.Prelude.{◌≡◌, ℕ, ◌<◌, List}
use Rattle.task_base.specs.Plan.{Plan}
use Rattle.task_base.specs.Runners.{sequence_of}
use Rattle.task_base.specs.declared.entry.Entry.{Entry}
use Rattle.task_base.specs.declared.entry.Kind.TheVariants as kinds
use Rattle.hist_model.specs.Laws.Places.{IsAt}

-- between these two places the seat ends the task (`thread_pool.h`)
pub record EndsBetween (log : List Entry) (from to seat task : ℕ) : Type 0 where
  pub at : ℕ
  pub left : ℕ
  pub after : from < at
  pub before : at < to
  pub is : IsAt log at seat (kinds.End task left)

-- between these two places the seat ends the main task (`sequence_manager.h`)
pub record MainEndsBetween (log : List Entry) (from to seat task : ℕ) : Type 0 where
  pub at : ℕ
  pub left : ℕ
  pub after : from < at
  pub before : at < to
  pub is : IsAt log at seat (kinds.MainEnd task left)

-- the tasks of a sequence run one at a time, and so do the main tasks
pub record SequencesRunSingly (script : Plan) (log : List Entry) : Type 0 where
  -- a later take of a sequence stands behind the end of the task that was taken before, by the seat that took it
  pub ended_before : (i j seat other t u runner home found value : ℕ) → i < j → IsAt log i seat (kinds.Take t runner found)
      → IsAt log j other (kinds.Take u home value) → sequence_of script runner t ≡ sequence_of script home u → EndsBetween log i j seat t
  -- so between a take and its end there is no other take of the sequence
  pub none_between : (i j k seat other ender t u runner home found value left : ℕ) → i < j → j < k → IsAt log i seat (kinds.Take t runner found)
      → IsAt log j other (kinds.Take u home value) → IsAt log k ender (kinds.End t left)
      → sequence_of script runner t ≡ sequence_of script home u → ⊥
  -- and behind a take whose task does not end there is none
  pub none_after : (i j seat other t u runner home found value : ℕ) → i < j → IsAt log i seat (kinds.Take t runner found)
      → IsAt log j other (kinds.Take u home value) → ((k ender left : ℕ) → IsAt log k ender (kinds.End t left) → ⊥)
      → sequence_of script runner t ≡ sequence_of script home u → ⊥
  -- a later take of a main task, of any queue, stands behind the end of the main task that was taken before, by the seat that took it
  pub main_ended_before : (i j seat other t u queue home found value : ℕ) → i < j → IsAt log i seat (kinds.MainTake t queue found)
      → IsAt log j other (kinds.MainTake u home value) → MainEndsBetween log i j seat t
  -- so between the take of a main task and its end there is no take of another, by any seat
  pub main_none_between : (i j k seat other ender t u queue home found value left : ℕ) → i < j → j < k → IsAt log i seat (kinds.MainTake t queue found)
      → IsAt log j other (kinds.MainTake u home value) → IsAt log k ender (kinds.MainEnd t left) → ⊥
  -- and behind the take of a main task that does not end there is none
  pub main_none_after : (i j seat other t u queue home found value : ℕ) → i < j → IsAt log i seat (kinds.MainTake t queue found)
      → IsAt log j other (kinds.MainTake u home value) → ((k ender left : ℕ) → IsAt log k ender (kinds.MainEnd t left) → ⊥) → ⊥
