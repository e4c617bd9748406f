-- How the state of a sequence, or of a main queue, moves along from task to task.
use Rattle.std.specs.Prelude.{◌≡◌, ℕ, ◌<◌, List, ◌⊎◌}
use Rattle.task_base.specs.Plan.{Plan}
use Rattle.task_base.specs.Steps.{after}
use Rattle.task_base.specs.Runners.{sequence_of}
use Rattle.task_base.specs.declared.entry.Entry.{Entry}
use Rattle.task_base.specs.declared.entry.Kind.TheVariants as kinds
use Rattle.task_model.specs.Seats.{steps_of}
use Rattle.hist_model.specs.Laws.Places.{IsAt}

-- at this place a task of the sequence ends and leaves this value: a seat ends there what it took at an earlier place, on a
-- runner where the task is of this sequence (`thread_pool.h`)
pub record EndOfSequence (script : Plan) (log : List Entry) (s place left : ℕ) : Type 0 where
  pub seat : ℕ
  pub task : ℕ
  pub runner : ℕ
  pub found : ℕ
  pub taken : ℕ
  pub ends : IsAt log place seat (kinds.End task left)
  pub before : taken < place
  pub takes : IsAt log taken seat (kinds.Take task runner found)
  pub of_sequence : sequence_of script runner task ≡ s

-- at this place a main task of the queue ends and leaves this value: a seat ends there what it took from the queue at an
-- earlier place (`sequence_manager.h`)
pub record EndOfQueue (log : List Entry) (queue place left : ℕ) : Type 0 where
  pub seat : ℕ
  pub task : ℕ
  pub found : ℕ
  pub taken : ℕ
  pub ends : IsAt log place seat (kinds.MainEnd task left)
  pub before : taken < place
  pub takes : IsAt log taken seat (kinds.MainTake task queue found)

-- before the place stands no such end
abbrev pub NoEndBefore : (ℕ → ℕ → Type 0) → ℕ → Type 0
NoEndBefore EndAt place = (earlier left : ℕ) → earlier < place → EndAt earlier left → ⊥

-- the last such end before the place left this value
pub record LastEndLeft (EndAt : ℕ → ℕ → Type 0) (place value : ℕ) : Type 0 where
  pub last : ℕ
  pub before : last < place
  pub ended : EndAt last value
  pub none_between : (other left : ℕ) → last < other → other < place → EndAt other left → ⊥

-- the value at the place is what the last such end before it left, or 0 where there is none (this project's own rule)
abbrev pub IsLastLeft : (ℕ → ℕ → Type 0) → ℕ → ℕ → Type 0
IsLastLeft EndAt place value = (NoEndBefore EndAt place × (value ≡ 0)) ⊎ LastEndLeft EndAt place value

-- the seat took the task at an earlier place, and the steps of the task make of what it found then what it leaves
pub record LeavesOfFound (script : Plan) (log : List Entry) (place seat task left : ℕ) : Type 0 where
  pub runner : ℕ
  pub found : ℕ
  pub taken : ℕ
  pub before : taken < place
  pub takes : IsAt log taken seat (kinds.Take task runner found)
  pub leaves : left ≡ after (steps_of script task) found

-- likewise of a main task
pub record LeavesOfFoundMain (script : Plan) (log : List Entry) (place seat task left : ℕ) : Type 0 where
  pub queue : ℕ
  pub found : ℕ
  pub taken : ℕ
  pub before : taken < place
  pub takes : IsAt log taken seat (kinds.MainTake task queue found)
  pub leaves : left ≡ after (steps_of script task) found

pub record StateMovesAlong (script : Plan) (log : List Entry) : Type 0 where
  -- a task finds what the last end of a task of its sequence left, or 0 where none has ended
  pub finds : (place seat task runner found : ℕ) → IsAt log place seat (kinds.Take task runner found)
      → IsLastLeft (EndOfSequence script log (sequence_of script runner task)) place found
  -- a task leaves what its steps make of what it found
  pub leaves : (place seat task left : ℕ) → IsAt log place seat (kinds.End task left) → LeavesOfFound script log place seat task left
  -- a main task finds what the last end of a main task of its queue left, or 0 where none has ended
  pub main_finds : (place seat task queue found : ℕ) → IsAt log place seat (kinds.MainTake task queue found)
      → IsLastLeft (EndOfQueue log queue) place found
  -- a main task leaves what its steps make of what it found
  pub main_leaves : (place seat task left : ℕ) → IsAt log place seat (kinds.MainEnd task left) → LeavesOfFoundMain script log place seat task left
