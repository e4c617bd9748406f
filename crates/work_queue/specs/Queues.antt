-- The three queues that the two lanes lie in.
use Rattle.std.specs.Prelude.{◌≡◌, ℕ, List, [], ◌++◌}
use Rattle.list_laws.specs.Sorts.{Rises}
use Rattle.work_queue.specs.declared.queued.Queued.{Queued}
use Rattle.work_queue.specs.Lanes.{comes_before}

-- the immediate work queue is empty only where no task comes in, and each lane rises
pub record IsSound (incoming immediate delayed : List Queued) : Type 0 where
  pub reloaded : immediate ≡ [] → incoming ≡ []
  pub immediate_rises : Rises comes_before (immediate ++ incoming)
  pub delayed_rises : Rises comes_before delayed

-- each of the queues has the room that it was made with, and no more: no call takes any
pub record HasRoom (room incoming immediate delayed : ℕ) : Type 0 where
  pub incoming_room : incoming ≡ room
  pub immediate_room : immediate ≡ room
  pub delayed_room : delayed ≡ room
