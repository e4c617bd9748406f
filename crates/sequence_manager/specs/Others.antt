-- Entries that change nothing of the main queues.
use Rattle.std.specs.Prelude.{Bool, false, List, ◌∷◌, ◌++◌, not}
use Rattle.task_base.specs.declared.entry.Kind.{Kind}
use Rattle.pool_laws.specs.Moves.{Part, Classes, Closes, Fences, MainPosts, Moment, Votes, moves}
use Rattle.pool_laws.specs.Runs.{run_parts}
use Rattle.pool_laws.specs.Seats.{main_parts}

-- what the main queues know of the past
abbrev pub queue_parts : List Part
queue_parts = MainPosts ∷ Moment ∷ Fences ∷ Votes ∷ Classes ∷ Closes ∷ main_parts

-- an entry of the pool, of jobs, or of the driver alone, but for the taking or ending of a task
abbrev pub is_still : Kind → Bool
is_still kind = not (moves (queue_parts ++ run_parts false) kind)
