-- Entries that change nothing of the pool, or little.
use Rattle.std.specs.Prelude.{Bool, List, [], ◌∷◌, ◌++◌, not}
use Rattle.task_base.specs.declared.entry.Kind.{Kind}
use Rattle.pool_laws.specs.Choice.{held_parts, waiting_parts}
use Rattle.pool_laws.specs.Keys.{ready_parts}
use Rattle.pool_laws.specs.Moves.{Part, Ends, Phases, Posts, Priorities, Moment, Scopes, Takes, moves}
use Rattle.pool_laws.specs.Seats.{seat_parts}
use Rattle.pool_laws.specs.Shutdown.{block_parts, open_job_parts, skip_parts}

-- what the pool knows of the past: what waits, and scopes
abbrev pub pool_parts : List Part
pool_parts = Scopes ∷ waiting_parts

-- an entry that moves none of it: one of the main queues, other than those at which the driver takes or ends, or one that only reports
abbrev pub is_still : Kind → Bool
is_still kind = not (moves pool_parts kind)

-- what the groups know, and with the posts what the past of the pool tells
abbrev pub group_parts : List Part
group_parts = Moment ∷ Scopes ∷ seat_parts

abbrev pub past_parts : List Part
past_parts = Posts ∷ group_parts

-- what it tells of the pool's tasks
abbrev pub task_parts : List Part
task_parts = Takes ∷ Ends ∷ Scopes ∷ ready_parts

-- what the lines of tasks know beside the arrivals and what runs
abbrev pub line_parts : List Part
line_parts = Takes ∷ Ends ∷ Phases ∷ []

-- what the tracker counts, with the phase and the policy
abbrev pub tracked_parts : List Part
tracked_parts = held_parts ++ block_parts ++ skip_parts

-- what the tables know of priorities, keys and jobs
abbrev pub table_parts : List Part
table_parts = Priorities ∷ ready_parts ++ open_job_parts
