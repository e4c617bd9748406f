-- Words of the laws on what shutdown waits for.
use Rattle.std.specs.Prelude.{Bool, List, [], ◌∷◌, ◌++◌}
use Rattle.task_base.specs.Plan.{Plan}
use Rattle.task_base.specs.declared.entry.Kind.{Kind}
use Rattle.task_model.specs.Posts.{Posted}
use Rattle.task_model.specs.Refusal.{effective_at}
use Rattle.task_model.specs.Blockers.{is_block, is_skip}
use Rattle.pool_laws.specs.Moves.{Part, Cancels, Ends, Items, JobPosts, Posts, Takes, moves}

-- the kinds that may change the open block tasks, and the skip tasks that run
abbrev pub open_block_parts : List Part
open_block_parts = Posts ∷ Ends ∷ []

abbrev pub moves_open_blocks : Kind → Bool
moves_open_blocks = moves open_block_parts

abbrev pub running_skip_parts : List Part
running_skip_parts = Takes ∷ open_block_parts

abbrev pub moves_running_skips : Kind → Bool
moves_running_skips = moves running_skip_parts

-- the kinds that may change the open block jobs
abbrev pub open_job_parts : List Part
open_job_parts = JobPosts ∷ Items ∷ Cancels ∷ []

abbrev pub moves_open_jobs : Kind → Bool
moves_open_jobs = moves open_job_parts

-- the kinds that may change the block part, and the skip part
abbrev pub block_parts : List Part
block_parts = open_block_parts ++ open_job_parts

abbrev pub moves_block_part : Kind → Bool
moves_block_part = moves block_parts

abbrev pub skip_parts : List Part
skip_parts = Items ∷ running_skip_parts

abbrev pub moves_skip_part : Kind → Bool
moves_skip_part = moves skip_parts

-- the accepted task is a block task, and a skip task
abbrev pub is_block_task : Plan → Posted → Bool
is_block_task script p = is_block (effective_at script p.home p.delay)

abbrev pub is_skip_task : Plan → Posted → Bool
is_skip_task script p = is_skip (effective_at script p.home p.delay)
