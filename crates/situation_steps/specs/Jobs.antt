-- Words on jobs that code takes one by one.
use Rattle.std.specs.Prelude.{ℕ, ◌-◌, Bool, nat_lt, min, length}
use Rattle.task_base.specs.Plan.{Plan}
use Rattle.task_model.specs.Jobs.{cap_of, items_of}
use Rattle.situation.specs.Situation.{Situation}
use Rattle.log_count.specs.Sources.{done_in, inside_in}

-- fewer are inside the job than may be
abbrev pub has_place_in : Plan → Situation → ℕ → Bool
has_place_in script s j = nat_lt (length (inside_in script s j)) (min (min (cap_of script j) 32) (items_of script j - done_in script s j))
