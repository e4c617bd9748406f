-- How many tasks of an open loop have ended.
use Rattle.std.specs.Prelude.{ℕ, ◌≤◌}
use Rattle.nested_loop.specs.declared.frame.Frame.{Frame}
use Rattle.nested_loop.specs.declared.frame.Frame.TheVariants as frames

-- where it is a loop, so many of its tasks have ended at most
abbrev pub HasEnded : ℕ → Frame → Type 0
HasEnded n (frames.Loop bound ended) = ended ≤ n
HasEnded n (frames.Task task begun) = Unit {0}
