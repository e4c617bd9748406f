use Rattle.std.proofs.Common.{◌≡◌, length}
use Rattle.task_body.specs.Kinds.{view_of}
use Rattle.log_replay.proofs.Fresh.{AreFirst}
use Rattle.app_modes.proofs.bodies.bodies_of.Given as goal

abbrev pub invariant-loop-task : goal.invariant-loop-task
invariant-loop-task l =
    (length l.bodies.items ≡ l.task-index)
    × AreFirst l.bodies.items (λ body. (view_of body.value).whole) (λ body. (view_of body.value).rest) l.script
