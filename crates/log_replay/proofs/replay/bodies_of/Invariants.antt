use Rattle.std.proofs.Common.{◌≡◌, length}
use Rattle.log_replay.proofs.Fresh.{AreFirst}
use Rattle.log_replay.proofs.replay.bodies_of.Given as goal

abbrev pub invariant-loop-task : goal.invariant-loop-task
invariant-loop-task l =
    (length l.bodies.items ≡ l.task-index) × AreFirst l.bodies.items (λ body. body.value.whole) (λ body. body.value.rest) l.script
