use Rattle.std.proofs.Common.{rules, ◌≡◌, ◌+◌, ◌<◌, length, get_or, ap, sym, ◌∙◌}
use Rattle.task_model.specs.Seats.{steps_of}
use Rattle.log_replay.proofs.Fresh.{one_more, steps_at}
use Rattle.log_replay.proofs.replay.bodies_of.Goals as goal

pub loop-task-preserved : goal.loop-task-preserved
loop-task-preserved c =
    let tasks_are = c.as_slice-task-items.ensures ∙ ap (λ p. p.tasks) c.script.view_is in
    let within : c.loop-task.task-index < length c.args.script.now.tasks = rw tasks_are at c.loop-task-test.true in
    let steps_are : steps_of c.args.script.now (length c.loop-task.bodies.items) ≡ get_or c.args.script.now.tasks c.loop-task.task-index c.task-item.result
    = rw c.loop-task.invariant.0 (steps_at c.args.script.now c.loop-task.task-index c.task-item.result within) in
    let task_is : c.task.inside.steps.items ≡ get_or c.args.script.now.tasks c.loop-task.task-index c.task-item.result
    = c.task.view_is ∙ c.task-item.is ∙ ap (λ ts. get_or ts c.loop-task.task-index c.task-item.result) tasks_are in
    let body_is : c.in_ok-new.field-0.value ≡ c.in_ok-body_of.field-0 = c.in_ok-new.ensures.ok in
    let count : length c.push.new.self.items ≡ c.loop-task.task-index + 1 = search rules in (
      count,
      rw c.in_ok-push.ensures.items (one_more c.loop-task.bodies.items _ _ c.args.script.now c.in_ok-new.field-0 c.loop-task.invariant.1
          (ap (λ b. b.whole) body_is ∙ c.in_ok-body_of.ensures.whole ∙ task_is ∙ sym steps_are)
          (ap (λ b. b.rest) body_is ∙ c.in_ok-body_of.ensures.rest ∙ task_is ∙ sym steps_are)),
    )
