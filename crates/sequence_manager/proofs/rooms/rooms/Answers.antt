use Rattle.sequence_manager.proofs.Counting.{actions_counted, can_count_actions, can_count_steps, steps_counted, tasks_counted}
use Rattle.sequence_manager.specs.Postings.{postings_of_tasks}
use Rattle.std.proofs.Common.{ap, length, sym, take, ◌∙◌, ◌≡◌}
use Rattle.task_base.specs.Plan.{Plan}
use Rattle.sequence_manager.proofs.rooms.rooms.Goals as goal

pub count_steps-requires : goal.count_steps-requires
count_steps-requires c =
    let tasks : c.as_slice-task-items.result.now ≡ c.args.script.now.tasks = c.as_slice-task-items.ensures ∙ ap (λ (s : Plan). s.tasks) c.script.view_is in (
      length c.args.script.now.queues,
      postings_of_tasks (take c.loop-task.task-index c.args.script.now.tasks),
      can_count_steps c.args.script.now c.loop-task.rooms.items c.loop-task.task-index c.task-item.result c.as_slice.result.now c.requires
          (rw tasks at c.loop-task-test.true) (rw tasks at c.task-item.is) (c.as_slice.ensures ∙ c.task.view_is) c.loop-task.invariant,
    )

pub loop-task-preserved : goal.loop-task-preserved
loop-task-preserved c =
    let tasks : c.as_slice-task-items.result.now ≡ c.args.script.now.tasks = c.as_slice-task-items.ensures ∙ ap (λ (s : Plan). s.tasks) c.script.view_is in
    steps_counted c.args.script.now c.count_steps.new.counts.items c.loop-task.task-index c.task-item.result c.as_slice.result.now
    (rw tasks at c.loop-task-test.true) (rw tasks at c.task-item.is) (c.as_slice.ensures ∙ c.task.view_is)
    (c.count_steps.ensures _ _ c.loop-task.invariant)

pub count_actions-requires : goal.count_actions-requires
count_actions-requires c =
    let tasks : c.as_slice-task-items.result.now ≡ c.args.script.now.tasks = c.as_slice-task-items.ensures ∙ ap (λ (s : Plan). s.tasks) c.script.view_is in (
      length c.args.script.now.queues,
      postings_of_tasks c.args.script.now.tasks,
      can_count_actions c.args.script.now c.loop-task.rooms.items c.loop-task.task-index c.as_slice-2.result.now c.requires (rw tasks at c.loop-task-test.false)
          (c.as_slice-2.ensures ∙ ap (λ (s : Plan). s.actions) c.script.view_is) c.loop-task.invariant,
    )

pub returns : goal.returns
returns c =
    let tasks : c.as_slice-task-items.result.now ≡ c.args.script.now.tasks = c.as_slice-task-items.ensures ∙ ap (λ (s : Plan). s.tasks) c.script.view_is in
    actions_counted c.args.script.now c.count_actions.new.counts.items c.as_slice-2.result.now (ap (λ (s : Plan). s.is_open) (sym c.script.view_is))
    (c.as_slice-2.ensures ∙ ap (λ (s : Plan). s.actions) c.script.view_is)
    (c.count_actions.ensures _ _ (tasks_counted c.args.script.now c.loop-task.rooms.items c.loop-task.task-index (rw tasks at c.loop-task-test.false)
    c.loop-task.invariant))
