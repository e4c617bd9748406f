use Rattle.std.proofs.Common.{◌≡◌, ◌<◌, ◌≤◌, sym, ap, ◌∙◌, subst, Some, arith}
use Rattle.std.specs.Prelude.{slice_get}
use Rattle.nested_loop.specs.Nest.{steps_of}
use Rattle.nested_loop.specs.Stands.{Made}
use Rattle.nested_loop.specs.declared.event.Event.TheVariants as events
use Rattle.nested_loop.specs.declared.nest.NestStep.TheVariants as steps
use Rattle.nested_loop.proofs.Made.{depth_fits, ended_fit, frames_free, task_can_post, task_end, task_loop, task_post, task_room, task_say}
use Rattle.nested_loop.proofs.machine.Machine.step_task.Goals as goal

pub end_task-requires : goal.end_task-requires
end_task-requires c = ended_fit c.args.nest.now c.requires.0 c.args.self.now c.requires.1

pub returns-in-None : goal.returns-in-None
returns-in-None c = λ past stands inside.
    task_end c.args.nest.now past c.args.self.now stands c.args.task c.args.begun inside c.end_task.new.self (sym c.in-None.ensures.step)
    c.end_task.ensures.items c.end_task.ensures.spare

pub post-requires : goal.post-requires
post-requires c = (
  c.args.nest.now,
  c.requires.0,
  task_can_post c.args.nest.now c.requires.0 c.args.self.now c.requires.1 c.args.task c.args.begun c.requires.2 c.in-Post.task c.in-Post.queue
      (sym c.in-Some.ensures.step ∙ ap Some c.in-Post.is),
)

pub enter_loop-requires-clause-room : goal.enter_loop-requires-clause-room
enter_loop-requires-clause-room c =
    let room = task_room c.args.nest.now c.requires.0 c.args.self.now c.requires.1 c.args.task c.args.begun c.requires.2 in
    let free : 0 < c.args.self.now.frames.spare = frames_free c.args.nest.now c.requires.0 c.args.self.now c.requires.1 room in
    let kept : c.args.self.now.frames.spare ≤ c.replace.new.self.spare = c.replace.ensures.spare in
    omega (arith, free, kept)

pub enter_loop-requires-clause-depth : goal.enter_loop-requires-clause-depth
enter_loop-requires-clause-depth c = depth_fits c.args.nest.now c.requires.0 c.args.self.now c.requires.1

pub returns-in-Say : goal.returns-in-Say
returns-in-Say c = λ past stands inside.
    task_say c.args.nest.now past c.args.self.now stands c.args.task c.args.begun inside c.in-Say.value c.replace.new.self
    (sym c.in-Some.ensures.step ∙ ap Some c.in-Say.is) c.replace.ensures.items c.replace.ensures.spare

pub returns-in-Post : goal.returns-in-Post
returns-in-Post c = λ past stands inside.
    let is : slice_get (steps_of c.args.nest.now c.args.task) c.args.begun ≡ Some (steps.Post c.in-Post.task c.in-Post.queue) =
    sym c.in-Some.ensures.step ∙ ap Some c.in-Post.is in
    task_post c.args.nest.now past c.args.self.now stands c.args.task c.args.begun inside c.in-Post.task c.in-Post.queue c.replace.new.self c.post.new.self is
    c.replace.ensures.items c.replace.ensures.spare
    (c.post.ensures c.args.nest.now past
    (task_can_post c.args.nest.now past c.args.self.now stands c.args.task c.args.begun inside c.in-Post.task c.in-Post.queue is))

pub returns-in-Loop : goal.returns-in-Loop
returns-in-Loop c = λ past stands inside.
    subst (λ depth. Made c.args.nest.now past (events.Loop depth) c.enter_loop.new.self) (sym (ap (λ machine. machine.depth) c.enter_loop.ensures.others))
    (task_loop c.args.nest.now past c.args.self.now stands c.args.task c.args.begun inside c.in-Loop.bound c.replace.new.self c.enter_loop.new.self
    (sym c.in-Some.ensures.step ∙ ap Some c.in-Loop.is) c.replace.ensures.items c.replace.ensures.spare
    c.enter_loop.ensures.others c.enter_loop.ensures.frames c.enter_loop.ensures.spare)
