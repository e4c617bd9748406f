use Rattle.std.proofs.Common.{ap, arith}
use Rattle.task_reply.specs.declared.held.Held.{Held}
use Rattle.task_reply.proofs.Reasons.{declared_below, no_reason}
use Rattle.task_reply.proofs.held.Held.push.Goals as goal

pub add_step-requires : goal.add_step-requires
add_step-requires c = (declared_below c.args.self.now.script c.args.reply (no_reason c.args.self.now c.args.reply c.requires).declared).0

pub overflow_add-self : goal.overflow_add-self
overflow_add-self c =
    omega (arith, (no_reason c.args.self.now c.args.reply c.requires).few_steps, ap (λ (held : Held). held.steps) c.in_ok-add_step.ensures.script)

pub overflow_add-self-2 : goal.overflow_add-self-2
overflow_add-self-2 c =
    omega (arith, (no_reason c.args.self.now c.args.reply c.requires).few_events, ap (λ (held : Held). held.events) c.in_ok-add_step.ensures.script)
