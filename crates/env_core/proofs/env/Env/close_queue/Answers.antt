use Rattle.env_core.proofs.Entries.{at_queue, holds_at_main, plain}
use Rattle.std.proofs.Common.{refl}
use Rattle.task_base.specs.declared.entry.Kind.TheVariants as kinds
use Rattle.env_core.proofs.env.Env.close_queue.Goals as goal

pub close-requires : goal.close-requires
close-requires g c = (_, _, at_queue c.self.invariant c.args.seat c.args.queue (kinds.Close c.args.queue) refl (rw c.self.view_is c.requires))

pub enter-requires : goal.enter-requires
enter-requires g c = plain (rw c.self.view_is c.requires) refl refl

pub invariant_of-self : goal.invariant_of-self
invariant_of-self g c = holds_at_main c.self.invariant c.enter.ensures refl (λ t. refl)
    (c.close.ensures _ _ c.args.seat (at_queue c.self.invariant c.args.seat c.args.queue (kinds.Close c.args.queue) refl (rw c.self.view_is c.requires)))

pub returns : goal.returns
returns g c = rw (← c.self.view_is) c.enter.ensures
