use Rattle.env_core.proofs.Entries.{at_queue, few_entries, holds_at_main, plain}
use Rattle.std.proofs.Common.{refl}
use Rattle.task_base.specs.declared.entry.Kind.TheVariants as kinds
use Rattle.env_core.proofs.env.Env.fence.Goals as goal

pub fence-requires : goal.fence-requires
fence-requires g c = (
  _,
  _,
  record {
    at = at_queue c.self.invariant c.args.seat c.args.queue (kinds.Fence c.args.queue c.args.at) refl
        (rw c.self.view_is c.requires);
    few = few_entries c.self.invariant;
  },
)

pub enter-requires : goal.enter-requires
enter-requires g c = plain (rw c.self.view_is c.requires) refl refl

pub invariant_of-self : goal.invariant_of-self
invariant_of-self g c = holds_at_main c.self.invariant c.enter.ensures refl (λ t. refl)
    (c.fence.ensures _ _ c.args.seat (record {
      at = at_queue c.self.invariant c.args.seat c.args.queue (kinds.Fence c.args.queue c.args.at) refl
          (rw c.self.view_is c.requires);
      few = few_entries c.self.invariant;
    }))

pub returns : goal.returns
returns g c = rw (← c.self.view_is) c.enter.ensures
