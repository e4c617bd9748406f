use Rattle.env_core.proofs.Entries.{at_queue, holds_at_main, plain}
use Rattle.env_core.proofs.Declared.{class_within}
use Rattle.std.proofs.Common.{refl}
use Rattle.task_base.specs.declared.entry.Kind.TheVariants as kinds
use Rattle.env_core.proofs.env.Env.rank.Goals as goal

pub rank-requires : goal.rank-requires
rank-requires g c = (
  _,
  _,
  record {
    at = at_queue c.self.invariant c.args.seat c.args.queue (kinds.Rank c.args.queue c.args.class) refl (rw c.self.view_is c.requires);
    fits = class_within c.self.inside.ledger c.args.seat c.args.queue c.args.class c.self.invariant.plan (rw c.self.view_is c.requires);
  },
)

pub enter-requires : goal.enter-requires
enter-requires g c = plain (rw c.self.view_is c.requires) refl refl

pub invariant_of-self : goal.invariant_of-self
invariant_of-self g c = holds_at_main c.self.invariant c.enter.ensures refl (λ t. refl) (c.rank.ensures _ _ c.args.seat (record {
  at = at_queue c.self.invariant c.args.seat c.args.queue (kinds.Rank c.args.queue c.args.class) refl (rw c.self.view_is c.requires);
  fits = class_within c.self.inside.ledger c.args.seat c.args.queue c.args.class c.self.invariant.plan (rw c.self.view_is c.requires);
}))

pub returns : goal.returns
returns g c = rw (← c.self.view_is) c.enter.ensures
