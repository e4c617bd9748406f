use Rattle.env_core.proofs.Entries.{at_queue, holds_at_main, plain}
use Rattle.env_core.proofs.Declared.{voter_declared}
use Rattle.std.proofs.Common.{refl}
use Rattle.task_base.specs.declared.entry.Kind.TheVariants as kinds
use Rattle.env_core.proofs.env.Env.vote.Goals as goal

pub vote-requires : goal.vote-requires
vote-requires g c = (
  _,
  _,
  record {
    at = at_queue c.self.invariant c.args.seat c.args.queue (kinds.Vote c.args.queue c.args.voter c.args.on) refl (rw c.self.view_is c.requires);
    has = voter_declared c.self.inside.ledger c.args.seat c.args.queue c.args.voter c.args.on c.self.invariant.plan (rw c.self.view_is c.requires);
  },
)

pub enter-requires : goal.enter-requires
enter-requires g c = plain (rw c.self.view_is c.requires) refl refl

pub invariant_of-self : goal.invariant_of-self
invariant_of-self g c = holds_at_main c.self.invariant c.enter.ensures refl (λ t. refl) (c.vote.ensures _ _ c.args.seat (record {
  at = at_queue c.self.invariant c.args.seat c.args.queue (kinds.Vote c.args.queue c.args.voter c.args.on) refl (rw c.self.view_is c.requires);
  has = voter_declared c.self.inside.ledger c.args.seat c.args.queue c.args.voter c.args.on c.self.invariant.plan (rw c.self.view_is c.requires);
}))

pub returns : goal.returns
returns g c = rw (← c.self.view_is) c.enter.ensures
