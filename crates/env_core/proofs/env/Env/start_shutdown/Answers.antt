use Rattle.env_core.proofs.Entries.{holds_at_pool, plain}
use Rattle.env_core.proofs.Wanted.{plain_allowed}
use Rattle.env_core.proofs.Declared.{starts_while_running}
use Rattle.std.proofs.Common.{refl, ◌∙◌}
use Rattle.task_base.specs.declared.entry.Kind.TheVariants as kinds
use Rattle.task_model.proofs.Growth.{phase_of_push}
use Rattle.env_core.proofs.env.Env.start_shutdown.Goals as goal

pub start_shutdown-requires : goal.start_shutdown-requires
start_shutdown-requires g c =
    let view = c.self.inside.ledger in
    let allowed = plain_allowed view c.args.seat kinds.Shutdown (rw c.self.view_is c.requires) refl in (
      view.script,
      view.history,
      record {
        stands = c.self.invariant.stands;
        phase_is = starts_while_running view.script view.history c.args.seat c.self.invariant.plan c.self.invariant.legal allowed;
      },
    )

pub enter-requires : goal.enter-requires
enter-requires g c = plain (rw c.self.view_is c.requires) refl refl

pub invariant_of-self : goal.invariant_of-self
invariant_of-self g c =
    let view = c.self.inside.ledger in
    let allowed = plain_allowed view c.args.seat kinds.Shutdown (rw c.self.view_is c.requires) refl in
    holds_at_pool c.self.invariant c.enter.ensures refl (λ t. refl) (c.start_shutdown.ensures view.script view.history c.args.seat (record {
      stands = c.self.invariant.stands;
      phase_is = starts_while_running view.script view.history c.args.seat c.self.invariant.plan c.self.invariant.legal allowed;
    }))

pub returns-clause-enters : goal.returns-clause-enters
returns-clause-enters g c = rw (← c.self.view_is) c.enter.ensures

pub returns-clause-started : goal.returns-clause-started
returns-clause-started g c =
    let view = c.self.inside.ledger in
    let running = starts_while_running view.script view.history c.args.seat c.self.invariant.plan c.self.invariant.legal
    (plain_allowed view c.args.seat kinds.Shutdown (rw c.self.view_is c.requires) refl) in
    rw c.enter.ensures.entered (phase_of_push view.history (record { seat = c.args.seat; kind = kinds.Shutdown }) ∙ rw running refl)
