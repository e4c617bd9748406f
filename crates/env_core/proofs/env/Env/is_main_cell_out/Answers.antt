use Rattle.std.proofs.Common.{◌<◌, length, subst, sym}
use Rattle.env_core.specs.Views.{EnvView}
use Rattle.env_core.proofs.env.Env.is_main_cell_out.Goals as goal

pub is_cell_out-requires : goal.is_cell_out-requires
is_cell_out-requires g c = (
  c.self.inside.ledger.script,
  c.self.inside.ledger.history,
  record {
    stands = c.self.invariant.main;
    declared = subst (λ (v : EnvView). c.args.queue < length v.script.queues) (sym c.self.view_is) c.requires;
  },
)

pub returns : goal.returns
returns g c = rw (← c.self.view_is) (c.is_cell_out.ensures c.self.inside.ledger.script c.self.inside.ledger.history (record {
  stands = c.self.invariant.main;
  declared = subst (λ (v : EnvView). c.args.queue < length v.script.queues) (sym c.self.view_is) c.requires;
}))
