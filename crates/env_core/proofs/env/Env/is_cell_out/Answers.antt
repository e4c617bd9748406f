use Rattle.std.proofs.Common.{◌<◌, length, subst, sym}
use Rattle.env_core.specs.Views.{EnvView}
use Rattle.env_core.proofs.env.Env.is_cell_out.Goals as goal

pub is_cell_out-requires : goal.is_cell_out-requires
is_cell_out-requires g c = (
  c.self.inside.ledger.script,
  c.self.inside.ledger.history,
  record {
    runner_known = record {
      stands = c.self.invariant.stands;
      declared = subst (λ (v : EnvView). c.args.runner < length v.script.runners) (sym c.self.view_is) c.requires.runner;
    };
    task_declared = subst (λ (v : EnvView). c.args.task < length v.script.tasks) (sym c.self.view_is) c.requires.task;
  },
)

pub returns : goal.returns
returns g c = rw (← c.self.view_is) (c.is_cell_out.ensures c.self.inside.ledger.script c.self.inside.ledger.history (record {
  runner_known = record {
    stands = c.self.invariant.stands;
    declared = subst (λ (v : EnvView). c.args.runner < length v.script.runners) (sym c.self.view_is) c.requires.runner;
  };
  task_declared = subst (λ (v : EnvView). c.args.task < length v.script.tasks) (sym c.self.view_is) c.requires.task;
}))
