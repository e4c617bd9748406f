use Rattle.env_core.proofs.env.Env.action.Goals as goal

pub returns-clause-closed : goal.returns-clause-closed
returns-clause-closed g c = rw (← c.self.view_is) c.self.invariant.plan.closed
