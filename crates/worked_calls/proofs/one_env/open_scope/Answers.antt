use Rattle.worked_calls.proofs.Scopes.{opens_scope, scope_opened}
use Rattle.worked_calls.proofs.one_env.open_scope.Goals as goal

pub act-requires : goal.act-requires
act-requires g c = rw c.requires.env (opens_scope c.args.scope)

pub returns-clause-env : goal.returns-clause-env
returns-clause-env g c = scope_opened c.args.scope c.args.env.now c.act.new.self c.act.result c.requires.env c.act.ensures.enters
