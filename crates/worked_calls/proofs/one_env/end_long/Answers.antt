use Rattle.std.proofs.Common.{ap, ◌∙◌}
use Rattle.task_base.specs.declared.entry.Kind.TheVariants as kinds
use Rattle.worked_calls.proofs.Scopes.{closes_scope, ends_first, scope_closed}
use Rattle.worked_calls.specs.Known.{with_entry}
use Rattle.worked_calls.proofs.one_env.end_long.Goals as goal

pub act-requires : goal.act-requires
act-requires g c = rw c.requires.env (closes_scope c.args.scope)

pub end-requires-clause-last : goal.end-requires-clause-last
end-requires-clause-last g c =
    rw (scope_closed c.args.scope c.args.env.now c.act.new.self c.act.result c.requires.env c.act.ensures.enters) (ends_first c.args.scope)

pub returns : goal.returns
returns g c = c.end.ensures
    ∙ ap (λ v. with_entry v 1 (kinds.End 0 1))
    (scope_closed c.args.scope c.args.env.now c.act.new.self c.act.result c.requires.env c.act.ensures.enters)
