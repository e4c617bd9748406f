use Rattle.std.proofs.Common.{refl}
use Rattle.worked_calls.proofs.Scopes.{ends_second, takes_second}
use Rattle.worked_calls.proofs.one_env.do_short.Goals as goal

pub take-short-requires : goal.take-short-requires
take-short-requires g c = rw c.requires (takes_second c.args.scope)

pub end-requires-clause-last : goal.end-requires-clause-last
end-requires-clause-last g c = simp (c.take-short.ensures.entered, c.requires) (ends_second c.args.scope)

pub returns : goal.returns
returns g c = simp (c.end.ensures, c.take-short.ensures.entered, c.requires) refl
