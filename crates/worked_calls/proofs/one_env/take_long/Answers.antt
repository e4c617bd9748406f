use Rattle.std.proofs.Common.{refl}
use Rattle.worked_calls.proofs.Scopes.{posts_first, posts_second, takes_first}
use Rattle.worked_calls.proofs.one_env.take_long.Goals as goal

pub post-requires : goal.post-requires
post-requires g c ok = rw c.requires (posts_first c.args.scope ok)

pub post-requires-2 : goal.post-requires-2
post-requires-2 g c ok = simp (c.post.ensures, c.requires) (posts_second c.args.scope ok)

pub take-requires : goal.take-requires
take-requires g c = simp (c.post-2.ensures, c.post.ensures, c.requires) (takes_first c.args.scope)

pub returns-clause-env : goal.returns-clause-env
returns-clause-env g c = simp (c.take.ensures.entered, c.post-2.ensures, c.post.ensures, c.requires) refl

pub returns-clause-work : goal.returns-clause-work
returns-clause-work g c = simp (c.post-2.ensures, c.post.ensures, c.requires) at c.take.ensures.work
