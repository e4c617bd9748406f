use Rattle.std.proofs.Common.{rules, ◌≢◌}
use Rattle.std.proofs.lemmas.Option.{IfSome_then}
use Rattle.task_traits.specs.declared.traits.Behaviour.TheVariants.{BlockShutdown}
use Rattle.env_shared.proofs.Refusals.{refuses}
use Rattle.env_shared.proofs.desk.SharedDesk.shut_to.Goals as goal

pub returns-clause-refuses : goal.returns-clause-refuses
returns-clause-refuses g c =
    let other : c.args.behaviour ≢ BlockShutdown = search rules in
    IfSome_then c.front-place.result c.front-place.ensures.place (λ place at later. refuses c.front-place.new.seat.seen later place c.args.behaviour at.2 other)
