use Rattle.std.proofs.Common.{rules, subst, subst₂}
use Rattle.hist_model.specs.Legal.{IsLegal}
use Rattle.turn_table.specs.Shutdowns.{IsShutdownAt}
use Rattle.turn_table.proofs.Turns.{later_is_legal, shutdown_entered}
use Rattle.turn_table.proofs.turnstile.Turnstile.enter_shutdown.Goals as goal

pub set_front-requires-clause-stands : goal.set_front-requires-clause-stands
set_front-requires-clause-stands g c =
    subst₂ IsShutdownAt (search rules) (search rules) (shutdown_entered _ _ _ _ c.requires.one c.requires.kind)

pub returns-clause-legal : goal.returns-clause-legal
returns-clause-legal g c =
    let held : IsLegal c.args.self.now.basis c.args.holding.seen = subst₂ IsLegal (search rules) (search rules) c.holding.invariant.2.legal in
    subst (IsLegal c.args.self.now.basis) (search rules) (later_is_legal _ _ _ _ held c.requires.one)
