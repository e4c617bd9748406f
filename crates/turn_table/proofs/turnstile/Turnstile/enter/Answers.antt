use Rattle.std.proofs.Common.{rules, sym, ap, subst, subst₂}
use Rattle.hist_model.specs.Legal.{IsLegal}
use Rattle.turn_table.proofs.Turns.{later_is_legal}
use Rattle.turn_table.proofs.turnstile.Turnstile.enter.Goals as goal

pub returns-clause-legal : goal.returns-clause-legal
returns-clause-legal g c =
    let held : IsLegal c.args.self.now.basis c.args.holding.seen = subst₂ IsLegal (search rules) (search rules) c.holding.invariant.2.legal in
    subst (IsLegal c.args.self.now.basis) (sym (ap (λ v. v.seen) c.enter_value.ensures.view)) (later_is_legal _ _ _ _ held c.requires.one)
