use Rattle.std.proofs.Common.{refl, sym, subst}
use Rattle.situation_steps.specs.Reached.{IsReached}
use Rattle.situation_after.proofs.Comes.{the_next_is_reached, what_is_next_comes}
use Rattle.situation_after.proofs.going.onward.Goals as goal

pub after-requires : goal.after-requires
after-requires c =
    what_is_next_comes c.args.script.now (λ s. c.args.moment) c.args.s.now c.args.seat c.in-Some.kind c.requires.reached c.requires.known
    (sym (c.in-Some.ensures (λ s. c.args.moment) refl))

pub returns-in_ok-there-in-Some-clause-reached : goal.returns-in_ok-there-in-Some-clause-reached
returns-in_ok-there-in-Some-clause-reached c =
    let comes = what_is_next_comes c.args.script.now (λ s. c.args.moment) c.args.s.now c.args.seat c.in-Some.kind c.requires.reached c.requires.known
    (sym (c.in-Some.ensures (λ s. c.args.moment) refl)) in
    subst (IsReached c.args.script.now) (sym c.in_ok-there-in-Some.ensures)
    (the_next_is_reached c.args.script.now c.args.s.now c.args.seat c.in-Some.kind comes)
