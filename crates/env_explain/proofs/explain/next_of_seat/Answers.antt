use Rattle.std.proofs.Common.{arith, refl, subst, sym, ◌∙◌}
use Rattle.std.proofs.lemmas.Bool.{both_ways}
use Rattle.task_model.specs.Seats.{is_free}
use Rattle.env_step.specs.Steps.{WaitsFor}
use Rattle.env_explain.proofs.Explained.{went_on}
use Rattle.env_explain.proofs.explain.next_of_seat.Goals as goal

pub at-requires : goal.at-requires
at-requires c = omega (arith, c.requires.hands.all, c.requires.known)

pub returns-in-Ok : goal.returns-in-Ok
returns-in-Ok c kind = rw (c.goes_on.ensures, c.work_in-work.ensures) (went_on c.args.env.now c.args.seat c.at.result.now c.in-Ok.next kind
    (c.requires.hands.each c.args.seat c.at.result.now c.at.ensures) c.requires.busy c.in-Ok.ensures.steps.0.allowed)

pub waits_for-requires : goal.waits_for-requires
waits_for-requires c is =
    let waits = subst (λ w. WaitsFor w c.args.env.now.script c.args.env.now.history c.args.seat) is c.in-Err.ensures.steps.2 in
    both_ways (is_free c.args.env.now.history c.args.seat) (c.requires.busy waits.0.0) waits.0.1

pub returns-in-Err : goal.returns-in-Err
returns-in-Err c kind = c.waits_for.ensures c.args.env.now.script c.args.env.now.history c.args.seat kind c.in-Err.ensures.steps.2
