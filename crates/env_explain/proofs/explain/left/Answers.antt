use Rattle.std.proofs.Common.{ap, arith, subst, sym, ◌∙◌}
use Rattle.std.specs.List.{list_all}
use Rattle.env_step.specs.Hands.{is_empty}
use Rattle.env_explain.specs.Explained.{HasInHand}
use Rattle.env_explain.proofs.Explained.{busy_has_more, busy_is_known, busy_not_free, driver_has_more}
use Rattle.env_explain.proofs.explain.left.Goals as goal

pub returns-in-None-clause-more : goal.returns-in-None-clause-more
returns-in-None-clause-more c = driver_has_more c.requires.hands
    (ap (list_all is_empty) (sym c.as_slice.ensures) ∙ c.first_busy.ensures.none c.in-None.is) c.requires.more

pub returns-in-Some-clause-known : goal.returns-in-Some-clause-known
returns-in-Some-clause-known c = busy_is_known c.in-Some.seat c.requires.hands
    (subst (λ hands. HasInHand hands c.in-Some.seat) c.as_slice.ensures c.in-Some.ensures.some)

pub returns-in-Some-clause-more : goal.returns-in-Some-clause-more
returns-in-Some-clause-more c = busy_has_more c.in-Some.seat c.requires.hands
    (subst (λ hands. HasInHand hands c.in-Some.seat) c.as_slice.ensures c.in-Some.ensures.some)

pub next_of_seat-requires-in-Some-clause-busy : goal.next_of_seat-requires-in-Some-clause-busy
next_of_seat-requires-in-Some-clause-busy c worker = busy_not_free c.in-Some.seat c.requires.hands
    (subst (λ hands. HasInHand hands c.in-Some.seat) c.as_slice.ensures c.in-Some.ensures.some)

pub overflow_cast-seat : goal.overflow_cast-seat
overflow_cast-seat c = omega (
  arith,
  c.requires.plan.config.few_workers,
  busy_is_known c.in-Some.seat c.requires.hands
      (subst (λ hands. HasInHand hands c.in-Some.seat) c.as_slice.ensures c.in-Some.ensures.some),
)
