use Rattle.std.proofs.Common.{◌∙◌, ap, refl}
use Rattle.std.proofs.lemmas.Bool.{leb-true}
use Rattle.worked_calls.proofs.Seated.{can_ask}
use Rattle.worked_calls.specs.Plans.{quiet_plan}
use Rattle.turn_table.specs.Seats.{SeatView}
use Rattle.worked_calls.proofs.threads.nobody_takes_what_is_not_posted.Goals as goal

pub open_three-requires-clause-two : goal.open_three-requires-clause-two
open_three-requires-clause-two g c = rw c.in_ok-script.ensures.plan refl

pub scoped-one-requires-clause-one : goal.scoped-one-requires-clause-one
scoped-one-requires-clause-one g c κs =
    let key = c.in_ok-shared.shared in
    can_ask key quiet_plan 1 c.in_ok-shared.one c.in_ok-shared.ensures.one
    (c.in_ok-shared.ensures.script ∙ c.in_ok-script.ensures.plan) (leb-true _ _ refl) (leb-true _ _ refl)

pub scoped-one-requires-clause-two : goal.scoped-one-requires-clause-two
scoped-one-requires-clause-two g c κs =
    let key = c.in_ok-shared.shared in
    can_ask key quiet_plan 2 c.in_ok-shared.two c.in_ok-shared.ensures.two
    (c.in_ok-shared.ensures.script ∙ c.in_ok-script.ensures.plan) (leb-true _ _ refl) (leb-true _ _ refl)

pub log_of_three-requires-clause-one : goal.log_of_three-requires-clause-one
log_of_three-requires-clause-one g c =
    let key = c.in_ok-shared.shared in
    let seat = c.in_ok-shared.ensures.one in
    record { of_is = c.scoped-one.ensures.one.0; number_is = c.scoped-one.ensures.one.1 ∙ ap (λ (s : SeatView). s.number) seat }

pub log_of_three-requires-clause-two : goal.log_of_three-requires-clause-two
log_of_three-requires-clause-two g c =
    let key = c.in_ok-shared.shared in
    let seat = c.in_ok-shared.ensures.two in
    record { of_is = c.scoped-one.ensures.two.0; number_is = c.scoped-one.ensures.two.1 ∙ ap (λ (s : SeatView). s.number) seat }
