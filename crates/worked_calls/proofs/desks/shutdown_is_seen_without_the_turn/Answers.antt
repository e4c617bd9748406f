use Rattle.std.proofs.Common.{◌∙◌, refl}
use Rattle.task_base.specs.declared.entry.Kind.TheVariants as kinds
use Rattle.hist_model.specs.Script.{current, is_wanted}
use Rattle.worked_calls.proofs.Seated.{at_entered, driver_first, wanted}
use Rattle.worked_calls.specs.Plans.{closing_plan}
use Rattle.worked_calls.proofs.desks.shutdown_is_seen_without_the_turn.Goals as goal

pub open_two-requires-clause-one : goal.open_two-requires-clause-one
open_two-requires-clause-one g c = rw c.in_ok-script.ensures.plan refl

pub post-requires : goal.post-requires
unfolding is_wanted current
post-requires g c ok =
    let key = c.in_ok-shared.shared in
    let script = c.in_ok-shared.ensures.script ∙ c.in_ok-script.ensures.plan in
    let start = driver_first key closing_plan 2 c.desk-driver.result (c.desk-driver.ensures.seat ∙ c.in_ok-shared.ensures.first) script in
    wanted start (kinds.Post 0 0 5 ok) refl

pub start_shutdown-requires : goal.start_shutdown-requires
unfolding is_wanted current
start_shutdown-requires g c =
    let key = c.in_ok-shared.shared in
    let script = c.in_ok-shared.ensures.script ∙ c.in_ok-script.ensures.plan in
    let start = driver_first key closing_plan 2 c.desk-driver.result (c.desk-driver.ensures.seat ∙ c.in_ok-shared.ensures.first) script in
    let posted = at_entered start (kinds.Post 0 0 5 c.post.result) c.post.ensures.holds c.post.ensures.answered.enters in
    wanted posted kinds.Shutdown refl
