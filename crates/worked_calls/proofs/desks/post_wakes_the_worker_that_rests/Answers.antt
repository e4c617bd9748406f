use Rattle.std.proofs.Common.{◌∙◌, refl}
use Rattle.std.proofs.lemmas.Bool.{leb-true}
use Rattle.task_base.specs.declared.entry.Kind.TheVariants as kinds
use Rattle.task_model.specs.Seats.{holding, running}
use Rattle.hist_model.specs.Script.{current, is_wanted}
use Rattle.worked_calls.proofs.Seated.{at_entered, at_first, driver_first, free, wanted}
use Rattle.worked_calls.specs.Plans.{first_plan}
use Rattle.worked_calls.proofs.desks.post_wakes_the_worker_that_rests.Goals as goal

pub open_two-requires-clause-one : goal.open_two-requires-clause-one
open_two-requires-clause-one g c = rw c.in_ok-script.ensures.plan refl

pub find_nothing-requires : goal.find_nothing-requires
unfolding holding running
find_nothing-requires g c =
    let key = c.in_ok-shared.shared in
    let script = c.in_ok-shared.ensures.script ∙ c.in_ok-script.ensures.plan in
    let one = at_first key first_plan 1 c.desk-worker.result (c.desk-worker.ensures.seat ∙ c.in_ok-shared.ensures.second) script in
    free one (leb-true _ _ refl) (leb-true _ _ refl) refl

pub post-requires : goal.post-requires
unfolding is_wanted current
post-requires g c ok =
    let key = c.in_ok-shared.shared in
    let script = c.in_ok-shared.ensures.script ∙ c.in_ok-script.ensures.plan in
    let start = driver_first key first_plan 2 c.desk-driver.result (c.desk-driver.ensures.seat ∙ c.in_ok-shared.ensures.first) script in
    wanted start (kinds.Post 0 0 0 ok) refl

pub idle_at_once-requires : goal.idle_at_once-requires
unfolding is_wanted current
idle_at_once-requires g c =
    let key = c.in_ok-shared.shared in
    let script = c.in_ok-shared.ensures.script ∙ c.in_ok-script.ensures.plan in
    let start = driver_first key first_plan 2 c.desk-driver.result (c.desk-driver.ensures.seat ∙ c.in_ok-shared.ensures.first) script in
    let posted = at_entered start (kinds.Post 0 0 0 c.post.result) c.post.ensures.holds c.post.ensures.answered.enters in
    wanted posted kinds.Idle refl
