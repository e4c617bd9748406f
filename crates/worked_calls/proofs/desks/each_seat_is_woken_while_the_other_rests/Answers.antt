use Rattle.std.proofs.Common.{◌∙◌, refl}
use Rattle.std.proofs.lemmas.Bool.{leb-true}
use Rattle.task_base.specs.declared.entry.Kind.TheVariants as kinds
use Rattle.task_model.specs.Seats.{holding, running}
use Rattle.hist_model.specs.Script.{current, is_wanted}
use Rattle.worked_calls.proofs.Seated.{at_entered, at_first, at_later, driver_first, free, wanted}
use Rattle.worked_calls.specs.Plans.{flush_plan}
use Rattle.worked_calls.proofs.desks.each_seat_is_woken_while_the_other_rests.Goals as goal

pub open_two-requires-clause-one : goal.open_two-requires-clause-one
open_two-requires-clause-one g c = rw c.in_ok-script.ensures.plan refl

pub assert_served-requires : goal.assert_served-requires
unfolding holding running
assert_served-requires g c =
    let key = c.in_ok-shared.shared in
    let script = c.in_ok-shared.ensures.script ∙ c.in_ok-script.ensures.plan in
    let one = at_first key flush_plan 1 c.desk-worker.result (c.desk-worker.ensures.seat ∙ c.in_ok-shared.ensures.second) script in
    free one (leb-true _ _ refl) (leb-true _ _ refl) refl

pub post-requires : goal.post-requires
unfolding is_wanted current
post-requires g c ok =
    let key = c.in_ok-shared.shared in
    let script = c.in_ok-shared.ensures.script ∙ c.in_ok-script.ensures.plan in
    let start = driver_first key flush_plan 2 c.desk-driver.result (c.desk-driver.ensures.seat ∙ c.in_ok-shared.ensures.first) script in
    wanted start (kinds.Post 0 0 0 ok) refl

pub idle_at_once-requires : goal.idle_at_once-requires
unfolding is_wanted current
idle_at_once-requires g c =
    let key = c.in_ok-shared.shared in
    let script = c.in_ok-shared.ensures.script ∙ c.in_ok-script.ensures.plan in
    let start = driver_first key flush_plan 2 c.desk-driver.result (c.desk-driver.ensures.seat ∙ c.in_ok-shared.ensures.first) script in
    let first = at_entered start (kinds.Post 0 0 0 c.post.result) c.post.ensures.holds c.post.ensures.answered.enters in
    wanted first kinds.Idle refl

pub post-requires-2 : goal.post-requires-2
unfolding is_wanted current
post-requires-2 g c ok =
    let key = c.in_ok-shared.shared in
    let script = c.in_ok-shared.ensures.script ∙ c.in_ok-script.ensures.plan in
    let start = driver_first key flush_plan 2 c.desk-driver.result (c.desk-driver.ensures.seat ∙ c.in_ok-shared.ensures.first) script in
    let first = at_entered start (kinds.Post 0 0 0 c.post.result) c.post.ensures.holds c.post.ensures.answered.enters in
    let waited = at_later first kinds.Idle c.idle_at_once.ensures.later c.idle_at_once.ensures.own in
    wanted waited (kinds.Post 1 0 0 ok) refl

pub post-requires-3 : goal.post-requires-3
unfolding is_wanted current
post-requires-3 g c ok =
    let key = c.in_ok-shared.shared in
    let script = c.in_ok-shared.ensures.script ∙ c.in_ok-script.ensures.plan in
    let start = driver_first key flush_plan 2 c.desk-driver.result (c.desk-driver.ensures.seat ∙ c.in_ok-shared.ensures.first) script in
    let first = at_entered start (kinds.Post 0 0 0 c.post.result) c.post.ensures.holds c.post.ensures.answered.enters in
    let waited = at_later first kinds.Idle c.idle_at_once.ensures.later c.idle_at_once.ensures.own in
    let second = at_entered waited (kinds.Post 1 0 0 c.post-2.result) c.post-2.ensures.holds c.post-2.ensures.answered.enters in
    wanted second (kinds.Post 2 0 0 ok) refl

pub idle-requires : goal.idle-requires
unfolding is_wanted current
idle-requires g c =
    let key = c.in_ok-shared.shared in
    let script = c.in_ok-shared.ensures.script ∙ c.in_ok-script.ensures.plan in
    let start = driver_first key flush_plan 2 c.desk-driver.result (c.desk-driver.ensures.seat ∙ c.in_ok-shared.ensures.first) script in
    let first = at_entered start (kinds.Post 0 0 0 c.post.result) c.post.ensures.holds c.post.ensures.answered.enters in
    let waited = at_later first kinds.Idle c.idle_at_once.ensures.later c.idle_at_once.ensures.own in
    let second = at_entered waited (kinds.Post 1 0 0 c.post-2.result) c.post-2.ensures.holds c.post-2.ensures.answered.enters in
    let third = at_entered second (kinds.Post 2 0 0 c.post-3.result) c.post-3.ensures.holds c.post-3.ensures.answered.enters in
    wanted third kinds.Idle refl
