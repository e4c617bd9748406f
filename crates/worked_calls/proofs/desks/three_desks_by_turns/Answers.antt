use Rattle.std.proofs.Common.{◌∙◌, refl}
use Rattle.std.proofs.lemmas.Bool.{leb-true}
use Rattle.task_base.specs.declared.entry.Kind.TheVariants as kinds
use Rattle.task_base.specs.declared.step.Scope.TheVariants as scopes
use Rattle.task_base.specs.declared.step.Step.TheVariants as steps
use Rattle.task_model.specs.Seats.{acts_done, holding, running}
use Rattle.hist_model.specs.Script.{current, is_wanted}
use Rattle.worked_calls.proofs.Seated.{at_entered, at_first, at_later, driver_first, free, last, next, wanted}
use Rattle.worked_calls.specs.Plans.{will_plan}
use Rattle.worked_calls.proofs.desks.three_desks_by_turns.Goals as goal

pub open_three-requires-clause-two : goal.open_three-requires-clause-two
open_three-requires-clause-two g c = rw c.in_ok-script.ensures.plan refl

pub post-requires : goal.post-requires
unfolding is_wanted current
post-requires g c ok =
    let key = c.in_ok-shared.shared in
    let script = c.in_ok-shared.ensures.script ∙ c.in_ok-script.ensures.plan in
    let start = driver_first key will_plan 3 c.desk-driver.result (c.desk-driver.ensures.seat ∙ c.in_ok-shared.ensures.first) script in
    wanted start (kinds.Post 0 0 0 ok) refl

pub post-requires-2 : goal.post-requires-2
unfolding is_wanted current
post-requires-2 g c ok =
    let key = c.in_ok-shared.shared in
    let script = c.in_ok-shared.ensures.script ∙ c.in_ok-script.ensures.plan in
    let start = driver_first key will_plan 3 c.desk-driver.result (c.desk-driver.ensures.seat ∙ c.in_ok-shared.ensures.first) script in
    let posted = at_entered start (kinds.Post 0 0 0 c.post.result) c.post.ensures.holds c.post.ensures.answered.enters in
    wanted posted (kinds.Post 1 0 0 ok) refl

pub take-long-requires : goal.take-long-requires
unfolding holding running
take-long-requires g c =
    let key = c.in_ok-shared.shared in
    let script = c.in_ok-shared.ensures.script ∙ c.in_ok-script.ensures.plan in
    let one = at_first key will_plan 1 c.desk-worker.result (c.desk-worker.ensures.seat ∙ c.in_ok-shared.ensures.one) script in
    free one (leb-true _ _ refl) (leb-true _ _ refl) refl

pub enter-requires : goal.enter-requires
unfolding running acts_done
enter-requires g c =
    let key = c.in_ok-shared.shared in
    let script = c.in_ok-shared.ensures.script ∙ c.in_ok-script.ensures.plan in
    let one = at_first key will_plan 1 c.desk-worker.result (c.desk-worker.ensures.seat ∙ c.in_ok-shared.ensures.one) script in
    let took = at_later one (kinds.Take 0 0 0) c.take-long.ensures.later c.take-long.ensures.own in
    next took (steps.Block scopes.Will) (leb-true _ _ refl) refl

pub take-short-requires : goal.take-short-requires
unfolding holding running
take-short-requires g c =
    let key = c.in_ok-shared.shared in
    let script = c.in_ok-shared.ensures.script ∙ c.in_ok-script.ensures.plan in
    let other = at_first key will_plan 2 c.desk-other.result (c.desk-other.ensures.seat ∙ c.in_ok-shared.ensures.two) script in
    free other (leb-true _ _ refl) (leb-true _ _ refl) refl

pub end-requires-clause-last : goal.end-requires-clause-last
unfolding running acts_done
end-requires-clause-last g c =
    let key = c.in_ok-shared.shared in
    let script = c.in_ok-shared.ensures.script ∙ c.in_ok-script.ensures.plan in
    let other = at_first key will_plan 2 c.desk-other.result (c.desk-other.ensures.seat ∙ c.in_ok-shared.ensures.two) script in
    let took = at_later other (kinds.Take 1 0 0) c.take-short.ensures.later c.take-short.ensures.own in
    last took 1 (leb-true _ _ refl) refl refl

pub leave-requires : goal.leave-requires
unfolding running acts_done
leave-requires g c =
    let key = c.in_ok-shared.shared in
    let script = c.in_ok-shared.ensures.script ∙ c.in_ok-script.ensures.plan in
    let one = at_first key will_plan 1 c.desk-worker.result (c.desk-worker.ensures.seat ∙ c.in_ok-shared.ensures.one) script in
    let took = at_later one (kinds.Take 0 0 0) c.take-long.ensures.later c.take-long.ensures.own in
    let entered = at_later took (kinds.Enter c.enter.ensures.own.0 scopes.Will) c.enter.ensures.later c.enter.ensures.own.1 in
    next entered steps.Unblock (leb-true _ _ refl) refl

pub end-requires-2-clause-last : goal.end-requires-2-clause-last
unfolding running acts_done
end-requires-2-clause-last g c =
    let key = c.in_ok-shared.shared in
    let script = c.in_ok-shared.ensures.script ∙ c.in_ok-script.ensures.plan in
    let one = at_first key will_plan 1 c.desk-worker.result (c.desk-worker.ensures.seat ∙ c.in_ok-shared.ensures.one) script in
    let took = at_later one (kinds.Take 0 0 0) c.take-long.ensures.later c.take-long.ensures.own in
    let entered = at_later took (kinds.Enter c.enter.ensures.own.0 scopes.Will) c.enter.ensures.later c.enter.ensures.own.1 in
    let left = at_later entered (kinds.Leave c.leave.ensures.own.0) c.leave.ensures.later c.leave.ensures.own.1 in
    last left 0 (leb-true _ _ refl) refl refl

pub try_idle-requires : goal.try_idle-requires
unfolding is_wanted current
try_idle-requires g c =
    let key = c.in_ok-shared.shared in
    let script = c.in_ok-shared.ensures.script ∙ c.in_ok-script.ensures.plan in
    let start = driver_first key will_plan 3 c.desk-driver.result (c.desk-driver.ensures.seat ∙ c.in_ok-shared.ensures.first) script in
    let posted = at_entered start (kinds.Post 0 0 0 c.post.result) c.post.ensures.holds c.post.ensures.answered.enters in
    let both = at_entered posted (kinds.Post 1 0 0 c.post-2.result) c.post-2.ensures.holds c.post-2.ensures.answered.enters in
    wanted both kinds.Idle refl
