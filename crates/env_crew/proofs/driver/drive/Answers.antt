use Rattle.std.proofs.Common.{◌≡◌, ◌+◌, [], drop, ap, subst, ◌∙◌}
use Rattle.std.proofs.lemmas.List.{drop_all}
use Rattle.std.proofs.lemmas.List.Elements.{All-from_recursion, All-get_or}
use Rattle.task_base.specs.declared.script.Action.TheVariants as actions
use Rattle.script_model.specs.Laws.Sound.{IsActionSound}
use Rattle.env_crew.specs.Driving.{AreLeft}
use Rattle.env_crew.proofs.Holds.{later_refl, later_trans}
use Rattle.env_crew.proofs.Spares.{desks_refl, desks_trans}
use Rattle.env_crew.proofs.Moves.{at_start, at_action, finished_at, nothing_rests}
use Rattle.env_crew.proofs.Time.{time_starts}
use Rattle.env_crew.proofs.driver.drive.Goals as goal

pub loop-action-init : goal.loop-action-init
loop-action-init g c =
    let old = g.D.Desk.desk c.args.desk.now in (
      later_refl old,
      at_start old c.args.script.now c.as_slice-action-items.result.now c.requires.plan.closed c.requires.script
          (c.as_slice-action-items.ensures ∙ ap (λ p. p.actions) c.script.view_is) c.requires.start,
      nothing_rests old c.requires.start,
      rw c.requires.start (time_starts (g.C.Clock.readings c.args.clock.now)),
      c.requires.free,
      desks_refl g.D.Desk.desk c.args.spare.now.items,
    )

pub perform-requires-clause-at : goal.perform-requires-clause-at
perform-requires-clause-at g c κs within =
    let items = c.as_slice-action-items.result.now in
    let i = c.loop-action.action-index in
    (drop (i + 1) items, at_action (g.D.Desk.desk c.loop-action.desk) items i (actions.Post 0 0 0) c.loop-action-test.true c.loop-action.invariant.1)

pub perform-requires-clause-sound : goal.perform-requires-clause-sound
perform-requires-clause-sound g c κs within =
    let script = c.args.script.now in
    let items = c.as_slice-action-items.result.now in
    let same : items ≡ script.actions = c.as_slice-action-items.ensures ∙ ap (λ p. p.actions) c.script.view_is in
    rw (c.loop-action.invariant.0.script_is, c.requires.script) (All-get_or (IsActionSound script) items c.loop-action.action-index
    (actions.Post 0 0 0) c.loop-action-test.true (All-from_recursion (IsActionSound script) items (rw same c.requires.plan.actions.each_sound)))

pub loop-action-preserved : goal.loop-action-preserved
loop-action-preserved g c =
    let items = c.as_slice-action-items.result.now in
    let i = c.loop-action.action-index in
    let done = c.perform.ensures.done in
    let was = c.loop-action.invariant in (
      later_trans (g.D.Desk.desk c.args.desk.now) (g.D.Desk.desk c.loop-action.desk) (g.D.Desk.desk c.perform.new.desk) was.0 done.later,
      done.next (drop (i + 1) items) (at_action (g.D.Desk.desk c.loop-action.desk) items i (actions.Post 0 0 0) c.loop-action-test.true was.1),
      done.rests,
      done.time (g.C.Clock.readings c.args.clock.now) was.3,
      c.perform.ensures.free,
      desks_trans g.D.Desk.desk c.args.spare.now.items c.loop-action.spare.items c.perform.new.spare.items was.5 c.perform.ensures.same,
    )

pub returns-clause-finished : goal.returns-clause-finished
returns-clause-finished g c =
    let was = c.loop-action.invariant in
    finished_at (g.D.Desk.desk c.loop-action.desk) (was.0.seat_is ∙ c.requires.driver)
    (subst (λ left. AreLeft (g.D.Desk.desk c.loop-action.desk) left [])
    (drop_all c.loop-action.action-index c.as_slice-action-items.result.now c.loop-action-test.false) was.1)
