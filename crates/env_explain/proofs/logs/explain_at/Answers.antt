use Rattle.std.proofs.Common.{◌≤◌, List, Some, ap, arith, length, refl, subst, sym, take, ◌∙◌}
use Rattle.std.proofs.lemmas.List.{length-take-le, take_all}
use Rattle.std.specs.Prelude.{IfOk}
use Rattle.task_base.specs.Plan.{Plan}
use Rattle.task_base.specs.declared.entry.Entry.{Entry}
use Rattle.next_entry.specs.Causes.{Explains}
use Rattle.env_check.proofs.Verdicts.{illegal_nowhere}
use Rattle.env_explain.specs.Explained.{IsExplained}
use Rattle.env_explain.proofs.Explained.{stops}
use Rattle.env_explain.proofs.logs.explain_at.Goals as goal

pub slice_bounds-front-end : goal.slice_bounds-front-end
slice_bounds-front-end c =
    let at = stops c.args.script.now c.args.log.now.items c.args.place c.requires.illegal in
    let within : c.args.place ≤ length c.as_slice.result.now = omega (arith, at.within, ap length c.as_slice.ensures) in
    omega (arith, within, length-take-le c.args.place c.as_slice.result.now within)

pub explain-requires-clause-plan : goal.explain-requires-clause-plan
explain-requires-clause-plan c =
    let at = stops c.args.script.now c.args.log.now.items c.args.place c.requires.illegal in
    rw (c.follow_all.ensures.script (c.follow_all.ensures.place ∙ illegal_nowhere c.args.script.now _ (rw c.as_slice.ensures at.legal))) c.requires.plan

pub explain-requires-clause-script : goal.explain-requires-clause-script
explain-requires-clause-script c =
    let at = stops c.args.script.now c.args.log.now.items c.args.place c.requires.illegal in
    sym (c.follow_all.ensures.script (c.follow_all.ensures.place ∙ illegal_nowhere c.args.script.now _ (rw c.as_slice.ensures at.legal)))

pub explain-requires-clause-past : goal.explain-requires-clause-past
explain-requires-clause-past c =
    let at = stops c.args.script.now c.args.log.now.items c.args.place c.requires.illegal in
    sym (c.follow_all.ensures.followed (c.follow_all.ensures.place ∙ illegal_nowhere c.args.script.now _ (rw c.as_slice.ensures at.legal)))

pub explain-requires-clause-few : goal.explain-requires-clause-few
explain-requires-clause-few c =
    let at = stops c.args.script.now c.args.log.now.items c.args.place c.requires.illegal in
    let within : c.args.place ≤ length c.as_slice.result.now = omega (arith, at.within, ap length c.as_slice.ensures) in
    omega (arith, length-take-le c.args.place c.as_slice.result.now within)

pub explain_end-requires-clause-plan : goal.explain_end-requires-clause-plan
explain_end-requires-clause-plan c =
    let at = stops c.args.script.now c.args.log.now.items c.args.place c.requires.illegal in
    rw (c.follow_all.ensures.script (c.follow_all.ensures.place ∙ illegal_nowhere c.args.script.now _ (rw c.as_slice.ensures at.legal))) c.requires.plan

pub explain_end-requires-clause-script : goal.explain_end-requires-clause-script
explain_end-requires-clause-script c =
    let at = stops c.args.script.now c.args.log.now.items c.args.place c.requires.illegal in
    sym (c.follow_all.ensures.script (c.follow_all.ensures.place ∙ illegal_nowhere c.args.script.now _ (rw c.as_slice.ensures at.legal)))

pub explain_end-requires-clause-place : goal.explain_end-requires-clause-place
explain_end-requires-clause-place c =
    let at = stops c.args.script.now c.args.log.now.items c.args.place c.requires.illegal in
    let none = c.follow_all.ensures.place ∙ illegal_nowhere c.args.script.now _ (rw c.as_slice.ensures at.legal) in
    let end : length c.args.log.now.items ≤ c.args.place = c.in-None.ensures.past_end.0 refl in
    let all = c.follow_all.ensures.followed none ∙ ap (take c.args.place) c.as_slice.ensures ∙ take_all c.args.place c.args.log.now.items end in
    rw all (omega (arith, at.within, end))

pub explain_end-requires-clause-more : goal.explain_end-requires-clause-more
explain_end-requires-clause-more c =
    let at = stops c.args.script.now c.args.log.now.items c.args.place c.requires.illegal in
    let none = c.follow_all.ensures.place ∙ illegal_nowhere c.args.script.now _ (rw c.as_slice.ensures at.legal) in
    let end : length c.args.log.now.items ≤ c.args.place = c.in-None.ensures.past_end.0 refl in
    let all = c.follow_all.ensures.followed none ∙ ap (take c.args.place) c.as_slice.ensures ∙ take_all c.args.place c.args.log.now.items end in
    rw (c.follow_all.ensures.script none, all) (at.open_end end)

pub returns-in-Some-clause-cause : goal.returns-in-Some-clause-cause
returns-in-Some-clause-cause c =
    let at = stops c.args.script.now c.args.log.now.items c.args.place c.requires.illegal in
    let e = c.in-Some.entry.now in
    let none = c.follow_all.ensures.place ∙ illegal_nowhere c.args.script.now _ (rw c.as_slice.ensures at.legal) in
    let front = c.follow_all.ensures.followed none ∙ ap (take c.args.place) c.as_slice.ensures in (
      e,
      sym c.in-Some.ensures.item,
      subst (λ (l : List Entry). Explains c.explain.result c.args.script.now l e.seat (Some e.kind)) front
          (subst (λ (x : Plan). Explains c.explain.result x c.follow_all.new.replay.history e.seat (Some e.kind)) (c.follow_all.ensures.script none)
          c.explain.ensures),
    )

pub returns-in-None-clause-cause : goal.returns-in-None-clause-cause
returns-in-None-clause-cause c =
    let at = stops c.args.script.now c.args.log.now.items c.args.place c.requires.illegal in
    let none = c.follow_all.ensures.place ∙ illegal_nowhere c.args.script.now _ (rw c.as_slice.ensures at.legal) in
    let end : length c.args.log.now.items ≤ c.args.place = c.in-None.ensures.past_end.0 refl in
    let all = c.follow_all.ensures.followed none ∙ ap (take c.args.place) c.as_slice.ensures ∙ take_all c.args.place c.args.log.now.items end in
    subst (λ (l : List Entry). IfOk c.explain_end.result (IsExplained c.args.script.now l)) all
    (subst (λ (x : Plan). IfOk c.explain_end.result (IsExplained x c.follow_all.new.replay.history)) (c.follow_all.ensures.script none)
    c.explain_end.ensures.cause)
