use Rattle.sequence_manager.proofs.Fresh.{class_set}
use Rattle.std.proofs.Common.{ap, arith, refl, sym, ◌∙◌}
use Rattle.std.specs.Option.{option_copied}
use Rattle.task_base.specs.Plan.{Plan}
use Rattle.sequence_manager.proofs.manager.set_classes.Goals.{in-Some, in_default}
use Rattle.sequence_manager.proofs.manager.set_classes.Goals as goal

pub loop-place-preserved : goal.loop-place-preserved
loop-place-preserved c = elim c.match-at.branch [
  | in-Some w ↦ w.selector-is ∙ w.set_class.ensures ∙ class_set c.args.script.now.queues c.loop-place.place w.in-Some.queue.now c.loop-place.selector
      (rw (ap (λ (s : Plan). s.queues) c.script.view_is) at (sym c.at.ensures.item ∙ ap option_copied w.in-Some.is)) c.loop-place.invariant
  | in_default w ↦ absurd (omega (arith, c.len-place-end.ensures.count, w.in_default.ensures.past_end.0 refl))
]
