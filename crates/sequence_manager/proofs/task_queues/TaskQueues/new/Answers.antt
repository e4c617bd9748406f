use Rattle.sequence_manager.proofs.Fresh.{fresh_next}
use Rattle.std.proofs.Common.{Some, ap, arith, drop, refl, sym, ◌+◌, ◌++◌, ◌∙◌, ◌≡◌}
use Rattle.std.specs.Option.{option_copied}
use Rattle.task_base.specs.Plan.{Plan}
use Rattle.sequence_manager.specs.State.{fresh_queues}
use Rattle.std.specs.Prelude.{slice_get}
use Rattle.sequence_manager.proofs.task_queues.TaskQueues.new.Goals.{in-Some+in_ok-new+in_ok-push, in_default}
use Rattle.sequence_manager.proofs.task_queues.TaskQueues.new.Goals as goal

pub loop-place-preserved : goal.loop-place-preserved
loop-place-preserved c = elim c.match-at.branch [
  | in-Some+in_ok-new+in_ok-push w ↦
      let is : slice_get c.args.script.now.queues c.loop-place.place ≡ Some w.in-Some.queue.now =
      rw (ap (λ (s : Plan). s.queues) c.script.view_is) at (sym c.at.ensures.item ∙ ap option_copied w.in-Some.is) in
      ap (λ made. made ++ fresh_queues (drop (c.loop-place.place + 1) c.args.rooms.now) (drop (c.loop-place.place + 1) c.args.script.now.queues))
      (ap (λ v. v.items) w.queues-is ∙ w.in_ok-push.ensures.items)
      ∙ fresh_next c.args.rooms.now c.args.script.now.queues c.loop-place.queues.items c.loop-place.place _ w.in_ok-new.field-0 c.requires.each is
      w.in_ok-new.ensures c.loop-place.invariant
  | in_default w ↦ absurd (omega (arith, c.len-place-end.ensures.count, w.in_default.ensures.past_end.0 refl))
]
