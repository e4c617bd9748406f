-- At the end no delayed task is left.
use Rattle.std.proofs.Common.{◌≡◌, List, [], ◌∷◌, None, refl, ap, ◌∙◌}
use Rattle.std.specs.Prelude.{slice_get}
use Rattle.std.proofs.lemmas.Option.{none-some}
use Rattle.delayed_manager.specs.Delayed.{with_held}
use Rattle.delayed_manager.specs.declared.ripening.Ripening.{Ripening}
use Rattle.sequence_manager.specs.State.{without_delayed}
use Rattle.sequence_manager.specs.declared.task_queue.TaskQueue.{TaskQueue}
use Rattle.sequence_manager.proofs.task_queue.TaskQueue.drop_delayed.Goals as goal

-- a list with no first element is empty
empty : (held : List Ripening) → None ≡ slice_get held 0 → held ≡ []
empty [] is = refl
empty (r ∷ rs) is = absurd (none-some r is)

-- a queue that has no first delayed task is without them
none_left : (queue : TaskQueue) → None ≡ slice_get queue.delayed.held 0 → queue ≡ without_delayed queue
none_left queue is = ap (λ held. record queue { delayed = with_held queue.delayed held }) (empty queue.delayed.held is)

pub returns : goal.returns
returns c = none_left c.loop-first.self c.in_default.ensures.first ∙ c.loop-first.invariant
