-- A lane as it is read from among the lanes.
-- Cited by `Lanes::let_go`, `Lanes::put`.
use Rattle.pool_core.specs.Queues.{no_lane, queue_in, queue_of}
use Rattle.pool_core.specs.declared.lanes.Lane.{Lane}
use Rattle.sequence_queue.specs.Ranked.{IsMadeFor}
use Rattle.std.proofs.Common.{Bool, List, ap, length, slice_index_or, subst, sym, ℕ, ◌<◌, ◌∙◌, ◌≡◌}
use Rattle.std.proofs.lemmas.List.{get_or_default}
use Rattle.task_base.specs.declared.source.TaskSource.{TaskSource}

-- its queues are made for the sources that those of its number are made for
pub made_in_lane : (lanes inside : List Lane) (lane : ℕ) (read : Lane) (source : TaskSource) (best : Bool) → lane < length lanes → inside ≡ lanes
    → read ≡ slice_index_or inside lane read → IsMadeFor (queue_of lanes lane best) source → IsMadeFor (queue_in best read) source
made_in_lane lanes inside lane read source best there same is made = subst (λ l. IsMadeFor (queue_in best l) source)
    (get_or_default lanes lane no_lane read there ∙ ap (λ xs. slice_index_or xs lane read) (sym same) ∙ sym is) made
