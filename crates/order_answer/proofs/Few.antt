-- How many events there are at most.
-- Cited by `answer_events`, `answer_to`.
use Rattle.std.proofs.Common.{◌≤◌, List, [], ◌∷◌, arith, length, length-append}
use Rattle.std.proofs.lemmas.List.{length-map}
use Rattle.std.specs.List.{join_with_byte}
use Rattle.task_base.specs.Plan.{Plan, opened}
use Rattle.task_base.specs.declared.limits.TheConstants.{MOST_BYTES}
use Rattle.script_model.specs.Laws.Sound.{IsSound}
use Rattle.hist_model.proofs.Laws.Entries.Bound.{entries_within_limit}
use Rattle.order_model.specs.declared.event.Event.{Event}
use Rattle.order_model.specs.declared.plan_kind.PlanKind.{PlanKind}
use Rattle.order_model.specs.declared.plan_kind.PlanKind.TheVariants.{Closed, Open}
use Rattle.order_model.specs.Orders.{IsBeginning, entries_of, own_events}
use Rattle.order_model.specs.Plans.{plan_of}
use Rattle.order_search.proofs.Shares.{few_of_each}
use Rattle.event_text.specs.EventText.{event_line, event_words, events_text}
use Rattle.order_answer.specs.Answers.{most_entries}

-- the text of events has a byte for each at least
pub few_events : (events : List Event) → length events ≤ length (events_text events)
few_events [] = omega arith
few_events (e ∷ events) = omega (
  arith,
  few_events events,
  length-append (event_line e) (events_text events),
  length-append (join_with_byte 32 (event_words e)) (10 ∷ []),
)

-- a beginning has no more events than were seen
pub few_begun : (plan : Plan) (seen events rest : List Event) → IsBeginning plan seen events rest → length events ≤ length seen
few_begun plan seen events rest begins = few_of_each events seen (λ seat. own_events seat rest) begins.own

-- and the log of an order no more entries than a run may have, or of an open plan than a text may have bytes
pub few_answered : (kind : PlanKind) (script : Plan) (seen events : List Event) → IsSound script → length seen ≤ MOST_BYTES
    → IsBeginning (plan_of kind script) seen events [] → length (entries_of events) ≤ most_entries kind
few_answered Closed script seen events sound few begins = entries_within_limit script (entries_of events) sound begins.legal
few_answered Open script seen events sound few begins =
    omega (arith, few, few_begun (opened script) seen events [] begins, length-map events (λ (e : Event). e.entry))
