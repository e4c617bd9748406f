use Rattle.std.proofs.Common.{◌≡◌, ◌++◌, ℕ, List, take}
use Rattle.order_model.specs.Plans.{plan_of}
use Rattle.order_answer.specs.Said.{AreAgainst}
use Rattle.order_answer.proofs.against.add_each.Given as goal

abbrev pub invariant-loop-event : goal.invariant-loop-event
invariant-loop-event l = record {
  so_far : (lines : List ℕ) × AreAgainst (plan_of l.fn.kind l.script) l.events l.rest (take l.event-index l.next) lines
      × (l.said.items ≡ l.initial.said.items ++ lines);
}
