use Rattle.std.proofs.Common.{ap, arith, length}
use Rattle.order_answer.proofs.Few.{few_events}
use Rattle.order_answer.proofs.answer.answer_events.Goals as goal

pub mistake_of-requires-clause-few : goal.mistake_of-requires-clause-few
mistake_of-requires-clause-few c =
    rw c.deref.ensures.value (omega (arith, few_events c.in-Ok.seen.items, ap length c.in-Ok.ensures.text, c.requires.short))

pub answer_to-requires-clause-few : goal.answer_to-requires-clause-few
answer_to-requires-clause-few c =
    rw c.deref-2.ensures.value (omega (arith, few_events c.in-Ok.seen.items, ap length c.in-Ok.ensures.text, c.requires.short))
