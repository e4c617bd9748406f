use Rattle.order_answer.proofs.Ends.{end_of_script}
use Rattle.order_answer.proofs.against.end_line.Goals as goal

pub returns-in_ok-told-in-Closed : goal.returns-in_ok-told-in-Closed
returns-in_ok-told-in-Closed c =
    rw c.in-Closed.is (end_of_script c.args.script.now c.args.log.now.items _ c.in_ok-told-in-Closed.told c.requires.plan.closed
    c.in_ok-told-in-Closed.ensures.cause (rw c.as_slice.ensures at c.told_text.ensures))

pub returns-in_ok-told-in-Open : goal.returns-in_ok-told-in-Open
returns-in_ok-told-in-Open c =
    rw c.in-Open.is (
      c.in_ok-told-in-Open.told,
      rw c.as_slice-in-Open.ensures at c.in_ok-told-in-Open.ensures.told,
      rw c.as_slice-in-Open-2.ensures at c.open_text.ensures,
    )
