use Rattle.std.proofs.Common.{sym, ◌∙◌}
use Rattle.task_script.proofs.Generated.{numbers_more, numbers_done}
use Rattle.task_script.proofs.generator.numbers_behind.Goals as goal

pub loop-preserved : goal.loop-preserved
loop-preserved c = rw (c.in_ok-push.ensures.items, c.number_behind-last.ensures)
    (numbers_more c.loop.numbers.items c.loop.last c.args.count c.loop.counter c.loop-test.true ∙ c.loop.invariant)

pub returns : goal.returns
returns c = rw (← c.loop.invariant) (sym (numbers_done c.loop.numbers.items c.loop.last c.args.count c.loop.counter c.loop-test.false))
