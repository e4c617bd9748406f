use Rattle.std.proofs.Common.{sym}
use Rattle.wide_script.proofs.Growth.{numbers_step, numbers_done}
use Rattle.wide_script.proofs.draws.numbers_from.Goals as goal

pub loop-preserved : goal.loop-preserved
loop-preserved c = numbers_step c.loop.numbers.items c.push.new.self.items _ c.loop.generator c.next_word.new.self c.next_word.result c.args.count
    c.loop.counter c.next_word.ensures c.in_ok-push.ensures.items c.loop-test.true c.loop.invariant

pub returns : goal.returns
returns c = rw (← c.loop.invariant) (sym (numbers_done c.loop.numbers.items c.loop.generator c.args.count c.loop.counter c.loop-test.false))
