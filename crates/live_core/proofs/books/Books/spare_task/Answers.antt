use Rattle.std.proofs.Common.{arith}
use Rattle.live_core.proofs.Entered.{none_is_next, spare_is_next}
use Rattle.live_core.proofs.books.Books.spare_task.Goals as goal

pub returns-then-self-len : goal.returns-then-self-len
returns-then-self-len c = λ plan past stand.
    spare_is_next plan past c.args.self.now.next stand.out (omega (arith, c.if-self-len.true, c.len.ensures, stand.kept.all))

pub returns-else-self-len : goal.returns-else-self-len
returns-else-self-len c = λ plan past stand.
    none_is_next plan past c.args.self.now.next stand.out (omega (arith, c.if-self-len.false, c.len.ensures, stand.kept.all))
