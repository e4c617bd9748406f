use Rattle.std.proofs.Common.{arith, refl, sym}
use Rattle.delayed_manager.proofs.Heap.{first_is_top}
use Rattle.delayed_manager.proofs.delayed.Delayed.peek.Goals as goal

pub returns-in-Some-clause-first : goal.returns-in-Some-clause-first
returns-in-Some-clause-first c =
    let some = c.in-Some.ensures.variant.0 refl in
    rw (← c.self.view_is) (sym
    (first_is_top c.in-Some.first.now _ (omega (arith, some, c.self.inside.heap.data.ok.0)) c.in-Some.ensures.lookup
    (c.in-Some.ensures.greatest c.self.invariant.heap)))
