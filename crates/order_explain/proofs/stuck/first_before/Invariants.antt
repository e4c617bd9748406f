use Rattle.std.proofs.Common.{◌≡◌, true, take}
use Rattle.order_model.specs.Orders.{may_precede}
use Rattle.order_explain.proofs.stuck.first_before.Given as goal

abbrev pub invariant-loop-i : goal.invariant-loop-i
invariant-loop-i l = record { none : may_precede l.event (take l.i l.rest) ≡ true }
