use Rattle.std.proofs.Common.{◌≡◌, ℕ, take, drop, get_or}
use Rattle.order_model.specs.Orders.{own_events}
use Rattle.order_search.proofs.best.rest_of.Given as goal

abbrev pub invariant-loop-i : goal.invariant-loop-i
invariant-loop-i l = record { so_far : (seat : ℕ) → own_events seat l.rest.items ≡ own_events seat (drop (get_or l.heads seat 0) (take l.i l.events)) }
