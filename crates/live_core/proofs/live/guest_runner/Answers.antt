use Rattle.live_core.proofs.Entered.{first_found, none_in_range}
use Rattle.live_core.specs.Opening.{is_guests}
use Rattle.std.proofs.Common.{arith, ap, length, sym, ◌∙◌}
use Rattle.task_base.specs.Plan.{Plan}
use Rattle.live_core.proofs.live.guest_runner.Goals as goal

pub returns-then-is_guests : goal.returns-then-is_guests
returns-then-is_guests c =
    let script = c.args.script.now in
    sym (first_found (is_guests script) 0 (length script.runners) c.loop-place.place (omega arith)
    (omega (arith, c.loop-place-test.true, c.len-place-end.ensures.count, ap (λ (s : Plan). length s.runners) c.script.view_is))
    (sym c.is_guests.ensures ∙ c.if-is_guests.true) (λ n low less. c.loop-place.invariant n less))

pub returns : goal.returns
returns c =
    let script = c.args.script.now in
    sym (none_in_range (is_guests script) 0 (length script.runners) (λ n low less. c.loop-place.invariant n
    (omega (arith, less, c.loop-place-test.false, c.len-place-end.ensures.count, ap (λ (s : Plan). length s.runners) c.script.view_is))))
