use Rattle.std.proofs.Common.{◌≡◌, ℕ, ◌<◌, ◌++◌, Bool, List, Option, append-nil, filter, length, get_or, arith, ap, sym, ◌∙◌}
use Rattle.std.specs.List.{filter_map}
use Rattle.std.specs.Prelude.{nat_lt}
use Rattle.std.proofs.lemmas.List.{take_all}
use Rattle.list_laws.specs.Lists.{keep, least}
use Rattle.situation.specs.Situation.{SeatAt}
use Rattle.situation_steps.specs.Sources.{better_of}
use Rattle.situation_steps.proofs.Best.{least_over}
use Rattle.situation_steps.proofs.clocks.soonest_scope.Goals as goal

pub loop-seat-init : goal.loop-seat-init
loop-seat-init c = λ front is. is ∙ ap (λ (ys : List ℕ). least nat_lt (filter (λ m. nat_lt c.args.moment m) ys)) (sym (append-nil front))

pub loop-seat-preserved : goal.loop-seat-preserved
loop-seat-preserved c = λ front is.
    let p : ℕ → Bool = λ m. nat_lt c.args.moment m in
    let xs = c.args.seats.now in
    let i = c.loop-seat.seat-index in
    let within : i < length xs = omega arith in
    let same : c.seat.inside.scope ≡ (get_or xs i c.seat-item.result).scope = ap (λ (x : SeatAt). x.scope) (c.seat.view_is ∙ c.seat-item.is) in
    c.sooner-next.ensures
    ∙ ap (λ (o : Option ℕ). better_of nat_lt c.loop-seat.next o) (c.ahead.ensures ∙ ap (λ (o : Option ℕ). keep p o) same)
    ∙ least_over nat_lt p front (λ (x : SeatAt). x.scope) xs i c.seat-item.result c.loop-seat.next within (c.loop-seat.invariant front is)

pub returns : goal.returns
returns c = λ front is.
    c.loop-seat.invariant front is
    ∙ ap (λ (ys : List SeatAt). least nat_lt (filter (λ m. nat_lt c.args.moment m) (front ++ filter_map (λ x. x.scope) ys)))
    (take_all c.loop-seat.seat-index c.args.seats.now (omega arith))
