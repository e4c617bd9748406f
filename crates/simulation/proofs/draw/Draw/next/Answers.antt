use Rattle.std.proofs.Common.{rules, ◌≡◌, length, ap, arith, ◌∙◌}
use Rattle.std.specs.Vec.{vec_len}
use Rattle.simulation.specs.Draw.{IsFair, drivers_lots}
use Rattle.simulation.proofs.Shares.{place_below, some_lots}
use Rattle.simulation.proofs.draw.Draw.next.Goals as goal

pub remove-requires : goal.remove-requires
remove-requires c =
    let same = c.self.view_is ∙ c.lot-lot.ensures.goes_on in
    let lots_are : c.self.inside.lots ≡ c.args.self.now.lots = ap (λ d. d.lots) same in
    let workers_are : c.self.inside.workers.items ≡ c.args.self.now.workers = ap (λ d. d.workers) same in
    let fair : IsFair c.args.self.now.lots = rw lots_are at c.self.invariant.0 in
    let few = c.lot-lot.ensures.few (some_lots c.args.self.now fair (omega (arith, c.if-left-eq0.false, c.left.ensures))) in
    let count : vec_len c.self.inside.workers ≡ length c.args.self.now.workers = search rules in
    let drivers : c.lots_of_driver-drivers.result ≡ drivers_lots c.args.self.now = c.lots_of_driver-drivers.ensures ∙ ap drivers_lots c.lot-lot.ensures.goes_on in
    place_below c.lot-lot.result c.lots_of_driver-drivers.result (vec_len c.self.inside.workers) c.self.inside.lots.worker c.self.invariant.0.worker
    c.if-lot-drivers.false (rw (drivers, count, lots_are) few)
