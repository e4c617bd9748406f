use Rattle.std.proofs.Common.{◌≡◌, rules, ap, ◌∙◌}
use Rattle.std.specs.Prelude.{slice_get}
use Rattle.std.specs.Option.{option_map}
use Rattle.queue_selector.specs.declared.front.Front.{Front}
use Rattle.queue_selector.specs.Selecting.{Selecting, open_fronts}
use Rattle.queue_selector.specs.Sorted.{first_of}
use Rattle.queue_selector.proofs.Choice.{first_is}
use Rattle.queue_selector.proofs.Moves.{set_is}
use Rattle.queue_selector.proofs.selector.Selector.first.Goals as goal

pub returns : goal.returns
returns c =
    let mapped : c.map.result ≡ option_map {U = Front} (λ entry. record { class = c.args.class; lane = c.args.lane; order = entry.order; queue = entry.queue })
    (slice_get c.index.result.now.entries 0) = search rules in
    mapped
    ∙ first_is c.self.inside.rows.items c.args.class c.args.lane c.index.result.now c.self.invariant.differ
    (set_is c.self.inside.rows.items c.self.inside.sets.items c.args.class c.args.lane c.set_place.result c.index.result.now c.self.invariant c.requires.class
    c.set_place.ensures c.index.ensures)
    ∙ ap (λ (s : Selecting). first_of c.args.class c.args.lane (open_fronts s)) c.self.view_is
