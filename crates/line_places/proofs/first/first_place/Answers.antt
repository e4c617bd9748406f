use Rattle.std.proofs.Common.{arith, ap, length, length-drop, ◌∙◌}
use Rattle.line_places.proofs.WordLists.{words_short}
use Rattle.line_places.proofs.first.first_place.Goals as goal

pub first_at-requires : goal.first_at-requires
first_at-requires c =
    let few = words_short c.args.line.now in
    let whole = ap length c.of-words.ensures in
    let rest = ap length c.next.ensures.rest ∙ length-drop 1 c.of-words.result in
    omega arith
