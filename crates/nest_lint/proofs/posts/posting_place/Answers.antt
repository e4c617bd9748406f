use Rattle.std.proofs.Common.{arith}
use Rattle.line_places.proofs.WordLists.{words_short}
use Rattle.nest_lint.proofs.posts.posting_place.Goals as goal

pub place_of-requires : goal.place_of-requires
place_of-requires c =
    let few = words_short c.args.line.now in
    let bytes = c.type_inv.line in
    rw (c.of.ensures) (omega arith)
