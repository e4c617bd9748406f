use Rattle.std.proofs.Common.{arith}
use Rattle.line_places.proofs.WordLists.{words_short}
use Rattle.nest_lint.proofs.objections.posted_in.Goals as goal

pub posted_from-requires-clause-few : goal.posted_from-requires-clause-few
posted_from-requires-clause-few c =
    let few = words_short c.args.line.now in
    let bytes = c.type_inv.line in
    rw (c.of.ensures) (omega arith)
