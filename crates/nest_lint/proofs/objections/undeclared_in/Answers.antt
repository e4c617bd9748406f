use Rattle.std.proofs.Common.{arith}
use Rattle.line_places.proofs.WordLists.{words_short}
use Rattle.nest_lint.proofs.objections.undeclared_in.Goals as goal

pub undeclared_from-requires : goal.undeclared_from-requires
undeclared_from-requires c =
    let few = words_short c.args.line.now in
    let bytes = c.type_inv.line in
    rw (c.of.ensures) (omega arith)
