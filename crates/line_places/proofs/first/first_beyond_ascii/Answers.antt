use Rattle.std.proofs.Common.{arith, refl}
use Rattle.line_places.proofs.WordLists.{words_short}
use Rattle.line_places.proofs.first.first_beyond_ascii.Goals as goal

pub loop-word-init : goal.loop-word-init
loop-word-init c =
    let few = words_short c.args.line.now in
    rw (c.of-words.ensures) (record { short = omega arith; rest = refl })
