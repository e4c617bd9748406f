use Rattle.std.proofs.Common.{sym, arith, length-take}
use Rattle.std.proofs.lemmas.List.{take_all}
use Rattle.lint_text.proofs.quote.front.Goals as goal

pub slice_bounds-result-end : goal.slice_bounds-result-end
slice_bounds-result-end c = omega (arith, length-take 40 c.args.word.now)

pub returns-else-word-gt-SHOWN : goal.returns-else-word-gt-SHOWN
returns-else-word-gt-SHOWN c = sym (take_all 40 c.args.word.now (omega arith))
