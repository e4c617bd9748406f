use Rattle.std.proofs.Common.{sym, ◌∙◌}
use Rattle.line_words.proofs.Numerals.{number_from-no_numeral, number_from-numeral}
use Rattle.line_words.proofs.numbers.number_from.Goals as goal

pub returns-then-has_form-clause-value : goal.returns-then-has_form-clause-value
returns-then-has_form-clause-value c =
    c.within.ensures.value ∙ rw c.value_of.ensures (sym (number_from-numeral c.args.low c.args.high c.args.word.now c.ranges.high.fits (cc)))

pub returns-else-has_form-clause-value : goal.returns-else-has_form-clause-value
returns-else-has_form-clause-value c = sym (number_from-no_numeral c.args.low c.args.high c.args.word.now cc)
