use Rattle.std.proofs.Common.{◌+◌, ◌∙◌, arith}
use Rattle.std.proofs.lemmas.Bool.{and_parts}
use Rattle.std.proofs.lemmas.Int.Digits.{digits_value_more}
use Rattle.numeral_text.proofs.Digits.{digit_in, value_of-wide}
use Rattle.numeral_text.proofs.numeral.value_of.Goals as goal

pub with_digit-requires : goal.with_digit-requires
with_digit-requires c = digit_in c.args.numeral.now c.loop-digit.digit-index (and_parts _ _ c.requires).0 c.loop-digit-test.true

pub returns-in_err-number : goal.returns-in_err-number
returns-in_err-number c =
    let more = digits_value_more 10 c.args.numeral.now c.loop-digit.digit-index c.loop-digit-test.true in
    c.from_residual.ensures ∙ value_of-wide c.args.numeral.now (c.loop-digit.digit-index + 1) (omega (arith, c.in_err-number.ensures.value))

pub loop-digit-preserved : goal.loop-digit-preserved
loop-digit-preserved c =
    let more = digits_value_more 10 c.args.numeral.now c.loop-digit.digit-index c.loop-digit-test.true in
    record { fits = c.in_ok-number.ensures.fits; summed = omega (arith, c.in_ok-number.ensures.value) }
