use Rattle.std.proofs.Common.{◌∙◌, arith}
use Rattle.std.proofs.lemmas.Str.{digit_value_digit}
use Rattle.numeral_text.proofs.Numbers.{sum_of-overflow, sum_of-end}
use Rattle.numeral_text.proofs.number.sum_of_many.Goals as goal

pub returns-in_err-checked_mul : goal.returns-in_err-checked_mul
returns-in_err-checked_mul c =
    c.from_residual.ensures ∙ sum_of-overflow c.args.digits.now c.loop-digit.sum c.loop-digit.digit-index 0 c.loop-digit.invariant.summed c.loop-digit-test.true
    (grind (arith, c.in_err-checked_mul.ensures))

pub returns-in_err-sum : goal.returns-in_err-sum
returns-in_err-sum c =
    let digit = digit_value_digit _ c.if-not-is_ascii_digit.ensures.cases in
    c.from_residual-in_err-sum.ensures
    ∙ sum_of-overflow c.args.digits.now c.loop-digit.sum c.loop-digit.digit-index 0 c.loop-digit.invariant.summed c.loop-digit-test.true
    (grind (arith, c.in_err-sum.ensures, c.from.ensures, digit, c.in_ok-checked_mul.ensures))

pub returns : goal.returns
returns c =
    sum_of-end c.args.digits.now c.loop-digit.sum c.loop-digit.digit-index c.loop-digit.invariant.summed c.loop-digit.invariant.digits c.loop-digit-test.false
    c.loop-digit.invariant.fits
