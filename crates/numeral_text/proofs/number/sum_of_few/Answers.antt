use Rattle.std.proofs.Common.{◌≤◌, arith}
use Rattle.numeral_text.proofs.Numbers.{digit_fits}
use Rattle.numeral_text.proofs.number.sum_of_few.Goals as goal

pub overflow_mul-sum : goal.overflow_mul-sum
overflow_mul-sum c =
    let next = digit_fits c.loop-digit.sum c.loop-digit.digit-index 0 c.loop-digit.invariant.short (omega arith) (omega arith) in
    omega (arith, next)

pub overflow_add-sum : goal.overflow_add-sum
overflow_add-sum c =
    let digit : c.from.result ≤ 9 = omega (arith, c.from.ensures, c.if-not-is_ascii_digit.ensures.cases) in
    let next = digit_fits c.loop-digit.sum c.loop-digit.digit-index c.from.result c.loop-digit.invariant.short (omega arith) digit in
    omega (arith, next)
