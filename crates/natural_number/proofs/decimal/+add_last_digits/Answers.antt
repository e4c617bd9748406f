use Rattle.std.proofs.Common.{arith}
use Rattle.natural_number.proofs.Texts.{last_digit_added}
use Rattle.natural_number.proofs.decimal.+add_last_digits.Goals as goal

pub returns : goal.returns
returns t c =
    last_digit_added c.args.text.now.items c.add_last_digits.new.text.items c.push.new.self.items c.args.count c.args.number (omega arith)
    c.in_ok-add_last_digits.ensures c.in_ok-push.ensures.items
