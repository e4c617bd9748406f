use Rattle.natural_number.proofs.decimal.+add_last_digits.Given as goal

abbrev pub decreases-add_last_digits : goal.decreases-add_last_digits
decreases-add_last_digits l = l.count
