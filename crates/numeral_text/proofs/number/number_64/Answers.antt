use Rattle.std.proofs.Common.{inl, inr, sym, ◌∙◌, rules, arith}
use Rattle.numeral_text.proofs.Numbers.{number_of-digits, number_of-malformed, text_of_number}
use Rattle.numeral_text.proofs.number.number_64.Goals as goal

pub returns-in_default-clause-same : goal.returns-in_default-clause-same
returns-in_default-clause-same c = c.sum_of.ensures ∙ number_of-digits c.args.word.now (search rules) (λ zero. grind arith)

pub returns-in_default-clause-text : goal.returns-in_default-clause-text
returns-in_default-clause-text c = text_of_number 64 c.args.word.now c.sum_of.result (returns-in_default-clause-same c)

pub returns-in-empty-clause-same : goal.returns-in-empty-clause-same
returns-in-empty-clause-same c = sym (number_of-malformed c.args.word.now (inl (omega arith)))

pub returns-in-empty-2-clause-same : goal.returns-in-empty-2-clause-same
returns-in-empty-2-clause-same c = sym (number_of-malformed c.args.word.now (inr (omega arith, λ one. absurd (omega arith))))
