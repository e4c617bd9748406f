use Rattle.std.proofs.Common.{rules, sym, ◌∙◌}
use Rattle.command_line.proofs.Numbers.{not_parsed, parsed}
use Rattle.command_line.proofs.options.number_named.Goals as goal

pub returns-in_err-number-clause-number : goal.returns-in_err-number-clause-number
returns-in_err-number-clause-number c =
    c.from_residual.ensures
    ∙ not_parsed c.args.low c.args.high c.args.word.now c.parse.result (search rules) c.parse.ensures.value.0 (sym c.ok.ensures.value ∙ c.in_err-number.was)

pub returns-clause-number : goal.returns-clause-number
returns-clause-number c =
    c.then_some.ensures
    ∙ parsed c.args.low c.args.high c.args.word.now c.parse.result c.in_ok-number.number c.is_number.result (search rules) c.parse.ensures.value.0
    (sym c.ok.ensures.value ∙ c.in_ok-number.was) c.is_number.ensures
