use Rattle.std.proofs.Common.{rules, tests}
use Rattle.std.proofs.lemmas.Iterator.Consumers.{nth_from_yields_List}
use Rattle.run_log.proofs.SplitLines.{YieldsList-from_lines}
use Rattle.log_mistakes.proofs.lines.line_at.Goals as goal

pub returns : goal.returns
returns c =
    nth_from_yields_List c.nth.result c.nth.new.self c.args.number c.nth.ensures.ran
    (YieldsList-from_lines _ c.args.text.now c.split_inclusive.ensures.rest c.split_inclusive.ensures.closure (λ x b q k. search (rules, tests)))
