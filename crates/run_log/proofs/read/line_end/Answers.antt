use Rattle.std.proofs.Common.{sym, ◌∙◌}
use Rattle.run_log.proofs.LinesOfText.{line_end-Some, line_end-None}
use Rattle.run_log.proofs.read.line_end.Goals as goal

pub returns-in-Some : goal.returns-in-Some
returns-in-Some c = line_end-Some c.args.bytes.now c.in-Some.feed (sym c.first_feed.ensures ∙ c.in-Some.is)

pub returns-in-None : goal.returns-in-None
returns-in-None c = line_end-None c.args.bytes.now (sym c.first_feed.ensures ∙ c.in-None.is)
