use Rattle.std.proofs.Common.{ap, sym, ◌∙◌}
use Rattle.std.specs.Prelude.{is_some}
use Rattle.queue_selector.proofs.Choice.{immediate_is}
use Rattle.queue_selector.proofs.selector.Selector.immediate_is_open.Goals as goal

pub returns-in-Some : goal.returns-in-Some
returns-in-Some c = c.is_some.ensures ∙ ap is_some c.first.ensures ∙ immediate_is c.args.self.now c.in-Some.class (sym c.in-Some.ensures.least)
