use Rattle.std.proofs.Common.{sym, ◌∙◌}
use Rattle.told_context.proofs.FirstTakers.{none_after_illegal}
use Rattle.told_context.proofs.takers.first_from.Goals as goal

pub returns-in-Some : goal.returns-in-Some
returns-in-Some c = none_after_illegal c.args.script.now c.args.past.now c.args.from c.in-Some.field-0 (sym c.follow_all.ensures.place ∙ c.in-Some.is)
