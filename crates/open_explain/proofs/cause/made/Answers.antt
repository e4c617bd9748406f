use Rattle.std.proofs.Common.{sym, ◌∙◌}
use Rattle.open_explain.proofs.Causes.{takes_best}
use Rattle.open_explain.proofs.cause.made.Goals as goal

pub returns-in-Take : goal.returns-in-Take
returns-in-Take c = takes_best c.args.script.now c.args.past.now c.args.entry.now c.args.next _ c.edge_of.result c.requires.seat c.requires.own c.requires.made
    (sym c.of_entry.ensures ∙ c.in-Take.is) c.edge_of.ensures

pub returns-in_default : goal.returns-in_default
returns-in_default c = record { there = c.requires.seat; own = c.requires.own; is = c.requires.made }
