use Rattle.std.proofs.Common.{Some, ap, length, refl, sym, ◌∙◌}
use Rattle.std.proofs.lemmas.Bool.{ltb-true}
use Rattle.std.proofs.lemmas.Option.{slice_get-get_or}
use Rattle.task_base.specs.Plan.{opened}
use Rattle.task_base.specs.declared.entry.Entry.{Entry}
use Rattle.open_explain.proofs.Causes.{rules_out_there}
use Rattle.open_explain.proofs.explain.barred.Goals as goal

pub returns-clause-ruled_out : goal.returns-clause-ruled_out
returns-clause-ruled_out c =
    let log = c.args.log.now in
    let found = c.in-Some.ensures.lookup in
    let within = ltb-true c.args.stop.place (length log) (sym found.0) in
    let there = slice_get-get_or log c.args.stop.place c.in-Some.entry.now within ∙ ap (λ (e : Entry). Some e) (sym found.1) in
    rules_out_there (opened c.args.script.now) log c.args.stop.place c.cause_of.result c.in-Some.entry.now refl c.requires.stopped.first there
    c.cause_of.ensures
