use Rattle.std.proofs.Common.{◌≡◌, [], Some, ap, rules, sym, ◌∙◌}
use Rattle.script_model.specs.Bound.{events_bound_of}
use Rattle.hist_model.specs.Legal.{IsLegal}
use Rattle.hist_model.proofs.Laws.Entries.Bound.{entries_within_limit}
use Rattle.hist_model.proofs.Laws.Fitting.Entries.{entries_fit}
use Rattle.simulation.specs.Simulated.{simulated, simulated_from}
use Rattle.simulation.proofs.Made.{simulated_is}
use Rattle.simulation.proofs.Stepped.{steps_are_moments}
use Rattle.simulation.proofs.run.simulate.Goals as goal

pub returns-in-Ok-clause-simulated : goal.returns-in-Ok-clause-simulated
returns-in-Ok-clause-simulated c = c.into_log.ensures.items ∙ c.in-Ok.ensures.made ∙ ap (simulated_from (events_bound_of c.args.script.now) c.args.script.now c.args.step []) c.in_ok-draw.ensures
    ∙ sym (simulated_is c.args.script.now c.args.seed c.args.lots c.args.step)

pub returns-in-Ok-clause-bounded : goal.returns-in-Ok-clause-bounded
returns-in-Ok-clause-bounded c =
    let legal : IsLegal c.args.script.now c.into_log.result.items = search rules in
    entries_within_limit c.args.script.now c.into_log.result.items c.requires.plan legal

pub returns-in-Ok-clause-fits : goal.returns-in-Ok-clause-fits
returns-in-Ok-clause-fits c =
    let legal : IsLegal c.args.script.now c.into_log.result.items = search rules in
    entries_fit c.args.script.now c.into_log.result.items c.requires.plan legal

pub returns-in-Ok-clause-moments : goal.returns-in-Ok-clause-moments
returns-in-Ok-clause-moments c = λ each step_is.
    let made : c.into_log.result.items ≡ simulated c.args.script.now c.args.seed c.args.lots (Some each) =
    returns-in-Ok-clause-simulated c ∙ ap (simulated c.args.script.now c.args.seed c.args.lots) step_is in
    rw made (steps_are_moments c.args.script.now c.args.seed c.args.lots each)
