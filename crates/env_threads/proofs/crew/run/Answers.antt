use Rattle.std.proofs.Common.{◌∙◌, refl, subst}
use Rattle.hist_model.specs.Legal.{IsLegal}
use Rattle.hist_model.proofs.Laws.Entries.Bound.{entries_within_limit}
use Rattle.hist_model.proofs.Laws.Fitting.Entries.{entries_fit}
use Rattle.env_threads.proofs.Seats.{moments_whole, whole_at_end, workers_rise}
use Rattle.env_threads.proofs.crew.run.Goals as goal

pub close-requires-clause-rest : goal.close-requires-clause-rest
close-requires-clause-rest g c = workers_rise c.in_ok-shared.shared 1 c.in_ok-first.rest.items c.in_ok-first.ensures.back.rising

pub returns-clause-whole : goal.returns-clause-whole
returns-clause-whole g c =
    whole_at_end c.args.script.now c.close.result.0.history c.in_ok-shared.shared _ c.in_ok-first.first c.in_ok-first.rest.items c.requires.plan.closed
    c.in_ok-first.ensures.back (c.in_ok-shared.ensures.script ∙ c.in_ok-copy.ensures) refl c.close.ensures.first c.close.ensures.rest

pub returns-clause-bounded : goal.returns-clause-bounded
returns-clause-bounded g c =
    let script = c.in_ok-shared.ensures.script ∙ c.in_ok-copy.ensures in
    entries_within_limit c.args.script.now c.close.result.0.history c.requires.plan
    (subst (λ p. IsLegal p c.close.result.0.history) script c.close.ensures.legal)

pub returns-clause-fits : goal.returns-clause-fits
returns-clause-fits g c =
    let script = c.in_ok-shared.ensures.script ∙ c.in_ok-copy.ensures in
    entries_fit c.args.script.now c.close.result.0.history c.requires.plan (subst (λ p. IsLegal p c.close.result.0.history) script c.close.ensures.legal)

pub returns-clause-moments : goal.returns-clause-moments
returns-clause-moments g c =
    moments_whole _ c.in_ok-shared.shared.basis c.close.result.0.history c.in_ok-first.first c.close.ensures.legal c.in_ok-first.ensures.back.number_is
    c.close.ensures.first c.in_ok-first.ensures.moments
