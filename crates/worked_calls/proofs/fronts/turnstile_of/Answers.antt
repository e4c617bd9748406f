use Rattle.std.proofs.Common.{◌∙◌, ap}
use Rattle.env_core.specs.Views.{EnvView}
use Rattle.worked_calls.proofs.Seated.{splits_first, splits_second}
use Rattle.worked_calls.proofs.fronts.turnstile_of.Goals as goal

pub returns-clause-script : goal.returns-clause-script
returns-clause-script g c = c.in-Ok.ensures.basis ∙ ap (λ (e : EnvView). e.script) c.in_ok-env.ensures ∙ c.in_ok-script.ensures.plan

pub returns-clause-first : goal.returns-clause-first
returns-clause-first g c = splits_first c.in-Ok.turnstile 1 c.in-Ok.first c.split-first.result.0 c.in-Ok.ensures.seat c.split-first.ensures.first

pub returns-clause-worker : goal.returns-clause-worker
returns-clause-worker g c = splits_second c.in-Ok.turnstile 1 c.in-Ok.first c.split-first.result.1 c.in-Ok.ensures.seat c.split-first.ensures.second
