use Rattle.std.proofs.Common.{refl, sym, ◌∙◌}
use Rattle.env_step.specs.declared.wait.Wait.TheVariants as waits
use Rattle.env_step.proofs.Behind.{waits_so}
use Rattle.env_step.proofs.Wants.{finished_at}
use Rattle.env_step.proofs.driver.step_of_driver.Goals as goal

pub returns-in-None : goal.returns-in-None
returns-in-None c = waits_so c.args.reading waits.Over c.action.ensures.closed refl (
  c.requires,
  finished_at c.args.env.now.script c.args.env.now.history c.action.ensures.closed (sym c.in-None.is ∙ c.action.ensures.action),
)

pub step_of_action-requires : goal.step_of_action-requires
step_of_action-requires c = record {
  at = record { closed = c.action.ensures.closed; driver = refl; free = c.requires; action_is = sym c.action.ensures.action ∙ c.in-Some.is };
  counts = c.made-made.ensures;
}
