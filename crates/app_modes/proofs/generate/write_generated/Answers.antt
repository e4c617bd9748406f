use Rattle.std.proofs.Common.{subst}
use Rattle.script_model.specs.Canonical.{canonical}
use Rattle.command_line.specs.declared.words.Command.TheVariants.{Generate}
use Rattle.app_streams.proofs.Writers.{put_text}
use Rattle.app_modes.proofs.Outcomes.{ends_written}
use Rattle.app_modes.proofs.generate.write_generated.Goals as goal

pub returns-clause-outcome : goal.returns-clause-outcome
returns-clause-outcome g c told source =
    ends_written (Generate c.args.number c.args.size c.args.wide) told source _ (canonical c.in-Ok.script) c.write_plan.result (λ takes. absurd takes)
    (λ Holds holds. subst (λ p. Holds 0 (canonical p)) c.in-Ok.ensures holds)
    (put_text _ _ c.write_plan.result c.write_plan.ensures.written c.write_plan.ensures.cut c.write_plan.ensures.failed c.write_plan.ensures.faults)
