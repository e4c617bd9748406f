use Rattle.std.proofs.Common.{Some, ap, sym, ◌∙◌}
use Rattle.command_line.specs.declared.words.Command.TheVariants.{Simulate, Check, CheckOpen, Explain, ExplainOpen}
use Rattle.command_line.specs.declared.words.Command.TheVariants.{Arrange, ArrangeOpen, Trace, TraceOpen, Nest, Lint, Generate, Bench}
use Rattle.app_modes.proofs.Outcomes.{ends_asked, ends_in_common}
use Rattle.app_modes.proofs.commands.execute.Goals as goal

pub returns-in-Simulate-clause-outcome : goal.returns-in-Simulate-clause-outcome
returns-in-Simulate-clause-outcome g c =
    ends_in_common _ (Simulate c.in-Simulate.seed c.in-Simulate.favour c.in-Simulate.step c.in-Simulate.json) _ _ _ c.simulate_script.result _
    (sym c.in-Ok-Some.ensures.command ∙ c.in-Ok-Some.field-0-is ∙ ap Some c.in-Simulate.is) c.common-in-Simulate.ensures c.simulate_script.ensures.outcome

pub returns-in-Check-clause-outcome : goal.returns-in-Check-clause-outcome
returns-in-Check-clause-outcome g c =
    ends_in_common _ (Check c.in-Check.prefix) _ _ _ c.judge.result _
    (sym c.in-Ok-Some.ensures.command ∙ c.in-Ok-Some.field-0-is ∙ ap Some c.in-Check.is) c.common-in-Check.ensures c.judge.ensures.outcome

pub returns-in-CheckOpen-clause-outcome : goal.returns-in-CheckOpen-clause-outcome
returns-in-CheckOpen-clause-outcome g c =
    ends_asked _ (CheckOpen c.in-CheckOpen.prefix) _ _ _ _
    (sym c.in-Ok-Some.ensures.command ∙ c.in-Ok-Some.field-0-is ∙ ap Some c.in-CheckOpen.is) c.judge_open.ensures.outcome

pub returns-in-Explain-clause-outcome : goal.returns-in-Explain-clause-outcome
returns-in-Explain-clause-outcome g c =
    ends_in_common _ (Explain c.in-Explain.json c.in-Explain.prefix) _ _ _ c.explain.result _
    (sym c.in-Ok-Some.ensures.command ∙ c.in-Ok-Some.field-0-is ∙ ap Some c.in-Explain.is) c.common-in-Explain.ensures c.explain.ensures.outcome

pub returns-in-Arrange-clause-outcome : goal.returns-in-Arrange-clause-outcome
returns-in-Arrange-clause-outcome g c =
    ends_asked _ (Arrange c.in-Arrange.prefix c.in-Arrange.most) _ _ _ _
    (sym c.in-Ok-Some.ensures.command ∙ c.in-Ok-Some.field-0-is ∙ ap Some c.in-Arrange.is) c.arrange.ensures.outcome

pub returns-in-Trace-clause-outcome : goal.returns-in-Trace-clause-outcome
returns-in-Trace-clause-outcome g c =
    ends_asked _ (Trace c.in-Trace.full c.in-Trace.prefix) _ _ _ _
    (sym c.in-Ok-Some.ensures.command ∙ c.in-Ok-Some.field-0-is ∙ ap Some c.in-Trace.is) c.trace.ensures.outcome

pub returns-in-Nest-clause-outcome : goal.returns-in-Nest-clause-outcome
returns-in-Nest-clause-outcome g c =
    ends_asked _ Nest _ _ _ _
    (sym c.in-Ok-Some.ensures.command ∙ c.in-Ok-Some.field-0-is ∙ ap Some c.in-Nest.is) c.run_nest_script.ensures.outcome

pub returns-in-Lint-clause-outcome : goal.returns-in-Lint-clause-outcome
returns-in-Lint-clause-outcome g c =
    ends_asked _ (Lint c.in-Lint.input) _ _ _ _
    (sym c.in-Ok-Some.ensures.command ∙ c.in-Ok-Some.field-0-is ∙ ap Some c.in-Lint.is) c.lint.ensures.outcome

pub returns-in-Generate-clause-outcome : goal.returns-in-Generate-clause-outcome
returns-in-Generate-clause-outcome g c =
    ends_in_common _ (Generate c.in-Generate.number c.in-Generate.size c.in-Generate.wide) _ _ _ c.write_generated.result _
    (sym c.in-Ok-Some.ensures.command ∙ c.in-Ok-Some.field-0-is ∙ ap Some c.in-Generate.is) c.common-in-Generate.ensures
    (λ told. c.write_generated.ensures.outcome told _)

pub returns-in-Bench-clause-outcome : goal.returns-in-Bench-clause-outcome
returns-in-Bench-clause-outcome g c =
    ends_in_common _ (Bench c.in-Bench.number c.in-Bench.size c.in-Bench.work) _ _ _ c.run_generated.result _
    (sym c.in-Ok-Some.ensures.command ∙ c.in-Ok-Some.field-0-is ∙ ap Some c.in-Bench.is) c.common-in-Bench.ensures
    (λ told. c.run_generated.ensures.outcome told _)

pub returns-in-ExplainOpen-clause-outcome : goal.returns-in-ExplainOpen-clause-outcome
returns-in-ExplainOpen-clause-outcome g c =
    ends_asked _ (ExplainOpen c.in-ExplainOpen.json c.in-ExplainOpen.prefix) _ _ _ _
    (sym c.in-Ok-Some.ensures.command ∙ c.in-Ok-Some.field-0-is ∙ ap Some c.in-ExplainOpen.is) c.explain_open.ensures.outcome

pub returns-in-ArrangeOpen-clause-outcome : goal.returns-in-ArrangeOpen-clause-outcome
returns-in-ArrangeOpen-clause-outcome g c =
    ends_asked _ (ArrangeOpen c.in-ArrangeOpen.prefix c.in-ArrangeOpen.most) _ _ _ _
    (sym c.in-Ok-Some.ensures.command ∙ c.in-Ok-Some.field-0-is ∙ ap Some c.in-ArrangeOpen.is) c.arrange_open.ensures.outcome

pub returns-in-TraceOpen-clause-outcome : goal.returns-in-TraceOpen-clause-outcome
returns-in-TraceOpen-clause-outcome g c =
    ends_asked _ (TraceOpen c.in-TraceOpen.full c.in-TraceOpen.prefix) _ _ _ _
    (sym c.in-Ok-Some.ensures.command ∙ c.in-Ok-Some.field-0-is ∙ ap Some c.in-TraceOpen.is) c.trace_open.ensures.outcome
