use Rattle.std.proofs.Common.{ℕ, List, ◌++◌, ap, subst, ◌∙◌}
use Rattle.script_model.specs.Grammar.{Reads}
use Rattle.app_modes.specs.Explained.{IsSaidAt}
use Rattle.app_streams.specs.Parts.{part_behind, script_part}
use Rattle.app_modes.specs.Judged.{verdict_text}
use Rattle.command_line.specs.declared.words.Command.TheVariants.{Explain}
use Rattle.app_modes.proofs.Outcomes.{said_ends}
use Rattle.app_modes.proofs.explain.explain.Goals as goal

pub returns-in-Ok-clause-outcome : goal.returns-in-Ok-clause-outcome
returns-in-Ok-clause-outcome g c told =
    let took = c.in_ok-bytes.ensures.whole in
    let text = c.parts_of.ensures.script ∙ ap script_part c.deref.ensures.value in
    let log = c.parts_of.ensures.behind ∙ ap part_behind c.deref.ensures.value in
    let all = c.in-Ok.ensures in
    let said = c.in-Ok.said in
    said_ends (Explain c.args.json c.args.prefix) told _ _ c.in_ok-bytes.bytes.items (verdict_text said.line ++ all.0) said.line c.write_said.result tt took
    (λ Holds holds. record {
      bytes = c.in_ok-bytes.bytes.items;
      took = took;
      holds = record {
        script = c.in_ok-script.script;
        line = said.line;
        said = all.0;
        reads = subst (λ (t : List ℕ). Reads t c.in_ok-script.script) text c.in_ok-script.ensures.read;
        found = subst (λ (t : List ℕ). IsSaidAt c.args.json c.args.prefix c.in_ok-script.script t said.line all.0) log all.1;
        holds = holds;
      };
    })
    (rw (c.deref-in-Ok.ensures.value, all.2) at c.write_said.ensures.said)
