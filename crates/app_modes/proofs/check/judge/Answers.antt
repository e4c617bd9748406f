use Rattle.std.proofs.Common.{ℕ, false, List, ◌++◌, ap, subst, ◌∙◌}
use Rattle.script_model.specs.Grammar.{Reads}
use Rattle.app_streams.specs.Parts.{part_behind, script_part}
use Rattle.app_modes.specs.Judged.{IsFoundAt, cut_text, verdict_text}
use Rattle.command_line.specs.declared.words.Command.TheVariants.{Check}
use Rattle.app_modes.proofs.Outcomes.{said_ends}
use Rattle.app_modes.proofs.check.judge.Goals as goal

pub returns-clause-outcome : goal.returns-clause-outcome
returns-clause-outcome g c told =
    let took = c.in_ok-bytes.ensures.whole in
    let text = c.parts_of.ensures.script ∙ ap script_part c.deref.ensures.value in
    let log = c.parts_of.ensures.behind ∙ ap part_behind c.deref.ensures.value in
    let found = c.in-Ok.found in
    said_ends (Check c.args.prefix) told _ _ c.in_ok-bytes.bytes.items (verdict_text found.line ++ cut_text false found.line found.cut) found.line c.write_said.result tt took
    (λ Holds holds. record {
      bytes = c.in_ok-bytes.bytes.items;
      took = took;
      holds = record {
        script = c.in_ok-script.script;
        line = found.line;
        cut = found.cut;
        reads = subst (λ (t : List ℕ). Reads t c.in_ok-script.script) text c.in_ok-script.ensures.read;
        found = subst (λ (t : List ℕ). IsFoundAt c.args.prefix c.in_ok-script.script t found.line found.cut) log c.in-Ok.ensures;
        holds = holds;
      };
    })
    (rw (c.deref-3.ensures.0, c.add.ensures, c.deref-2.ensures.0, c.cut_text.ensures.items, c.verdict_text-text.ensures.items) at c.write_said.ensures.said)
