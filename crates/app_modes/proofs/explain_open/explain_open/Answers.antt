use Rattle.std.proofs.Common.{◌≡◌, ℕ, List, None, ◌++◌, ap, refl, subst, ◌∙◌}
use Rattle.script_model.specs.Grammar.{Reads}
use Rattle.command_line.specs.declared.words.Command.TheVariants.{ExplainOpen}
use Rattle.open_check.specs.Plans.{plan_fault}
use Rattle.app_streams.specs.Parts.{part_behind, script_part}
use Rattle.app_modes.specs.ExplainedOpen.{IsSaidOpenAt}
use Rattle.app_modes.specs.Judged.{verdict_text}
use Rattle.app_modes.specs.Outcome.{in_common}
use Rattle.app_modes.proofs.Opened.{said_kept, said_not_large}
use Rattle.app_modes.proofs.Outcomes.{ends_in_common, said_ends}
use Rattle.app_modes.proofs.explain_open.explain_open.Goals as goal

pub returns-in-Ok-clause-outcome : goal.returns-in-Ok-clause-outcome
returns-in-Ok-clause-outcome g c told =
    let took = c.in_ok-bytes.ensures.whole in
    let text = c.parts_of.ensures.script ∙ ap script_part c.deref.ensures.value in
    let log = c.parts_of.ensures.behind ∙ ap part_behind c.deref.ensures.value in
    let script = c.in_ok-script.script in
    let all = c.in-Ok.ensures in
    let said = c.in-Ok.said in
    ends_in_common _ (ExplainOpen c.args.json c.args.prefix) told _ _ c.write_said.result _ refl c.common.ensures (λ other.
    said_ends (ExplainOpen c.args.json c.args.prefix) other _ _ c.in_ok-bytes.bytes.items (verdict_text said.line ++ all.0) said.line c.write_said.result tt took
    (λ Holds holds. record {
      bytes = c.in_ok-bytes.bytes.items;
      took = took;
      holds = record {
        script = script;
        line = said.line;
        said = all.0;
        reads = subst (λ (t : List ℕ). Reads t script) text c.in_ok-script.ensures.read;
        plan = subst (λ (t : List ℕ). plan_fault script t ≡ None) text c.in_ok-live.ensures.right;
        found = subst (λ (t : List ℕ). IsSaidOpenAt c.args.json c.args.prefix script t said.line all.0) log all.1;
        holds = holds;
      };
    })
    (rw (c.deref-in-Ok.ensures.value, all.2) at c.write_said.ensures.said))

pub returns-in-Ok-clause-sink_kept : goal.returns-in-Ok-clause-sink_kept
returns-in-Ok-clause-sink_kept g c = said_kept _ _ _ _ c.write_said.result c.common.result c.write_said.ensures.said c.common.ensures

pub returns-in-Ok-clause-took_more : goal.returns-in-Ok-clause-took_more
returns-in-Ok-clause-took_more g c large =
    absurd (said_not_large _ _ _ c.write_said.result c.common.result c.write_said.ensures.said c.common.ensures large)

pub returns-in-Ok-clause-sink_steady : goal.returns-in-Ok-clause-sink_steady
returns-in-Ok-clause-sink_steady g c other = c.write_said.ensures.steady (λ failed. other (c.common.ensures ∙ ap in_common failed))
