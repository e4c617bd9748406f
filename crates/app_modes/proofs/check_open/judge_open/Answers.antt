use Rattle.std.proofs.Common.{◌≡◌, ℕ, false, List, None, ◌++◌, ap, refl, subst, ◌∙◌}
use Rattle.script_model.specs.Grammar.{Reads}
use Rattle.command_line.specs.declared.words.Command.TheVariants.{CheckOpen}
use Rattle.open_check.specs.Plans.{plan_fault}
use Rattle.app_streams.specs.Parts.{part_behind, script_part}
use Rattle.app_modes.specs.Judged.{cut_text, verdict_text}
use Rattle.app_modes.specs.Opened.{IsOpenAt}
use Rattle.app_modes.specs.Outcome.{in_common}
use Rattle.app_modes.proofs.Opened.{said_kept, said_not_large}
use Rattle.app_modes.proofs.Outcomes.{ends_in_common, said_ends}
use Rattle.app_modes.proofs.check_open.judge_open.Goals as goal

pub returns-clause-outcome : goal.returns-clause-outcome
returns-clause-outcome g c told =
    let took = c.in_ok-bytes.ensures.whole in
    let text = c.parts_of.ensures.script ∙ ap script_part c.deref.ensures.value in
    let log = c.parts_of.ensures.behind ∙ ap part_behind c.deref.ensures.value in
    let script = c.in_ok-script.script in
    let found = c.in-Ok.found in
    ends_in_common _ (CheckOpen c.args.prefix) told _ _ c.write_said.result _ refl c.common.ensures (λ other.
    said_ends (CheckOpen c.args.prefix) other _ _ c.in_ok-bytes.bytes.items (verdict_text found.line ++ cut_text false found.line found.cut) found.line
    c.write_said.result tt took
    (λ Holds holds. record {
      bytes = c.in_ok-bytes.bytes.items;
      took = took;
      holds = record {
        script = script;
        line = found.line;
        cut = found.cut;
        reads = subst (λ (t : List ℕ). Reads t script) text c.in_ok-script.ensures.read;
        plan = subst (λ (t : List ℕ). plan_fault script t ≡ None) text c.in_ok-live.ensures.right;
        found = subst (λ (t : List ℕ). IsOpenAt c.args.prefix script t found.line found.cut) log (c.in-Ok.ensures script c.in_ok-live.ensures.stands);
        holds = holds;
      };
    })
    (rw (c.deref-3.ensures.0, c.add.ensures, c.deref-2.ensures.0, c.cut_text.ensures.items, c.verdict_text-said.ensures.items) at c.write_said.ensures.said))

pub returns-clause-sink_kept : goal.returns-clause-sink_kept
returns-clause-sink_kept g c = said_kept _ _ _ _ c.write_said.result c.common.result c.write_said.ensures.said c.common.ensures

pub returns-clause-took_more : goal.returns-clause-took_more
returns-clause-took_more g c large = absurd (said_not_large _ _ _ c.write_said.result c.common.result c.write_said.ensures.said c.common.ensures large)

pub returns-clause-sink_steady : goal.returns-clause-sink_steady
returns-clause-sink_steady g c other = c.write_said.ensures.steady (λ failed. other (c.common.ensures ∙ ap in_common failed))
