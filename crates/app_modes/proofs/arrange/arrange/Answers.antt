use Rattle.env_io.proofs.Bytes.{Gains-nil}
use Rattle.std.proofs.Common.{ℕ, List, ap, subst, refl, ◌∙◌}
use Rattle.script_model.specs.Grammar.{Reads}
use Rattle.order_answer.specs.Answers.{IsAnswer}
use Rattle.order_answer.specs.declared.answer.Answer.TheVariants.{Bad}
use Rattle.app_streams.specs.Parts.{part_behind, script_part}
use Rattle.app_modes.proofs.Arranged.{bad_for}
use Rattle.app_modes.proofs.arrange.arrange.Goals as goal

pub returns-in-Ok-Bad-clause-outcome : goal.returns-in-Ok-Bad-clause-outcome
returns-in-Ok-Bad-clause-outcome g c told =
    let bytes = c.in_ok-bytes.bytes.items in
    let took = c.in_ok-bytes.ensures.whole in
    let script = c.in_ok-script.script in
    let bad = c.in-Ok-Bad.bad in
    let reads = subst (λ (text : List ℕ). Reads text script) (c.parts_of.ensures.script ∙ ap script_part c.deref.ensures.value) c.in_ok-script.ensures.read in
    let answered = rw c.in-Ok-Bad.field-0-is at c.in-Ok-Bad.ensures.answer in
    let is = subst (λ (text : List ℕ). IsAnswer script c.args.prefix text (Bad bad)) (c.parts_of.ensures.behind ∙ ap part_behind c.deref.ensures.value) answered in (
      tt,
      took.end,
      record {
        bytes = bytes;
        took = took;
        holds = record { script = script; answer = Bad bad; reads = reads; is = is; holds = (refl, Gains-nil _) };
      },
      record {
        bytes = bytes;
        took = took;
        holds = record { script = script; reads = reads; is = bad_for script c.args.prefix (part_behind bytes) bad is };
      },
    )
