use Rattle.env_io.proofs.Bytes.{Gains-nil}
use Rattle.std.proofs.Common.{ℕ, Err, List, Some, ap, subst, refl, ⊎_elim, ◌≡◌, ◌∙◌}
use Rattle.std.specs.Prelude.{alloc_error}
use Rattle.task_base.specs.declared.fault.Fault.TheVariants.{NoMemory, WriteFault}
use Rattle.app_modes.proofs.Tracing.{traced}
use Rattle.script_model.specs.Grammar.{Reads}
use Rattle.app_streams.specs.Parts.{part_behind, script_part}
use Rattle.app_modes.specs.Judged.{IsFoundAt, IsFoundIn, IsTextOf}
use Rattle.app_modes.proofs.trace.trace.Goals as goal

pub returns-in-Ok-Wrong-clause-outcome : goal.returns-in-Ok-Wrong-clause-outcome
returns-in-Ok-Wrong-clause-outcome g c told =
    let bytes = c.in_ok-bytes.bytes.items in
    let took = c.in_ok-bytes.ensures.whole in
    let script = c.in_ok-script.script in
    let line = Some c.in-Ok-Wrong.line in
    let judged = rw c.in-Ok-Wrong.field-0-is at c.in-Ok-Wrong.ensures in
    let found : IsFoundIn c.args.prefix bytes line = record {
      script = script;
      cut = c.in-Ok-Wrong.field-0-1;
      reads = subst (λ (text : List ℕ). Reads text script) (c.parts_of.ensures.script ∙ ap script_part c.deref.ensures.value) c.in_ok-script.ensures.read;
      found = subst (λ (text : List ℕ). IsFoundAt c.args.prefix script text line c.in-Ok-Wrong.field-0-1) (c.parts_of.ensures.behind ∙ ap part_behind c.deref.ensures.value) judged;
    } in (
      tt,
      took.end,
      record { bytes = bytes; took = took; holds = record { line = line; found = found; holds = (refl, Gains-nil _) } },
      record { bytes = bytes; took = took; holds = found },
    )

pub returns-in-Ok-clause-outcome : goal.returns-in-Ok-clause-outcome
returns-in-Ok-clause-outcome g c told =
    let bytes = c.in_ok-bytes.bytes.items in
    let took = c.in_ok-bytes.ensures.whole in
    let script = c.in_ok-script.script in
    let log = c.in-Ok-Right.log.items in
    let cut = c.in-Ok-Right.field-0-1 in
    let judged = rw c.in-Ok-Right.field-0-is at c.in-Ok-Right.ensures in
    let reads = subst (λ (text : List ℕ). Reads text script) (c.parts_of.ensures.script ∙ ap script_part c.deref.ensures.value) c.in_ok-script.ensures.read in
    let of = subst (λ (text : List ℕ). IsTextOf c.args.prefix text log cut) (c.parts_of.ensures.behind ∙ ap part_behind c.deref.ensures.value) judged.0 in (
      refl,
      λ takes. took.end,
      record {
        bytes = bytes;
        took = took;
        holds = traced c.args.full c.args.prefix bytes script log cut _ reads of judged.1 (refl, c.in-Ok.ensures.written);
      },
    )

pub returns-in-Ok-Right-clause-outcome : goal.returns-in-Ok-Right-clause-outcome
returns-in-Ok-Right-clause-outcome g c told =
    let bytes = c.in_ok-bytes.bytes.items in
    let took = c.in_ok-bytes.ensures.whole in
    let script = c.in_ok-script.script in
    let log = c.in-Ok-Right.log.items in
    let cut = c.in-Ok-Right.field-0-1 in
    let judged = rw c.in-Ok-Right.field-0-is at c.in-Ok-Right.ensures in
    let reads = subst (λ (text : List ℕ). Reads text script) (c.parts_of.ensures.script ∙ ap script_part c.deref.ensures.value) c.in_ok-script.ensures.read in
    let of = subst (λ (text : List ℕ). IsTextOf c.args.prefix text log cut) (c.parts_of.ensures.behind ∙ ap part_behind c.deref.ensures.value) judged.0 in
    let put = c.in-Err-write_events.ensures in
    ⊎_elim
    (λ (is : c.in-Err-write_events.fault ≡ WriteFault). rw is (
      refl,
      λ takes. took.end,
      put.failed (ap Err is),
      record {
        bytes = bytes;
        took = took;
        holds = traced c.args.full c.args.prefix bytes script log cut _ reads of judged.1 (put.cut (ap Err is));
      },
    ))
    (λ (is : c.in-Err-write_events.fault ≡ NoMemory alloc_error). rw is tt)
    put.faults
