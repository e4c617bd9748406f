use Rattle.env_io.proofs.Bytes.{Gains-nil}
use Rattle.std.proofs.Common.{◌≡◌, ℕ, Err, List, Some, None, ap, subst, refl, ⊎_elim, ◌∙◌}
use Rattle.std.specs.Prelude.{alloc_error}
use Rattle.task_base.specs.declared.fault.Fault.TheVariants.{NoMemory, WriteFault}
use Rattle.script_model.specs.Grammar.{Reads}
use Rattle.open_check.specs.Plans.{plan_fault}
use Rattle.app_streams.specs.Parts.{part_behind, script_part}
use Rattle.app_modes.specs.Judged.{IsTextOf}
use Rattle.app_modes.specs.Opened.{IsFoundOpen, IsOpenAt}
use Rattle.app_modes.proofs.TracingOpen.{traced_open}
use Rattle.app_modes.proofs.trace_open.trace_open.Goals as goal

pub returns-in-Ok-Wrong-clause-outcome : goal.returns-in-Ok-Wrong-clause-outcome
returns-in-Ok-Wrong-clause-outcome g c told =
    let bytes = c.in_ok-bytes.bytes.items in
    let took = c.in_ok-bytes.ensures.whole in
    let script = c.in_ok-script.script in
    let line = Some c.in-Ok-Wrong.line in
    let text = c.parts_of.ensures.script ∙ ap script_part c.deref.ensures.value in
    let log = c.parts_of.ensures.behind ∙ ap part_behind c.deref.ensures.value in
    let judged = rw c.in-Ok-Wrong.field-0-is at (c.in-Ok-Wrong.ensures script c.in_ok-live.ensures.stands) in
    let found : IsFoundOpen c.args.prefix bytes line = record {
      script = script;
      cut = c.in-Ok-Wrong.field-0-1;
      reads = subst (λ (t : List ℕ). Reads t script) text c.in_ok-script.ensures.read;
      plan = subst (λ (t : List ℕ). plan_fault script t ≡ None) text c.in_ok-live.ensures.right;
      found = subst (λ (t : List ℕ). IsOpenAt c.args.prefix script t line c.in-Ok-Wrong.field-0-1) log judged;
    } in (
      tt,
      took.end,
      record { bytes = bytes; took = took; holds = record { line = line; found = found; holds = (refl, Gains-nil _) } },
      record { bytes = bytes; took = took; holds = found },
    )

pub returns-in-Ok-clause-outcome : goal.returns-in-Ok-clause-outcome
returns-in-Ok-clause-outcome g c told =
    let bytes = c.in_ok-bytes.bytes.items in
    let took = c.in_ok-bytes.ensures.whole in
    let script = c.in_ok-script.script in
    let list = c.in-Ok-Right.log.items in
    let cut = c.in-Ok-Right.field-0-1 in
    let text = c.parts_of.ensures.script ∙ ap script_part c.deref.ensures.value in
    let log = c.parts_of.ensures.behind ∙ ap part_behind c.deref.ensures.value in
    let judged = rw c.in-Ok-Right.field-0-is at (c.in-Ok-Right.ensures script c.in_ok-live.ensures.stands) in
    let reads = subst (λ (t : List ℕ). Reads t script) text c.in_ok-script.ensures.read in
    let plan = subst (λ (t : List ℕ). plan_fault script t ≡ None) text c.in_ok-live.ensures.right in
    let of = subst (λ (t : List ℕ). IsTextOf c.args.prefix t list cut) log judged.0 in (
      refl,
      λ takes. took.end,
      record {
        bytes = bytes;
        took = took;
        holds = traced_open c.args.full c.args.prefix bytes script list cut _ reads plan of judged.1 (refl, c.in-Ok.ensures.written);
      },
    )

pub returns-in-Ok-Right-clause-outcome : goal.returns-in-Ok-Right-clause-outcome
returns-in-Ok-Right-clause-outcome g c told =
    let bytes = c.in_ok-bytes.bytes.items in
    let took = c.in_ok-bytes.ensures.whole in
    let script = c.in_ok-script.script in
    let list = c.in-Ok-Right.log.items in
    let cut = c.in-Ok-Right.field-0-1 in
    let text = c.parts_of.ensures.script ∙ ap script_part c.deref.ensures.value in
    let log = c.parts_of.ensures.behind ∙ ap part_behind c.deref.ensures.value in
    let judged = rw c.in-Ok-Right.field-0-is at (c.in-Ok-Right.ensures script c.in_ok-live.ensures.stands) in
    let reads = subst (λ (t : List ℕ). Reads t script) text c.in_ok-script.ensures.read in
    let plan = subst (λ (t : List ℕ). plan_fault script t ≡ None) text c.in_ok-live.ensures.right in
    let of = subst (λ (t : List ℕ). IsTextOf c.args.prefix t list cut) log judged.0 in
    let put = c.in-Err-write_events.ensures in
    ⊎_elim
    (λ (is : c.in-Err-write_events.fault ≡ WriteFault). rw is (
      refl,
      λ takes. took.end,
      put.failed (ap Err is),
      record {
        bytes = bytes;
        took = took;
        holds = traced_open c.args.full c.args.prefix bytes script list cut _ reads plan of judged.1 (put.cut (ap Err is));
      },
    ))
    (λ (is : c.in-Err-write_events.fault ≡ NoMemory alloc_error). rw is tt)
    put.faults
