use Rattle.std.proofs.Common.{◌≡◌, ◌≤◌, ap, arith, length, sym, true, ◌∙◌}
use Rattle.std.proofs.lemmas.Bool.{both_ways}
use Rattle.task_base.specs.Plan.{Plan}
use Rattle.hist_model.specs.Script.{is_finished}
use Rattle.env_explain.specs.Explained.{at_work}
use Rattle.env_explain.proofs.AtWork.{at_work_told, only_one}
use Rattle.env_explain.proofs.explain.end_told.Goals as goal
use Rattle.env_explain.proofs.explain.end_told.Goals.{else-len-gt1-via-then-len-gt1+else-is_finished, else-len-gt1-via-else-len-gt1}

pub returns-then-is_finished-clause-cause : goal.returns-then-is_finished-clause-cause
returns-then-is_finished-clause-cause c = (
  c.requires.place,
  sym c.is_finished.ensures ∙ c.if-is_finished.true,
  (rw (c.as_slice.ensures, ap (λ (p : Plan). p.workers) (c.script.view_is ∙ c.requires.script)) at c.in_ok-busy.ensures)
      ∙ at_work_told c.requires.hands,
  omega (arith, c.len.ensures, c.if-len-gt1.true, c.in_ok-busy.busy.ok.0),
)

pub returns-clause-cause : goal.returns-clause-cause
returns-clause-cause c =
    let script = c.args.env.now.script in
    let past = c.args.env.now.history in
    let all : c.in_ok-busy.busy.items ≡ at_work script past =
    (rw (c.as_slice.ensures, ap (λ (p : Plan). p.workers) (c.script.view_is ∙ c.requires.script)) at c.in_ok-busy.ensures)
    ∙ at_work_told c.requires.hands in
    let few : is_finished script past ≡ true → length (at_work script past) ≤ 1 = λ finished. elim c.else-len-gt1.branch [
      | else-len-gt1-via-then-len-gt1+else-is_finished w ↦
          absurd (both_ways (is_finished script past) (sym w.is_finished.ensures ∙ w.if-is_finished.false) finished)
      | else-len-gt1-via-else-len-gt1 w ↦ omega (arith, c.len.ensures, w.if-len-gt1.false, c.in_ok-busy.busy.ok.0, ap length all)
    ] in
    let at = c.left-seat.ensures in
    (c.requires.place, at.known, at.more, at.cause, only_one script past c.left-seat.result.0 at.known at.more few)
