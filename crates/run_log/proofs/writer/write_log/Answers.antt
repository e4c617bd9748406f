use Rattle.std.proofs.Common.{◌≡◌, ℕ, take, length, Ok, Err, OnErr, ap, ◌∙◌}
use Rattle.std.proofs.lemmas.Result.{on_ok_weaker, on_err_weaker}
use Rattle.env_io.specs.Bytes.{Gains}
use Rattle.log_model.specs.LogText.{total_line, log_text}
use Rattle.run_log.proofs.Taken.{gains_text, cut_in_head, cut_in_lines, cut_in_total}
use Rattle.run_log.proofs.writer.write_log.Goals as goal

pub returns-in_err-put_all-clause-cut : goal.returns-in_err-put_all-clause-cut
returns-in_err-put_all-clause-cut g c =
    let cut = cut_in_head _ _ c.args.log.now.items (rw c.head_of.ensures at c.in_err-put_all.ensures.cut) in
    elim c.from_residual.result as (λ r. OnErr r ((n : ℕ) × Gains (g.K.Sink.holds c.args.sink.now) (take n (log_text c.args.log.now.items))
    (g.K.Sink.holds c.put_all.new.sink))) [ Ok _ ↦ tt | Err _ ↦ cut ]

pub returns-in_err-put_lines-clause-cut : goal.returns-in_err-put_lines-clause-cut
returns-in_err-put_lines-clause-cut g c =
    let cut = cut_in_lines _ _ _ c.args.log.now.items (rw c.head_of.ensures at c.in_ok-put_all.ensures.written) c.in_err-put_lines.ensures.cut in
    elim c.from_residual-in_err-put_lines.result as (λ r. OnErr r ((n : ℕ) × Gains (g.K.Sink.holds c.args.sink.now) (take n (log_text c.args.log.now.items))
    (g.K.Sink.holds c.put_lines.new.sink))) [ Ok _ ↦ tt | Err _ ↦ cut ]

pub returns-clause-written : goal.returns-clause-written
returns-clause-written g c =
    let total : c.deref.result.now ≡ total_line (length c.args.log.now.items) = c.deref.ensures.0 ∙ c.end_of.ensures ∙ ap total_line c.len.ensures.count in
    on_ok_weaker c.put_all-2.result (λ written. gains_text _ _ _ _ c.args.log.now.items (rw c.head_of.ensures at c.in_ok-put_all.ensures.written)
    c.in_ok-put_lines.ensures.written (rw total at written)) c.put_all-2.ensures.written

pub returns-clause-cut : goal.returns-clause-cut
returns-clause-cut g c =
    let total : c.deref.result.now ≡ total_line (length c.args.log.now.items) = c.deref.ensures.0 ∙ c.end_of.ensures ∙ ap total_line c.len.ensures.count in
    on_err_weaker c.put_all-2.result (λ cut. cut_in_total _ _ _ _ c.args.log.now.items (rw c.head_of.ensures at c.in_ok-put_all.ensures.written)
    c.in_ok-put_lines.ensures.written (rw total at cut)) c.put_all-2.ensures.cut
