use Rattle.std.proofs.Common.{◌≤◌, ℕ, length, take, Ok, Err, OnErr, ◌∙◌}
use Rattle.env_io.specs.Bytes.{Gains}
use Rattle.log_model.specs.LogText.{log_lines}
use Rattle.log_model.proofs.Laws.LogTexts.{log_lines-take_all}
use Rattle.run_log.proofs.Taken.{gains_line, gains_cut}
use Rattle.run_log.proofs.writer.put_lines.Goals as goal

pub returns-in_err-put_all-clause-cut : goal.returns-in_err-put_all-clause-cut
returns-in_err-put_all-clause-cut g c =
    let cut = gains_cut _ _ _ _ _ _ _ _ c.as_slice-entry-items.ensures
    (c.deref.ensures.0 ∙ c.line.ensures.items) c.loop-place-test.true c.loop-place.invariant.taken
    c.in_err-put_all.ensures.cut in
    elim c.from_residual.result as (λ r. OnErr r ((n : ℕ) × Gains (g.K.Sink.holds c.args.sink.now) (take n (log_lines c.args.log.now.items))
    (g.K.Sink.holds c.put_all.new.sink))) [ Ok _ ↦ tt | Err _ ↦ cut ]

pub loop-place-preserved : goal.loop-place-preserved
loop-place-preserved g c = record {
  taken = gains_line _ _ _ _ _ _ _ _ c.as_slice-entry-items.ensures
      (c.deref.ensures.0 ∙ c.line.ensures.items) c.loop-place-test.true c.loop-place.invariant.taken
      c.in_ok-put_all.ensures.written;
  steady = c.in_ok-put_all.ensures.steady ∙ c.loop-place.invariant.steady;
}

pub returns-clause-written : goal.returns-clause-written
returns-clause-written g c =
    let all : length c.args.log.now.items ≤ c.loop-place.place = rw c.as_slice-entry-items.ensures at c.loop-place-test.false in
    rw (← log_lines-take_all c.args.log.now.items c.loop-place.place all) c.loop-place.invariant.taken
