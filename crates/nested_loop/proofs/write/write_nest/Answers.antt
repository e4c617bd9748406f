use Rattle.std.proofs.Common.{ℕ, take, Ok, Err, OnErr, ◌∙◌}
use Rattle.env_io.specs.Bytes.{Gains}
use Rattle.nested_loop.specs.NestText.{nest_text}
use Rattle.nested_loop.proofs.Taken.{sent_more, sent_cut, sent_all}
use Rattle.nested_loop.proofs.write.write_nest.Goals as goal

pub returns-in_err-put_all-clause-cut : goal.returns-in_err-put_all-clause-cut
returns-in_err-put_all-clause-cut g c =
    let within = rw c.as_slice-event-items.ensures at c.loop-place-test.true in
    let line = rw c.as_slice-event-items.ensures at (c.deref.ensures.0 ∙ c.event_line.ensures) in
    let cut = sent_cut _ _ _ c.args.log.now.items c.loop-place.place _ _ within line c.loop-place.invariant.sent c.in_err-put_all.ensures.cut in
    elim c.from_residual.result as (λ r. OnErr r ((n : ℕ) × Gains (g.K.Sink.holds c.args.sink.now) (take n (nest_text c.args.log.now.items))
    (g.K.Sink.holds c.put_all.new.sink))) [ Ok _ ↦ tt | Err _ ↦ cut ]

pub loop-place-preserved : goal.loop-place-preserved
loop-place-preserved g c =
    let within = rw c.as_slice-event-items.ensures at c.loop-place-test.true in
    let line = rw c.as_slice-event-items.ensures at (c.deref.ensures.0 ∙ c.event_line.ensures) in
    record {
      sent = sent_more _ _ _ c.args.log.now.items c.loop-place.place _ _ within line c.loop-place.invariant.sent c.in_ok-put_all.ensures.written;
      steady = c.in_ok-put_all.ensures.steady ∙ c.loop-place.invariant.steady;
    }

pub returns-clause-written : goal.returns-clause-written
returns-clause-written g c =
    let end = rw c.as_slice-event-items.ensures at c.loop-place-test.false in
    sent_all _ _ c.args.log.now.items c.loop-place.place end c.loop-place.invariant.sent
