use Rattle.std.proofs.Common.{◌≡◌, take}
use Rattle.env_io.specs.Bytes.{Gains}
use Rattle.log_model.specs.LogText.{text_from}
use Rattle.run_log.proofs.writer.put_lines.Given as goal

abbrev pub invariant-loop-place : goal.invariant-loop-place
invariant-loop-place g l = record {
  taken : Gains (g.K.Sink.holds l.initial.sink) (text_from 0 (take l.place l.log.items)) (g.K.Sink.holds l.sink);
  steady : g.K.Sink.faults l.sink ≡ g.K.Sink.faults l.initial.sink;
}
