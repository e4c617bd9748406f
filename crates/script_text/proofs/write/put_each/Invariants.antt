use Rattle.std.proofs.Common.{take}
use Rattle.script_text.specs.Written.{IsPut, texts_from}
use Rattle.script_text.proofs.write.put_each.Given as goal

abbrev pub invariant-loop-place : goal.invariant-loop-place
invariant-loop-place g l =
    IsPut (g.K.Sink.holds l.initial.sink) (g.K.Sink.faults l.initial.sink) (texts_from g.E.Element.text 0 (take l.place l.elements)) (g.K.Sink.holds l.sink)
    (g.K.Sink.faults l.sink)
