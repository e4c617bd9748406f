use Rattle.std.proofs.lemmas.Result.{on_ok_weaker}
use Rattle.full_trace.proofs.Texts.{events_sent}
use Rattle.full_trace.proofs.shown.TraceSerialize.serialize.Goals as goal

pub returns : goal.returns
returns g c =
    let events = events_sent c.args.self.now.events.items _ _ c.in_ok-serialize.ensures in
    on_ok_weaker c.end_map.result (λ ended. (_, c.in_ok-begin_map.ensures, (_, _, c.in_ok-key.ensures, events, ended))) c.end_map.ensures
