use Rattle.std.proofs.Common.{◌≡◌, ◌+◌, ◌-◌, ◌*◌, ◌^◌, length, ap, arith, subst, sym, ◌∙◌}
use Rattle.std.specs.Prelude.{min}
use Rattle.std.proofs.lemmas.List.FromFn.{length-map-range_with_len}
use Rattle.hist_model.specs.Moments.{ticks_of}
use Rattle.simulation.specs.Awaited.{counts_from}
use Rattle.simulation.specs.Clock.{Tells}
use Rattle.simulation.proofs.Ticks.{one_tick_more}
use Rattle.simulation.proofs.clock.TurnClock.note.Goals as goal

pub note-requires : goal.note-requires
note-requires c =
    let past = c.requires.tells.1 in
    let script = c.args.script.now in
    let kept = (subst (Tells c.requires.tells.0 script past) c.in-Jumps.is c.requires.tells.2).1 in
    let count : length c.in-Jumps.awaited.counts.items ≡ script.workers + 1 =
    ap length kept.counts ∙ length-map-range_with_len (counts_from script past) 0 (script.workers + 1) in
    record { seat = omega (arith, c.requires.seat, count) }

pub returns-in-Steps : goal.returns-in-Steps
returns-in-Steps c = λ step past told ordered.
    let t = subst (Tells step c.args.script.now past) c.in-Steps.is told in (
      t.0,
      c.next_reading.ensures (length (ticks_of past) + 1) t.1
          ∙ ap (λ n. min (n * c.in-Steps.step) (2 ^ 64 - 1)) (sym (one_tick_more past c.args.entry.now)),
    )
