use Rattle.std.proofs.Common.{◌≡◌, ◌<◌, ◌+◌, get_or, refl, length, ap, arith, sym, ◌∙◌}
use Rattle.std.specs.Prelude.{◌&&◌, nat_lt}
use Rattle.std.proofs.lemmas.List.FromFn.{get_or-map-range_with_len, length-map-range_with_len}
use Rattle.task_model.specs.Time.{now_after, now_of}
use Rattle.task_model.proofs.Growth.{now_of_push}
use Rattle.simulation.specs.Awaited.{counts_after, counts_from, ripe_by, ripe_moments}
use Rattle.simulation.specs.Awaits.{is_among}
use Rattle.simulation.proofs.Noted.{counts_set, later_is_later, ripe_push}
use Rattle.simulation.proofs.Ripe.{among-append, ripe_then}
use Rattle.simulation.proofs.awaited.Awaited.note.Goals as goal

pub returns : goal.returns
returns c = λ past kept ordered.
    let e = c.args.entry.now in
    let script = c.args.script.now in
    let then_is : c.now_after-moment.result ≡ now_after (now_of past) e.kind = c.now_after-moment.ensures ∙ ap (λ m. now_after m e.kind) kept.moment in
    let count : length c.args.self.now.counts.items ≡ script.workers + 1 =
    ap length kept.counts ∙ length-map-range_with_len (counts_from script past) 0 (script.workers + 1) in
    let within : e.seat < script.workers + 1 = omega (arith, c.requires.seat, count) in
    let was : c.index.result.now ≡ counts_from script past e.seat = c.index.ensures
    ∙ ap (λ xs. get_or xs e.seat c.index.result.now) kept.counts
    ∙ get_or-map-range_with_len (counts_from script past) 0 (script.workers + 1) e.seat e.seat c.index.result.now within (omega arith) in
    let threshold : c.script.inside.threshold ≡ script.threshold = ap (λ p. p.threshold) c.script.view_is in
    let counts_is : c.counts_after.result ≡ counts_after script.threshold (now_of past) (counts_from script past e.seat) e.kind =
    c.counts_after.ensures ∙ ap (λ n. counts_after n c.args.self.now.moment c.index.result.now e.kind) threshold
    ∙ ap (λ n. counts_after script.threshold n c.index.result.now e.kind) kept.moment
    ∙ ap (λ n. counts_after script.threshold (now_of past) n e.kind) was in
    record {
      moment = then_is ∙ sym (now_of_push past e);
      ripe = λ m. c.drop_reached.ensures m ∙ rw (c.in_ok-add_ahead.ensures m, kept.ripe m, c.ripe_of.ensures, kept.moment, then_is)
          (ripe_then (is_among m (ripe_moments past)) (is_among m (ripe_by (now_of past) e.kind)) (nat_lt (now_of past) m) (nat_lt (now_after (now_of past) e.kind) m)
          (later_is_later (now_of past) (now_after (now_of past) e.kind) m ordered)
          ∙ ap (λ b. b && nat_lt (now_after (now_of past) e.kind) m) (sym (among-append m (ripe_moments past) (ripe_by (now_of past) e.kind)))
          ∙ rw (now_of_push past e, ripe_push past e) refl);
      counts = rw (kept.counts, counts_is) (counts_set script past e within);
    }
