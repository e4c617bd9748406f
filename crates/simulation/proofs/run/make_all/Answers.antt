use Rattle.std.proofs.Common.{◌≡◌, ◌<◌, length, ap, arith, refl, subst, sym, ◌∙◌}
use Rattle.script_model.specs.Bound.{events_bound_of}
use Rattle.script_model.proofs.Laws.Canonical.{sound_is_valid}
use Rattle.hist_model.specs.Legal.{IsLegal}
use Rattle.hist_model.specs.Script.{IsWhole}
use Rattle.hist_model.proofs.Laws.Progress.Ends.{ends_whole}
use Rattle.simulation.specs.Draw.{everybody}
use Rattle.simulation.specs.Turns.{NobodyMay}
use Rattle.simulation.proofs.Made.{all_made, brought, everybody_known, full_at_end, never_back, nobody_at_end, one_more}
use Rattle.simulation.proofs.run.make_all.Goals as goal

pub events_bound-end-requires : goal.events_bound-end-requires
events_bound-end-requires c = sound_is_valid c.args.script.now c.requires.plan

pub draw_entry-requires-clause-known : goal.draw_entry-requires-clause-known
draw_entry-requires-clause-known c =
    let workers : c.script.inside.workers ≡ c.loop.env.script.workers = ap (λ p. p.workers) (c.script.view_is ∙ sym c.loop.invariant.script_is) in
    rw (c.in_ok-refill.ensures, workers) (everybody_known c.loop.env.script c.loop.draw)

pub note-requires-clause-tells : goal.note-requires-clause-tells
note-requires-clause-tells c = (c.args.step, c.loop.env.history, c.loop.invariant.tells)

pub returns-in-None-clause-made : goal.returns-in-None-clause-made
returns-in-None-clause-made c =
    let at = c.loop.invariant in
    let less : c.loop.counter < events_bound_of c.args.script.now = omega (arith, c.loop-test.true, c.events_bound-end.ensures) in
    let refill = c.in_ok-refill.ensures ∙ ap (λ p. everybody p.workers c.loop.draw) c.script.view_is in
    let reads = c.reading.ensures c.args.step c.args.script.now c.loop.env.history at.tells in
    let next_is = brought c.args.script.now c.args.step c.loop.env c.loop.draw c.refill.new.self c.reading.result _ at.script_is refill reads c.in-None.ensures.drawn in
    ap (λ v. v.history) c.in-None.ensures.stays
    ∙ all_made c.args.script.now c.args.step c.args.draw c.loop.draw c.loop.env c.loop.hands c.loop.clock c.loop.counter _ at less next_is refl

pub returns-in-None-clause-whole : goal.returns-in-None-clause-whole
returns-in-None-clause-whole c =
    let at = c.loop.invariant in
    let refill = c.in_ok-refill.ensures ∙ ap (λ p. everybody p.workers c.loop.draw) (c.script.view_is ∙ sym at.script_is) in
    let nobody : NobodyMay c.loop.env c.reading.result (everybody c.loop.env.script.workers c.loop.draw) =
    subst (NobodyMay c.loop.env c.reading.result) refill c.in-None.ensures.nobody in
    let at_end = nobody_at_end c.loop.env c.reading.result c.loop.draw at.hands.closed at.hands.legal nobody in
    let whole : IsWhole c.loop.env.script c.loop.env.history =
    ends_whole c.loop.env.script c.loop.env.history (rw at.script_is c.requires.plan) at.hands.legal at_end in
    rw (c.in-None.ensures.stays, ← at.script_is) whole

pub loop-preserved : goal.loop-preserved
loop-preserved c =
    let at = c.loop.invariant in
    let less : c.loop.counter < events_bound_of c.args.script.now = omega (arith, c.loop-test.true, c.events_bound-end.ensures) in
    let refill = c.in_ok-refill.ensures ∙ ap (λ p. everybody p.workers c.loop.draw) c.script.view_is in
    let reads = c.reading.ensures c.args.step c.args.script.now c.loop.env.history at.tells in
    let next_is = brought c.args.script.now c.args.step c.loop.env c.loop.draw c.refill.new.self c.reading.result _ at.script_is refill reads c.in-Some.ensures.drawn in
    let enters = c.in-Some.ensures.enters in
    let ordered = never_back c.loop.env.script c.loop.env.history c.in-Some.entry at.hands.closed at.hands.legal enters.allowed in
    let tells = c.in_ok-note-in-Some.ensures c.args.step c.loop.env.history at.tells ordered in
    one_more c.args.script.now c.args.step c.args.draw c.loop.draw c.loop.env c.draw_entry.new.env c.loop.hands c.draw_entry.new.hands c.loop.clock c.note.new.self
    c.loop.counter _ c.in-Some.entry at less next_is refl enters c.in-Some.ensures.hands tells

pub returns-clause-whole : goal.returns-clause-whole
returns-clause-whole c =
    let at = c.loop.invariant in
    let full : length c.loop.env.history ≡ events_bound_of c.args.script.now =
    omega (arith, at.count, c.loop-test.false, c.loop.auto.counter-end, c.events_bound-end.ensures) in
    let legal : IsLegal c.args.script.now c.loop.env.history = rw (← at.script_is) at.hands.legal in
    ends_whole c.args.script.now c.loop.env.history c.requires.plan legal (full_at_end c.args.script.now c.loop.env.history c.requires.plan legal full)
