use Rattle.std.proofs.Common.{◌≡◌, ◌∙◌, ap, arith, length, refl, sym, take}
use Rattle.std.proofs.lemmas.List.{length-take-le, take_all}
use Rattle.task_model.specs.Past.{fold_past}
use Rattle.log_context.specs.Seen.{last_marked}
use Rattle.log_context.proofs.LastSeen.{seen_more}
use Rattle.log_context.proofs.seen.last_marked.Goals as goal

pub loop-entry-init : goal.loop-entry-init
unfolding last_marked fold_past
loop-entry-init c = record { last_is = refl; place_is = refl }

pub loop-entry-preserved : goal.loop-entry-preserved
loop-entry-preserved c =
    let i = c.loop-entry.entry-index in
    let past = c.args.past.now in
    let now = c.loop-entry.invariant in
    let here : c.loop-entry.place ≡ length (take i past) = now.place_is ∙ sym (length-take-le i past (omega (arith, c.loop-entry-test.true))) in
    record {
      last_is = seen_more c.args.mark past i _ _ _ c.loop-entry-test.true now.last_is (c.seen_after-last.ensures (take i past) here);
      place_is = omega (arith, now.place_is);
    }

pub returns : goal.returns
returns c = c.loop-entry.invariant.last_is
    ∙ ap (last_marked c.args.mark) (take_all c.loop-entry.entry-index c.args.past.now (omega (arith, c.loop-entry-test.false)))
