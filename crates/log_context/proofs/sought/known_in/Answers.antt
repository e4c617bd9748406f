use Rattle.std.proofs.Common.{◌≡◌, ◌∙◌, ap, arith, length, refl, sym, take}
use Rattle.std.proofs.lemmas.List.{length-take-le, take_all}
use Rattle.task_model.specs.Past.{fold_past}
use Rattle.log_context.specs.Sought.{known_in}
use Rattle.log_context.proofs.Known.{known_more}
use Rattle.log_context.proofs.sought.known_in.Goals as goal

pub loop-entry-init : goal.loop-entry-init
unfolding known_in fold_past
loop-entry-init c = record { known_is = c.new-known.ensures.items; place_is = refl }

pub loop-entry-preserved : goal.loop-entry-preserved
loop-entry-preserved c =
    let i = c.loop-entry.entry-index in
    let past = c.args.past.now in
    let now = c.loop-entry.invariant in
    let here : c.loop-entry.place ≡ length (take i past) = now.place_is ∙ sym (length-take-le i past (omega (arith, c.loop-entry-test.true))) in
    record {
      known_is = known_more c.args.script.now past c.args.sought i _ _ _ c.loop-entry-test.true now.known_is (c.in_ok-add_sought.ensures (take i past) here);
      place_is = omega (arith, now.place_is);
    }

pub returns : goal.returns
returns c = c.loop-entry.invariant.known_is
    ∙ ap (known_in c.args.script.now c.args.past.now c.args.sought) (take_all c.loop-entry.entry-index c.args.past.now (omega (arith, c.loop-entry-test.false)))
