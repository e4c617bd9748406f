use Rattle.std.proofs.Common.{◌≡◌, false, refl, sym, ◌∙◌, arith, length-set}
use Rattle.std.specs.Option.{is_some}
use Rattle.event_text.proofs.Latest.{first_wrong, latest-init, still_latest, still_right}
use Rattle.event_text.proofs.mistakes.mistake_of.Goals as goal

pub loop-i-init : goal.loop-i-init
loop-i-init c = record { long = refl; latest = latest-init 65 _ refl; right = refl }

pub returns-then-is_some : goal.returns-then-is_some
returns-then-is_some c =
    first_wrong c.args.workers 65 _ c.args.events.now c.loop-i.i _ c.loop-i.latest (omega arith) (omega arith) refl c.loop-i.invariant.latest
    c.loop-i.invariant.right _ c.mistake_with-mistake.ensures (sym (c.is_some.ensures) ∙ c.if-is_some.true)

pub loop-i-preserved : goal.loop-i-preserved
loop-i-preserved c =
    let none : is_some c.mistake_with-mistake.result ≡ false = sym (c.is_some.ensures) ∙ c.if-is_some.false in
    record {
      long = rw length-set c.loop-i.invariant.long;
      latest = rw c.latest_after.ensures (still_latest c.args.workers 65 _ c.args.events.now c.loop-i.i _ c.loop-i.latest (omega arith) (omega arith) refl
          c.loop-i.invariant.long c.loop-i.invariant.latest _ c.mistake_with-mistake.ensures none);
      right = still_right c.args.workers 65 _ c.args.events.now c.loop-i.i _ c.loop-i.latest (omega arith) (omega arith) refl c.loop-i.invariant.latest
          c.loop-i.invariant.right _ c.mistake_with-mistake.ensures none;
    }
