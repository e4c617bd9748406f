use Rattle.std.proofs.Common.{sym, ◌∙◌}
use Rattle.live_core.proofs.Made.{can_enter, stands_next}
use Rattle.live_core.proofs.live.LiveCore.call.Goals as goal

pub enter-requires : goal.enter-requires
enter-requires c =
    let stands = c.requires.2 in
    let fit = sym (c.fits.ensures c.requires.0 c.requires.1 stands.books) ∙ c.if-not-fits.false in
    let roomy = sym (c.is_full.ensures c.requires.0 c.requires.1 stands.books) ∙ c.if-is_full.false in
    let moved = c.in_ok-kind.ensures c.requires.0 c.requires.1 (record { stands = stands; may = record { fit = fit; roomy = roomy } }) in
    (c.requires.0, c.requires.1, rw c.seat.ensures (can_enter (record { stands = stands; may = record { fit = fit; roomy = roomy } }) moved))

pub returns : goal.returns
returns c = λ plan past stands.
    let fit = sym (c.fits.ensures plan past stands.books) ∙ c.if-not-fits.false in
    let roomy = sym (c.is_full.ensures plan past stands.books) ∙ c.if-is_full.false in
    let moved = c.in_ok-kind.ensures plan past (record { stands = stands; may = record { fit = fit; roomy = roomy } }) in
    let can = can_enter (record { stands = stands; may = record { fit = fit; roomy = roomy } }) moved in
    record {
      may = record { fit = fit; roomy = roomy };
      made = moved.made;
      stands = stands_next (record { stands = stands; may = record { fit = fit; roomy = roomy } }) moved
          (rw c.seat.ensures at (c.enter.ensures.stands plan past (rw c.seat.ensures can)));
    }
