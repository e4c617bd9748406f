use Rattle.std.proofs.Common.{refl, sym, ◌∙◌}
use Rattle.live_roster.proofs.Rousing.{awake_still, resting_still}
use Rattle.live_roster.proofs.roster.LiveRoster.rest.Goals as goal

pub returns-then-not-fits : goal.returns-then-not-fits
returns-then-not-fits c = λ plan past stands. (sym (c.fits.ensures plan past stands.noted.core) ∙ c.if-not-fits.true, refl, refl)

pub rouse-requires : goal.rouse-requires
rouse-requires c =
    (c.requires.0, c.requires.1, awake_still c.seat-seat.result c.requires.2.noted c.requires.2.noted.core c.note_seat.ensures refl)

pub returns-then-need_not_wait : goal.returns-then-need_not_wait
returns-then-need_not_wait c = λ plan past stands. (
  sym (c.fits.ensures plan past stands.noted.core) ∙ c.if-not-fits.false,
  sym (c.need_not_wait.ensures plan past stands) ∙ c.if-need_not_wait.true,
  rw (← c.seat-seat.ensures, ← c.note_seat.ensures)
      (c.rouse.ensures plan past (awake_still c.seat-seat.result stands.noted stands.noted.core c.note_seat.ensures refl)),
)

pub rouse-requires-2 : goal.rouse-requires-2
rouse-requires-2 c = (c.requires.0, c.requires.1, resting_still c.seat-seat.result c.requires.2.noted refl c.note_seat-2.ensures refl)

pub returns : goal.returns
returns c = λ plan past stands. (
  sym (c.fits.ensures plan past stands.noted.core) ∙ c.if-not-fits.false,
  sym (c.need_not_wait.ensures plan past stands) ∙ c.if-need_not_wait.false,
  c.new.ensures ∙ c.seat-seat.ensures,
  rw (← c.wish_after-self.ensures, c.new.ensures, ← c.note_seat-2.ensures)
      (c.rouse-2.ensures plan past (resting_still c.seat-seat.result stands.noted refl c.note_seat-2.ensures refl)),
)
