use Rattle.std.specs.Prelude.{◌≡◌, ◌<◌, ℕ, Some, slice_get}
use Rattle.live_roster.specs.declared.note.Note.TheVariants as notes_of
use Rattle.live_roster.proofs.roster.LiveRoster.has_resting.Given as goal

abbrev pub invariant-loop-note : goal.invariant-loop-note
invariant-loop-note l = (l.note-items ≡ l.self.notes.items)
    × ((seat : ℕ) → seat < l.note-index → slice_get l.self.notes.items seat ≡ Some notes_of.Resting → ⊥)
