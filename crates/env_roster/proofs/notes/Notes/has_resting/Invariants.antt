use Rattle.std.specs.Prelude.{◌≡◌, ◌<◌, ℕ, Some, slice_get}
use Rattle.env_roster.specs.declared.note.Note.TheVariants as notes_of
use Rattle.env_roster.proofs.notes.Notes.has_resting.Given as goal

abbrev pub invariant-loop-note : goal.invariant-loop-note
invariant-loop-note l = (l.note-items ≡ l.self) × ((seat : ℕ) → seat < l.note-index → slice_get l.self seat ≡ Some notes_of.Resting → ⊥)
