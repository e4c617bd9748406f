-- What is noted of a seat.
-- Cited by `Hold::begin`, `hold.rt`.
use Rattle.std.proofs.Common.{◌≡◌, ◌<◌, ℕ, List, Some, length, slice_set}
use Rattle.std.specs.Prelude.{slice_get}
use Rattle.list_laws.proofs.Places.{slice_get-set_same}
use Rattle.env_roster.specs.declared.note.Note.{Note}

-- a seat that was given this note has it
pub has_note : (notes : List Note) (seat : ℕ) (note : Note) → seat < length notes → slice_get (slice_set notes seat note) seat ≡ Some note
has_note notes seat note within = slice_get-set_same notes seat note within
