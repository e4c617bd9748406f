use Rattle.std.specs.Prelude.{◌<◌, ℕ}
use Rattle.env_roster.specs.Wakes.{HasWorkAt, has_work}
use Rattle.env_roster.proofs.notes.Notes.find.Given as goal

abbrev pub invariant-loop-seat : goal.invariant-loop-seat
invariant-loop-seat g l =
    (seat : ℕ) → seat < l.seat → HasWorkAt (has_work l.env.script l.env.history l.own) l.self l.note seat → ⊥
