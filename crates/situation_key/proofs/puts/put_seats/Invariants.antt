use Rattle.std.proofs.Common.{◌≡◌, ◌++◌, ◌∷◌, length, take}
use Rattle.std.specs.Prelude.{flat_map}
use Rattle.situation_key.specs.Words.{seat_words}
use Rattle.situation_key.proofs.puts.put_seats.Given as goal

abbrev pub invariant-loop-seat : goal.invariant-loop-seat
invariant-loop-seat l = l.key.items ≡ l.fn.key.items ++ (length l.seats ∷ flat_map seat_words (take l.seat-index l.seats))
