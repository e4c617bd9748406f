use Rattle.std.specs.Prelude.{◌≡◌, length}
use Rattle.env_shared.specs.Beds.{AreInPlace}
use Rattle.env_shared.proofs.shared.beds.Given as goal

abbrev pub invariant-loop-seat : goal.invariant-loop-seat
invariant-loop-seat l = record {
  all : length l.beds.items ≡ l.seat;
  placed : AreInPlace l.beds.items;
}
