-- Which seat is drawn (this project's own rule). Each seat that is left has lots: the driver's come first, and then those of each
-- worker, in order. A lot is drawn by a generator.
use Rattle.std.specs.Prelude.{◌≡◌, ◌<◌, ℕ, ◌+◌, ◌-◌, ◌*◌, ◌/◌, ◌^◌, ◌≤◌, Bool, true, false, not, ◌&&◌, nat_lt, if◌then◌else◌, List, [], length, remove, slice_index, Option, Some}
use Rattle.std.specs.List.{range_with_len}
use Rattle.rand_pcg.specs.Lcg.{Lcg, started, increment_of}
use Rattle.rand_pcg.specs.Pcg.{multiplier_64, pcg32}
use Rattle.simulation.specs.declared.lots.Lots.{Lots}
use Rattle.simulation.specs.declared.lots.TheConstants.{MOST_LOTS}

-- each seat has a lot at least, and at most so many
pub record IsFair (lots : Lots) : Type 0 where
  pub driver : 1 ≤ lots.driver
  pub driver_few : lots.driver ≤ MOST_LOTS
  pub worker : 1 ≤ lots.worker
  pub worker_few : lots.worker ≤ MOST_LOTS

-- a generator, how many lots each seat has, and who is left to be drawn: the driver or not, and these workers
pub record Drawing : Type 0 where
  pub generator : Lcg
  pub lots : Lots
  pub driver : Bool
  pub workers : List ℕ

-- PCG's reference generator at a seed, on its first stream, with nobody left
abbrev pub draw_of_seed : ℕ → Lots → Drawing
draw_of_seed seed lots = record { generator = started 64 multiplier_64 seed (increment_of 64 0); lots = lots; driver = false; workers = [] }

-- the driver and so many workers are left
abbrev pub everybody : ℕ → Drawing → Drawing
everybody workers d = record d { driver = true; workers = range_with_len 1 workers }

-- how many seats are left
abbrev pub left_of : Drawing → ℕ
left_of d = (if d.driver then 1 else 0) + length d.workers

-- the lots of the driver, if it is left
abbrev pub drivers_lots : Drawing → ℕ
drivers_lots d = if d.driver then d.lots.driver else 0

-- the lots of all who are left
abbrev pub all_lots : Drawing → ℕ
all_lots d = drivers_lots d + length d.workers * d.lots.worker

-- the lot that the generator's next word draws
abbrev pub lot_of : Drawing → ℕ
lot_of d = (pcg32 d.generator).0 * all_lots d / 2 ^ 32

-- it is one of the driver's
abbrev pub draws_driver : Drawing → Bool
draws_driver d = nat_lt (lot_of d) (drivers_lots d)

-- else it is one of the worker's at this place of those that are left
abbrev pub drawn_place : Drawing → ℕ
drawn_place d = (lot_of d - drivers_lots d) / d.lots.worker

-- the seat that is drawn
abbrev pub drawn_seat : Drawing → ℕ
drawn_seat d = if draws_driver d then 0 else slice_index d.workers (drawn_place d)

-- the same after the draw: the seat is struck out, and the generator goes on
abbrev pub struck : Drawing → Drawing
struck d = record d {
  generator = (pcg32 d.generator).1;
  driver = d.driver && not (draws_driver d);
  workers = if draws_driver d then d.workers else remove d.workers (drawn_place d);
}

-- a draw gives the seat that is drawn, which is one of those that are left, and strikes it out
pub record Draws (before after : Drawing) (drawn : Option ℕ) : Type 0 where
  pub seat : drawn ≡ Some (drawn_seat before)
  pub struck_out : after ≡ struck before
  pub driver_is_left : draws_driver before ≡ true → before.driver ≡ true
  pub worker_is_left : draws_driver before ≡ false → drawn_place before < length before.workers
