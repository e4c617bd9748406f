use Rattle.std.proofs.Common.{◌≡◌, ◌+◌, ◌≤◌, length}
use Rattle.env_shared.specs.Splits.{AreWorkers, IsDriver}
use Rattle.env_shared.proofs.shared.Shared.split_all.Given as goal

abbrev pub invariant-loop : goal.invariant-loop
invariant-loop g l = record {
  first : IsDriver l.self l.counter l.first;
  all : length l.seats.items ≡ l.counter;
  room : l.count ≤ l.seats.spare + l.counter;
  workers : AreWorkers l.self 1 l.seats.items;
}
