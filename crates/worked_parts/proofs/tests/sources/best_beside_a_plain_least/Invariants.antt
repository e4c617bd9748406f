use Rattle.std.proofs.Common.{◌≡◌, List, Option, length}
use Rattle.sequence_queue.specs.Ranked.{Ranked}
use Rattle.sequence_queue.specs.declared.rank.Rank.{Rank}
use Rattle.worked_parts.proofs.tests.sources.best_beside_a_plain_least.Given as goal

abbrev SameSizes : Ranked → List (Option Rank) → Type 0
SameSizes queue ranks = (queue.sequences ≡ 8000) × (queue.jobs ≡ 2000) × (length ranks ≡ 10000)

abbrev pub invariant-loop-round : goal.invariant-loop-round
invariant-loop-round g l = SameSizes l.queue l.ranks.items

abbrev pub invariant-loop-number : goal.invariant-loop-number
invariant-loop-number g l = SameSizes l.queue l.ranks.items

abbrev pub invariant-loop-number-2 : goal.invariant-loop-number-2
invariant-loop-number-2 g l = SameSizes l.queue l.ranks.items
