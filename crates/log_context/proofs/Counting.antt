-- What runs by a limit, seat by seat.
-- Cited by `counted`, `room`.
use Rattle.std.proofs.Common.{◌≡◌, ℕ, ◌+◌, Bool, true, false, cond, List, [], ◌∷◌, refl, arith}
use Rattle.std.specs.List.{range_with_len}
use Rattle.list_laws.proofs.Counts.{count-append}
use Rattle.list_laws.proofs.Ranges.{range_split}
use Rattle.list_laws.specs.Lists.{count}
use Rattle.task_base.specs.Plan.{Plan}
use Rattle.task_base.specs.declared.entry.Entry.{Entry}
use Rattle.task_model.specs.Capacity.{best_capacity, best_load, capacity, load}
use Rattle.log_context.specs.Rooms.{counted, most_of, room}
use Rattle.log_context.specs.declared.fact.Fact.TheVariants as facts
use Rattle.log_context.specs.declared.fact.Limit.{Limit}
use Rattle.log_context.specs.declared.fact.Limit.TheVariants as limits

-- one worker more
pub count_more : (test : ℕ → Bool) (n now : ℕ) (passes : Bool) → now ≡ count test (range_with_len 1 n) → passes ≡ test (n + 1)
    → now + cond passes 1 0 ≡ count test (range_with_len 1 (n + 1))
count_more test n now passes is tested = rw (
  range_split 1 n 0 (n + 1) (n + 1) (omega arith) (omega arith),
  count-append test (range_with_len 1 n) ((n + 1) ∷ []),
  is,
  tested,
) (by_test (test (n + 1)) refl)
  where
    by_test : (b : Bool) → test (n + 1) ≡ b
        → count test (range_with_len 1 n) + cond (test (n + 1)) 1 0 ≡ count test (range_with_len 1 n) + count test ((n + 1) ∷ [])
    by_test true was = rw was refl
    by_test false was = rw was refl

-- the counts are those that leave room, or none
pub room_is : (script : Plan) (past : List Entry) (limit : Limit)
    → facts.Room limit (counted script past limit false) (most_of script limit + counted script past limit true) ≡ room script past limit
unfolding load capacity best_load best_capacity
room_is script past limits.Foreground = refl
room_is script past limits.BestEffort = refl
room_is script past limits.Background = refl
