-- Entries of the main queues, of the driver, and of jobs that nobody enters change nothing of the pool.
-- Cited by `other_entries_keep_the_pool`, `env_core`, `live_core`.
use Rattle.pool_core.proofs.Works.GroupGrowth.{groups_at_driver, groups_kept}
use Rattle.pool_core.proofs.Calls.Kept.{stands_kept, stands_with}
use Rattle.pool_core.proofs.LineGrowth.{lines_at_main}
use Rattle.pool_core.proofs.Pasts.{past_at_main, past_kept}
use Rattle.pool_core.proofs.Sources.Queues.{hold_same}
use Rattle.pool_core.proofs.Tables.{seats_at_main}
use Rattle.pool_core.proofs.Tracking.{tracked_kept}
use Rattle.pool_core.specs.Others.{is_still, pool_parts, group_parts, past_parts, tracked_parts, table_parts}
use Rattle.pool_core.specs.StandsFor.{StandsFor}
use Rattle.pool_core.specs.declared.pool.Pool.{Pool}
use Rattle.pool_laws.proofs.Choice.Candidates.{source_at_main}
use Rattle.pool_laws.specs.Choice.{source_waiting, source_parts}
use Rattle.pool_core.specs.Pasts.{IsPoolPast}
use Rattle.task_model.specs.Seats.{Running, running}
use Rattle.list_laws.specs.Lists.{holds_of}
use Rattle.pool_laws.specs.Seats.{moves_main, runs_pool_task, main_parts}
use Rattle.std.proofs.Common.{Bool, List, None, Option, Some, [], ap, arith, false, refl, sym, true, ◌≤◌, ◌++◌, ◌∙◌, ◌∷◌, ◌≡◌}
use Rattle.std.proofs.lemmas.Bool.{not-true}
use Rattle.std.specs.Prelude.{not}
use Rattle.task_base.specs.Plan.{Plan}
use Rattle.task_base.specs.declared.entry.Entry.{Entry}
use Rattle.pool_laws.specs.Keys.{arrivals}
use Rattle.pool_laws.specs.Moves.{Moment, Scopes, moves}
use Rattle.pool_laws.proofs.Moves.{moves_fewer, moves_apart}

-- one that is not the driver's at which it takes or ends a main task
pub stands_at_still : (script : Plan) (past : List Entry) (e : Entry) (pool : Pool) → is_still e.kind ≡ true → StandsFor script past pool
    → StandsFor script (past ++ e ∷ []) pool
stands_at_still script past e pool still stands = stands_kept script past pool e pool.groups pool.tracker stands
    (moves_fewer source_parts pool_parts e.kind refl none)
    (past_kept script past e (moves_fewer past_parts pool_parts e.kind refl none) stands.past_fits)
    (groups_kept script past e pool.groups (moves_fewer group_parts pool_parts e.kind refl none) stands.groups)
    (stands.tracker ∙ sym (tracked_kept script past e (moves_fewer tracked_parts pool_parts e.kind refl none)))
  where
    none : moves pool_parts e.kind ≡ false
    none = not-true (moves pool_parts e.kind) still

-- the driver runs no task of the pool
driver_apart : (script : Plan) (past : List Entry) → IsPoolPast script past → runs_pool_task past 0 ≡ false
driver_apart script past fits = by_running (running past 0) refl
  where
    by_main : (w : Running) (b : Bool) → running past 0 ≡ Some w → w.is_main ≡ b → holds_of (λ v. not v.is_main) (Some w) ≡ false
    by_main w true runs is = ap not is
    by_main w false runs is = let worker : 1 ≤ 0 = (fits.singly.runs 0 w runs is).can.worker refl in absurd (omega (arith, worker))

    by_running : (o : Option Running) → running past 0 ≡ o → holds_of (λ v. not v.is_main) o ≡ false
    by_running None runs = refl
    by_running (Some w) runs = by_main w w.is_main runs refl

-- one at which it does
pub stands_at_main : (script : Plan) (past : List Entry) (e : Entry) (pool : Pool) → moves_main e.kind ≡ true → e.seat ≡ 0
    → StandsFor script past pool → StandsFor script (past ++ e ∷ []) pool
stands_at_main script past e pool main driver stands =
    let apart : runs_pool_task past e.seat ≡ false = rw driver (driver_apart script past stands.past_fits) in
    stands_with script past pool e pool.groups pool.tracker stands (moves_apart main_parts table_parts e.kind refl main)
    (past_at_main script past e main driver stands.past_fits)
    (lines_at_main script past e (arrivals past) pool.sequences main apart stands.lines)
    (hold_same script (source_waiting script past) (source_waiting script (past ++ e ∷ [])) pool.lanes
    (λ source. source_at_main script past e source main apart) stands.queues)
    (groups_at_driver script past e pool.groups (moves_apart main_parts (Moment ∷ Scopes ∷ []) e.kind refl main) driver stands.groups)
    (stands.tracker ∙ sym (tracked_kept script past e (moves_apart main_parts tracked_parts e.kind refl main)))
    (seats_at_main script past e pool.seats.items main apart stands.seats)
