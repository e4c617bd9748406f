-- The pool at an entry that leaves the tasks where they are.
-- Cited by `Calls/Others`, `Calls/Posts`, `Calls/Scopes`, `Calls/Shutdown`.
use Rattle.pool_core.proofs.Delays.{unripe_kept}
use Rattle.pool_core.proofs.LineGrowth.{lines_kept}
use Rattle.pool_core.proofs.Sources.Queues.{hold_same}
use Rattle.pool_core.proofs.Tables.{postings_kept, priorities_kept, seats_kept}
use Rattle.pool_core.specs.Groups.{AreGroups}
use Rattle.pool_core.specs.Lines.{AreLines}
use Rattle.pool_core.specs.Pasts.{IsPoolPast}
use Rattle.pool_core.specs.Queues.{HoldWaiting}
use Rattle.pool_core.specs.StandsFor.{StandsFor}
use Rattle.pool_core.specs.Tables.{AreSeats, tracked}
use Rattle.pool_core.specs.declared.groups.Groups.{Groups}
use Rattle.pool_core.specs.declared.pool.Pool.{Pool}
use Rattle.pool_laws.proofs.Keys.Arrivals.{arrivals_same}
use Rattle.pool_laws.proofs.Keys.Posts.{posts_same}
use Rattle.pool_laws.specs.Choice.{moves_sources, source_waiting, source_parts}
use Rattle.pool_laws.specs.Keys.{moves_ready, ready_parts, moves_posts, arrivals}
use Rattle.pool_laws.specs.Seats.{main_parts, running_parts}
use Rattle.std.proofs.Common.{List, [], false, refl, sym, ◌++◌, ◌∙◌, ◌∷◌, ◌≡◌}
use Rattle.task_base.specs.Plan.{Plan}
use Rattle.task_base.specs.declared.entry.Entry.{Entry}
use Rattle.task_model.proofs.Growth.{now_of_push}
use Rattle.task_model.specs.Time.{now_of}
use Rattle.task_tracker.specs.Tracked.{Tracked}
use Rattle.pool_core.proofs.Jobs.JobTables.{holders_kept, jobs_kept}
use Rattle.pool_laws.proofs.Choice.Candidates.{source_same}
use Rattle.pool_laws.specs.Shutdown.{open_job_parts}
use Rattle.pool_laws.specs.Moves.{Posts, Priorities, Items, moves}
use Rattle.pool_laws.proofs.Moves.{moves_fewer, same_moment}
use Rattle.pool_core.specs.Others.{line_parts, table_parts}

-- the pool at an entry that leaves its tables, with what the entry may change
pub stands_with : (script : Plan) (past : List Entry) (pool : Pool) (e : Entry) (groups : Groups) (tracker : Tracked) → StandsFor script past pool
    → moves table_parts e.kind ≡ false → IsPoolPast script (past ++ e ∷ []) → AreLines script (past ++ e ∷ []) (arrivals past) pool.sequences
    → HoldWaiting script (past ++ e ∷ []) pool.lanes → AreGroups script (past ++ e ∷ []) groups → tracker ≡ tracked script (past ++ e ∷ [])
    → AreSeats script (past ++ e ∷ []) pool.seats.items
    → StandsFor script (past ++ e ∷ []) (record pool { groups = groups; tracker = tracker })
stands_with script past pool e groups tracker stands leaves fits lines hold are is seats = record {
  script_fits = stands.script_fits;
  past_fits = fits;
  runners = stands.runners;
  priorities = priorities_kept script past e pool.priorities.items (moves_fewer (Priorities ∷ []) table_parts e.kind refl leaves) stands.priorities;
  lines = rw (arrivals_same past e ready) lines;
  queues = hold;
  listed = stands.listed;
  representatives = stands.representatives;
  groups = are;
  delayed = rw (unripe_kept past e ready) stands.delayed;
  tracker = is;
  postings = postings_kept script past e pool.postings.items no_post stands.postings;
  seats = seats;
  jobs = jobs_kept script past e pool.jobs.items (moves_fewer open_job_parts table_parts e.kind refl leaves) stands.jobs;
  holders = holders_kept script past e pool.holders.items (moves_fewer (Items ∷ []) table_parts e.kind refl leaves) stands.holders;
  moment = stands.moment ∙ sym (same_moment table_parts e.kind refl leaves (now_of past)) ∙ sym (now_of_push past e);
  room = rw (posts_same past e no_post) stands.room;
}
  where
    ready : moves_ready e.kind ≡ false
    ready = moves_fewer ready_parts table_parts e.kind refl leaves

    no_post : moves_posts e.kind ≡ false
    no_post = moves_fewer (Posts ∷ []) table_parts e.kind refl leaves

-- and at one that changes nothing by which a source waits
pub stands_kept : (script : Plan) (past : List Entry) (pool : Pool) (e : Entry) (groups : Groups) (tracker : Tracked) → StandsFor script past pool
    → moves_sources e.kind ≡ false → IsPoolPast script (past ++ e ∷ []) → AreGroups script (past ++ e ∷ []) groups
    → tracker ≡ tracked script (past ++ e ∷ []) → StandsFor script (past ++ e ∷ []) (record pool { groups = groups; tracker = tracker })
stands_kept script past pool e groups tracker stands still fits are is =
    stands_with script past pool e groups tracker stands (moves_fewer table_parts source_parts e.kind refl still) fits
    (lines_kept script past e (arrivals past) pool.sequences (moves_fewer (main_parts ++ line_parts) source_parts e.kind refl still) stands.lines)
    (hold_same script (source_waiting script past) (source_waiting script (past ++ e ∷ [])) pool.lanes (λ source. source_same script past e source still)
    stands.queues) are is
    (seats_kept script past e pool.seats.items (moves_fewer running_parts source_parts e.kind refl still) stands.seats)
