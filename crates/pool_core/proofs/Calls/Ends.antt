-- The end of a task keeps what the pool stands for.
-- Cited by `Pool::end`.
use Rattle.pool_core.proofs.Jobs.JobTables.{holders_kept, jobs_kept}
use Rattle.pool_core.proofs.Works.AtSeat.{IsAtSeat}
use Rattle.pool_core.proofs.Delays.{unripe_kept}
use Rattle.pool_core.proofs.Sources.Following.{Tells, hold_refreshed, hold_standing, other_sequence, runner_is, sequence_made}
use Rattle.pool_core.proofs.Sources.Listing.{listed_shrunk, shrinks_at}
use Rattle.pool_core.proofs.Works.GroupGrowth.{groups_at_end}
use Rattle.pool_core.proofs.LineGrowth.{lines_at_end}
use Rattle.pool_core.proofs.Pasts.{past_at_end}
use Rattle.pool_core.proofs.Tables.{postings_kept, priorities_kept, seats_at_end}
use Rattle.pool_core.proofs.Tracking.{tracked_at_end}
use Rattle.pool_core.specs.Calls.{after_end}
use Rattle.pool_core.specs.Groups.{group_at, with_group_at}
use Rattle.pool_core.specs.StandsFor.{StandsFor}
use Rattle.pool_core.specs.State.{refreshed, runner_of}
use Rattle.pool_core.specs.Tables.{posting_of}
use Rattle.pool_core.specs.declared.pool.Pool.{Pool}
use Rattle.pool_laws.proofs.Keys.Posts.{posts_same}
use Rattle.std.proofs.Common.{List, None, Some, [], refl, subst, ℕ, ◌++◌, ◌-◌, ◌∷◌, ◌≡◌}
use Rattle.std.specs.Vec.{with_item}
use Rattle.task_base.specs.Plan.{Plan}
use Rattle.task_base.specs.Runners.{sequence_of}
use Rattle.task_base.specs.declared.entry.Entry.{Entry}
use Rattle.task_model.proofs.Growth.{now_of_push}
use Rattle.task_model.specs.Refusal.{effective_at}
use Rattle.task_model.specs.Seats.{Running}
use Rattle.task_sequence.specs.Sequences.{Held, sequence_at, with_sequence}
use Rattle.task_tracker.specs.Tracked.{block_share, skip_share}
use Rattle.thread_group.specs.Group.{with_work}
use Rattle.task_base.specs.declared.entry.Kind.TheVariants as kinds

-- the sequences with the cell of one brought home
abbrev pub brought_home : Held → ℕ → ℕ → Held
brought_home held s value = record held { sequences = with_sequence held s (record (sequence_at held s) { cell = Some value }) }

pub stands_at_end : {script : Plan} {past : List Entry} {pool : Pool} {seat : ℕ} {w : Running} (left : ℕ) (at : IsAtSeat script past pool seat w)
    → StandsFor script (after_end past seat w.task left)
    (refreshed (record pool {
      groups = with_group_at pool.groups seat (with_work (group_at pool.groups seat) seat None);
      tracker = record pool.tracker {
        block_items = pool.tracker.block_items - block_share (effective_at script at.post.home at.post.delay);
        skip_items = pool.tracker.skip_items - skip_share (effective_at script at.post.home at.post.delay);
      };
      seats = with_item pool.seats seat None;
      sequences = brought_home pool.sequences (sequence_of script w.home w.task) left;
    }) (sequence_of script w.home w.task) w.home)
stands_at_end {script = script} {past = past} {pool = pool} {seat = seat} {w = w} left at = rw stands.runners (record {
  script_fits = stands.script_fits;
  past_fits = tells.fits;
  runners = refl;
  priorities = tells.priorities_are;
  lines = tells.lines;
  queues = hold_refreshed script past e pool.priorities.items pool.postings.items pool.sequences (brought_home pool.sequences s left) pool.lanes s w.home
      stands.script_fits tells refl runs
      (sequence_made script pool.lanes w.home w.task stands.script_fits stands.queues.roomy at.runner_declared at.task_declared)
      (λ other another. other_sequence pool.sequences s other _ another) (hold_standing script past pool stands);
  listed = listed_shrunk script pool.postings.items pool.sequences (brought_home pool.sequences s left) pool.lists stands.listed
      (shrinks_at pool.sequences s (sequence_at pool.sequences s).tasks (Some left) (λ none. none));
  representatives = stands.representatives;
  groups = groups_at_end script past pool.groups seat left w stands.script_fits stands.past_fits stands.groups at.runs at.is_pool;
  delayed = rw (unripe_kept past e refl) stands.delayed;
  tracker = rw (tracked_at_end script past seat left w at.post stands.past_fits at.runs at.is_pool at.accepted, stands.tracker) refl;
  postings = tells.postings_are;
  seats = seats_at_end script past seat w.task left pool.seats.items stands.seats at.known;
  jobs = jobs_kept script past e pool.jobs.items refl stands.jobs;
  holders = holders_kept script past e pool.holders.items refl stands.holders;
  moment = rw (now_of_push past e) stands.moment;
  room = rw (posts_same past e refl) stands.room;
})
  where
    stands : StandsFor script past pool
    stands = at.stands

    s : ℕ
    s = sequence_of script w.home w.task

    e : Entry
    e = record { seat = seat; kind = kinds.End w.task left }

    tells : Tells script (past ++ e ∷ []) pool.priorities.items pool.postings.items (brought_home pool.sequences s left)
    tells = record {
      fits = past_at_end script past seat left w stands.past_fits at.runs at.is_pool;
      lines = lines_at_end script past pool.sequences seat left w stands.past_fits stands.lines at.runs at.is_pool;
      postings_are = postings_kept script past e pool.postings.items refl stands.postings;
      priorities_are = priorities_kept script past e pool.priorities.items refl stands.priorities;
    }

    runs : runner_of script pool.postings.items s ≡ Some w.home
    runs = subst (λ r. runner_of script pool.postings.items (sequence_of script r w.task) ≡ Some r) at.home_is
        (runner_is script pool.postings.items w.task (posting_of script at.post) (rw at.home_is at.runner_declared) at.posting)
