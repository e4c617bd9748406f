-- The task of the pool that a seat runs: how it was posted, its sequence, what it counts for, and what its group keeps of it.
-- Cited by `Pool::end`, `Pool::enter`, `Pool::leave`, `Calls/Ends`, `live_core`.
use Rattle.pool_core.proofs.Accepted.{is_declared, runs_accepted}
use Rattle.pool_core.proofs.Works.GroupWorks.{seat_there, task_of_pool, works_here}
use Rattle.pool_core.proofs.Lines.{out_while_running}
use Rattle.pool_core.proofs.Lists.{same_inside}
use Rattle.pool_core.proofs.Tables.{seat_is}
use Rattle.pool_core.proofs.Tracking.{counts_at_end}
use Rattle.pool_core.specs.Calls.{RunsClosed, RunsOpen}
use Rattle.pool_core.specs.Groups.{group_at, opened_as, work_of}
use Rattle.pool_core.specs.StandsFor.{StandsFor}
use Rattle.pool_core.specs.Tables.{posting_of}
use Rattle.pool_core.specs.declared.pool.Pool.{Pool}
use Rattle.pool_core.specs.declared.posting.Posting.{Posting}
use Rattle.std.proofs.Common.{List, None, Some, ap, arith, false, length, refl, subst, sym, ℕ, ◌<◌, ◌∙◌, ◌≡◌, ◌≤◌}
use Rattle.std.specs.Option.{option_map}
use Rattle.std.specs.Prelude.{IsSome, IsSomeAnd, slice_get}
use Rattle.task_base.specs.Plan.{Plan}
use Rattle.task_base.specs.Runners.{sequence_of}
use Rattle.task_base.specs.declared.entry.Entry.{Entry}
use Rattle.task_base.specs.declared.limits.TheConstants.{MOST_WORKERS}
use Rattle.task_model.specs.Capacity.{OpenScope, open_scope}
use Rattle.task_traits.specs.declared.traits.Priority.{Priority}
use Rattle.pool_laws.specs.Keys.{arrivals}
use Rattle.task_model.specs.Posts.{Posted}
use Rattle.pool_laws.specs.Posts.{post_of}
use Rattle.task_model.specs.Seats.{Running, running}
use Rattle.task_sequence.specs.Sequences.{sequence_at}
use Rattle.task_tracker.specs.Tracked.{block_share, skip_share}
use Rattle.thread_group.specs.Group.{work_at}

-- the seat, which is a worker's, runs this task of the pool, which was posted in this way; its runner and itself are declared
pub record IsAtSeat (script : Plan) (past : List Entry) (pool : Pool) (seat : ℕ) (w : Running) : Type 0 where
  pub stands : StandsFor script past pool
  pub runs : running past seat ≡ Some w
  pub is_pool : w.is_main ≡ false
  pub worker : 1 ≤ seat
  pub known : seat ≤ script.workers
  pub post : Posted
  pub accepted : post_of past w.task ≡ Some post
  pub posting : slice_get pool.postings.items w.task ≡ Some (Some (posting_of script post))
  pub home_is : post.home ≡ w.home
  pub runner_declared : w.home < length script.runners
  pub task_declared : w.task < length script.tasks

at_seat : (script : Plan) (past : List Entry) (pool : Pool) (seat : ℕ) (w : Running) → StandsFor script past pool → running past seat ≡ Some w
    → w.is_main ≡ false → IsAtSeat script past pool seat w
at_seat script past pool seat w stands runs is_pool =
    let at = (stands.past_fits.singly.runs seat w runs is_pool).can in
    let accepted = runs_accepted script past seat w stands.past_fits runs is_pool in
    let declared = is_declared script past accepted.0 stands.past_fits accepted.4 in
    record {
      stands = stands;
      runs = runs;
      is_pool = is_pool;
      worker = at.worker refl;
      known = at.known;
      post = accepted.0;
      accepted = accepted.1;
      posting = ap (slice_get pool.postings.items) (sym accepted.3) ∙ stands.postings.known accepted.0 accepted.4;
      home_is = accepted.2;
      runner_declared = subst (λ r. r < length script.runners) accepted.2 declared.0;
      task_declared = subst (λ t. t < length script.tasks) accepted.3 declared.1;
    }

-- with no scope open, and with one
pub closed_at : {script : Plan} {past : List Entry} {pool : Pool} {seat : ℕ} {w : Running} → RunsClosed script past pool seat w
    → IsAtSeat script past pool seat w
closed_at {script = script} {past = past} {pool = pool} {seat = seat} {w = w} can = at_seat script past pool seat w can.stands can.runs can.is_pool

pub open_at : {script : Plan} {past : List Entry} {pool : Pool} {seat : ℕ} {w : Running} {opened : OpenScope} → RunsOpen script past pool seat w opened
    → IsAtSeat script past pool seat w
open_at {script = script} {past = past} {pool = pool} {seat = seat} {w = w} can = at_seat script past pool seat w can.stands can.runs can.is_pool

pub seat_fits : {script : Plan} {past : List Entry} {pool : Pool} {seat : ℕ} {w : Running} → IsAtSeat script past pool seat w → seat ≤ MOST_WORKERS
seat_fits at = omega (arith, at.known, at.stands.script_fits.workers_fit)

-- What the pool's tables say of it.

its_place : {script : Plan} {past : List Entry} {pool : Pool} {seat : ℕ} {w : Running} → IsAtSeat script past pool seat w
    → slice_get pool.seats.items seat ≡ Some (Some w.task)
its_place {script = script} {past = past} {pool = pool} {seat = seat} {w = w} at =
    seat_is script past seat w pool.seats.items at.stands.past_fits at.stands.seats at.runs at.is_pool

-- its number
pub task_there : {script : Plan} {past : List Entry} {pool : Pool} {seat : ℕ} {w : Running} → IsAtSeat script past pool seat w
    → (task : ℕ) × (slice_get pool.seats.items seat ≡ Some (Some task))
task_there {w = w} at = (w.task, its_place at)

pub task_is : {script : Plan} {past : List Entry} {pool : Pool} {seat task : ℕ} {w : Running} → IsAtSeat script past pool seat w
    → slice_get pool.seats.items seat ≡ Some (Some task) → task ≡ w.task
task_is at found = same_inside found (its_place at)

-- how it was posted
its_posting : {script : Plan} {past : List Entry} {pool : Pool} {seat task : ℕ} {w : Running} (at : IsAtSeat script past pool seat w)
    → slice_get pool.seats.items seat ≡ Some (Some task) → slice_get pool.postings.items task ≡ Some (Some (posting_of script at.post))
its_posting {pool = pool} at found = ap (slice_get pool.postings.items) (task_is at found) ∙ at.posting

pub posting_there : {script : Plan} {past : List Entry} {pool : Pool} {seat task : ℕ} {w : Running} → IsAtSeat script past pool seat w
    → slice_get pool.seats.items seat ≡ Some (Some task) → (posting : Posting) × (slice_get pool.postings.items task ≡ Some (Some posting))
posting_there {script = script} at found = (posting_of script at.post, its_posting at found)

pub posting_is : {script : Plan} {past : List Entry} {pool : Pool} {seat task : ℕ} {w : Running} {posting : Posting} (at : IsAtSeat script past pool seat w)
    → slice_get pool.seats.items seat ≡ Some (Some task) → slice_get pool.postings.items task ≡ Some (Some posting)
    → posting ≡ posting_of script at.post
posting_is at found read = same_inside read (its_posting at found)

-- its runner, which is declared
pub runner_is_home : {script : Plan} {past : List Entry} {pool : Pool} {seat task : ℕ} {w : Running} {posting : Posting} → IsAtSeat script past pool seat w
    → slice_get pool.seats.items seat ≡ Some (Some task) → slice_get pool.postings.items task ≡ Some (Some posting) → posting.runner ≡ w.home
runner_is_home at found read = ap (λ (p : Posting). p.runner) (posting_is at found read) ∙ at.home_is

pub runner_there : {script : Plan} {past : List Entry} {pool : Pool} {seat task : ℕ} {w : Running} {posting : Posting} → IsAtSeat script past pool seat w
    → slice_get pool.seats.items seat ≡ Some (Some task) → slice_get pool.postings.items task ≡ Some (Some posting)
    → posting.runner < length pool.runners.runners
runner_there at found read = rw (at.stands.runners, runner_is_home at found read) at.runner_declared

-- its sequence, whose cell is out
pub sequence_is : {script : Plan} {past : List Entry} {pool : Pool} {seat task : ℕ} {w : Running} {posting : Posting} → IsAtSeat script past pool seat w
    → slice_get pool.seats.items seat ≡ Some (Some task) → slice_get pool.postings.items task ≡ Some (Some posting)
    → sequence_of pool.runners posting.runner task ≡ sequence_of script w.home w.task
sequence_is at found read = rw (at.stands.runners, runner_is_home at found read, task_is at found) refl

pub cell_is_out : {script : Plan} {past : List Entry} {pool : Pool} {seat : ℕ} {w : Running} → IsAtSeat script past pool seat w
    → (sequence_at pool.sequences (sequence_of script w.home w.task)).cell ≡ None
cell_is_out {script = script} {past = past} {pool = pool} {seat = seat} {w = w} at =
    out_while_running script past (arrivals past) pool.sequences seat w at.stands.past_fits at.stands.lines at.runs at.is_pool

-- what it counts for
pub its_counts : {script : Plan} {past : List Entry} {pool : Pool} {seat task : ℕ} {w : Running} {posting : Posting} → IsAtSeat script past pool seat w
    → slice_get pool.seats.items seat ≡ Some (Some task) → slice_get pool.postings.items task ≡ Some (Some posting)
    → (block_share posting.effective ≤ pool.tracker.block_items) × (skip_share posting.effective ≤ pool.tracker.skip_items)
its_counts {script = script} {past = past} {seat = seat} {w = w} at found read = rw (posting_is at found read, at.stands.tracker)
    (counts_at_end script past seat w at.post at.stands.past_fits at.runs at.is_pool at.accepted)

-- its work, as its group keeps it: no scope is open in it, and one is
its_work : {script : Plan} {past : List Entry} {pool : Pool} {seat : ℕ} {w : Running} → IsAtSeat script past pool seat w
    → (priority : Priority) × (work_at (group_at pool.groups seat) seat ≡ Some (work_of (option_map opened_as (open_scope past w.task)) priority))
its_work {script = script} {past = past} {pool = pool} {seat = seat} {w = w} at =
    let does = task_of_pool script past seat w at.stands.past_fits at.runs at.is_pool in
    (does.0, works_here script past pool.groups seat _ at.stands.groups (seat_there script seat at.stands.script_fits at.known) does.2)

pub closed_work : {script : Plan} {past : List Entry} {pool : Pool} {seat : ℕ} {w : Running} → RunsClosed script past pool seat w
    → IsSomeAnd (work_at (group_at pool.groups seat) seat) (λ work. work.scope ≡ None)
closed_work can = rw ((its_work (closed_at can)).1, can.closed) refl

pub open_work : {script : Plan} {past : List Entry} {pool : Pool} {seat : ℕ} {w : Running} {opened : OpenScope} → RunsOpen script past pool seat w opened
    → IsSomeAnd (work_at (group_at pool.groups seat) seat) (λ work. IsSome work.scope)
open_work can = rw ((its_work (open_at can)).1, can.opens) refl
