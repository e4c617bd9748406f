-- A take keeps what the pool stands for.
-- Cited by `Pool::start`, `Pool::take`.
use Rattle.pool_core.proofs.Sources.Listing.{listed_shrunk, shrinks_at}
use Rattle.task_sequence.specs.Sequences.{Held, Waiting, behind_first, given_of, sequence_at, with_sequence}
use Rattle.pool_core.proofs.Jobs.JobTables.{holders_kept, jobs_kept}
use Rattle.list_laws.proofs.Values.{some-injective}
use Rattle.pool_core.proofs.Accepted.{head_accepted, is_declared}
use Rattle.pool_core.proofs.Sources.Choosing.{best_is_job, best_is_sequence, best_offer}
use Rattle.pool_core.proofs.Delays.{unripe_kept}
use Rattle.pool_core.proofs.Sources.Following.{Tells, has_place, hold_refreshed, hold_standing, other_sequence, runner_is, sequence_made}
use Rattle.pool_core.proofs.Works.GroupGrowth.{groups_at_take}
use Rattle.pool_core.proofs.Works.GroupWorks.{with_seat}
use Rattle.pool_core.proofs.LineGrowth.{lines_at_take}
use Rattle.pool_core.proofs.Lines.{line_gives}
use Rattle.pool_core.proofs.Lists.{same_inside}
use Rattle.pool_core.proofs.Pasts.{past_at_take}
use Rattle.pool_core.proofs.Tables.{postings_kept, priorities_kept, seats_at_take}
use Rattle.pool_core.proofs.Tracking.{tracked_at_take}
use Rattle.pool_core.specs.Calls.{CanTake, IsChosen}
use Rattle.pool_core.specs.JobCalls.{IsJobChosen}
use Rattle.pool_core.specs.Choice.{IsBestOf, IsOffer}
use Rattle.pool_core.specs.Groups.{work_of}
use Rattle.pool_core.specs.Pasts.{IsDeclared}
use Rattle.pool_core.specs.Queues.{queue_of, rank_as}
use Rattle.pool_core.specs.StandsFor.{StandsFor}
use Rattle.pool_core.specs.State.{HasPlace, lane_by, refreshed, runner_of}
use Rattle.pool_core.specs.Tables.{posting_of}
use Rattle.pool_core.specs.declared.groups.Groups.{Groups}
use Rattle.pool_core.specs.declared.pool.Pool.{Pool}
use Rattle.pool_core.specs.declared.posting.Posting.{Posting}
use Rattle.pool_laws.proofs.Keys.Posts.{posts_same}
use Rattle.sequence_queue.specs.Ranked.{IsMadeFor}
use Rattle.sequence_queue.specs.declared.rank.Rank.{Rank}
use Rattle.std.proofs.Common.{Bool, List, None, Option, Some, [], ap, arith, refl, subst, sym, ℕ, ◌++◌, ◌+◌, ◌∙◌, ◌∷◌, ◌≡◌}
use Rattle.std.proofs.lemmas.List.{length-set}
use Rattle.std.proofs.lemmas.Option.{none-some}
use Rattle.std.specs.Option.{option_map}
use Rattle.std.specs.Prelude.{Contains, slice_get}
use Rattle.std.specs.Vec.{with_item}
use Rattle.task_base.specs.Plan.{Plan}
use Rattle.task_base.specs.Runners.{sequence_of}
use Rattle.task_base.specs.declared.entry.Entry.{Entry}
use Rattle.task_base.specs.declared.source.TaskSource.{TaskSource}
use Rattle.task_base.specs.declared.source.TaskSource.TheVariants.{Job, Sequence}
use Rattle.task_model.proofs.Growth.{now_of_push}
use Rattle.task_model.specs.Capacity.{priority_of}
use Rattle.task_model.specs.Cells.{cell_of}
use Rattle.task_model.specs.Posts.{posts}
use Rattle.task_model.specs.Refusal.{effective_at}
use Rattle.task_model.specs.Sources.{Candidate, best_of}
use Rattle.task_tracker.specs.Tracked.{skip_share}
use Rattle.task_traits.specs.declared.traits.Priority.{Priority}
use Rattle.task_base.specs.declared.entry.Kind.TheVariants as kinds
use Rattle.task_base.specs.Entries.{next}

-- What is chosen.

-- what a candidate is chosen as
abbrev chosen_as : Candidate → TaskSource × Rank
chosen_as c = (c.source, rank_as c)

-- what the pool chooses for a seat is a sequence
pub chosen_is : (script : Plan) (past : List Entry) (pool : Pool) (seat s : ℕ) (rank : Rank) → CanTake script past pool seat
    → IsBestOf (IsOffer pool seat) (Some (Sequence s, rank)) → IsChosen script past pool seat s
chosen_is script past pool seat s rank can best =
    by_candidate (best_of script past seat) refl (best_offer script past pool seat (Some (Sequence s, rank)) can.stands can.known best)
  where
    by_candidate : (o : Option Candidate) → best_of script past seat ≡ o
        → ◌≡◌ {A = Option (TaskSource × Rank)} (Some (Sequence s, rank)) (option_map chosen_as o)
        → IsChosen script past pool seat s
    by_candidate None is none = absurd (none-some (Sequence s, rank) (sym none))
    by_candidate (Some c) is some =
        let named : c.source ≡ Sequence s = ap (λ p. p.0) (sym (some-injective some)) in
        let known = best_is_sequence script past seat s c is named in
        record {
          can = can;
          there = known.1;
          idle = known.2;
          head = known.0;
          is_head = known.3;
          is_best = is ∙ ap (λ c. Some c) (sym known.4);
        }

-- also by its parts
pub chosen_from : {script : Plan} {past : List Entry} {pool : Pool} {seat s : ℕ} {rank : Rank} {result : Option (TaskSource × Rank)} {source : TaskSource}
    → CanTake script past pool seat → IsBestOf (IsOffer pool seat) result → ◌≡◌ {A = Option (TaskSource × Rank)} result (Some (source, rank))
    → source ≡ Sequence s → IsChosen script past pool seat s
chosen_from {script = script} {past = past} {pool = pool} {seat = seat} {s = s} {rank = rank} can best is named = chosen_is script past pool seat s rank can
    (subst (λ n. IsBestOf (IsOffer pool seat) (Some (n, rank))) named (subst (IsBestOf (IsOffer pool seat)) is best))

-- or it is a job
pub job_chosen_is : (script : Plan) (past : List Entry) (pool : Pool) (seat j : ℕ) (rank : Rank) → CanTake script past pool seat
    → IsBestOf (IsOffer pool seat) (Some (Job j, rank)) → IsJobChosen script past pool seat j
job_chosen_is script past pool seat j rank can best =
    by_candidate (best_of script past seat) refl (best_offer script past pool seat (Some (Job j, rank)) can.stands can.known best)
  where
    by_candidate : (o : Option Candidate) → best_of script past seat ≡ o → ◌≡◌ {A = Option (TaskSource × Rank)} (Some (Job j, rank)) (option_map chosen_as o)
        → IsJobChosen script past pool seat j
    by_candidate None is none = absurd (none-some (Job j, rank) (sym none))
    by_candidate (Some c) is some =
        let named : c.source ≡ Job j = ap (λ p. p.0) (sym (some-injective some)) in
        let known = best_is_job script past seat j c is named in
        record {
          can = can;
          declared = known.1;
          enters = known.2;
          post = known.0;
          is_post = known.3;
          is_best = is ∙ ap (λ c. Some c) (sym known.4);
        }

pub job_chosen_from : {script : Plan} {past : List Entry} {pool : Pool} {seat j : ℕ} {rank : Rank} {result : Option (TaskSource × Rank)} {source : TaskSource}
    → CanTake script past pool seat → IsBestOf (IsOffer pool seat) result → ◌≡◌ {A = Option (TaskSource × Rank)} result (Some (source, rank))
    → source ≡ Job j → IsJobChosen script past pool seat j
job_chosen_from {script = script} {past = past} {pool = pool} {seat = seat} {j = j} {rank = rank} can best is named =
    job_chosen_is script past pool seat j rank can
    (subst (λ n. IsBestOf (IsOffer pool seat) (Some (n, rank))) named (subst (IsBestOf (IsOffer pool seat)) is best))

-- where it chooses nothing, the seat may take nothing
pub nothing_chosen : (script : Plan) (past : List Entry) (pool : Pool) (seat : ℕ) → CanTake script past pool seat
    → IsBestOf (IsOffer pool seat) None → best_of script past seat ≡ None
nothing_chosen script past pool seat can best = by_best (best_of script past seat) (best_offer script past pool seat None can.stands can.known best)
  where
    by_best : (o : Option Candidate) → None ≡ option_map chosen_as o → o ≡ None
    by_best None is = refl
    by_best (Some c) is = absurd (none-some (chosen_as c) is)

-- What is taken.

-- the sequences without the first task of one, whose cell is out
abbrev pub taken_out : Held → ℕ → Held
taken_out held s = record held {
  sequences = with_sequence held s (record { tasks = behind_first (sequence_at held s).tasks; cell = None });
  room = held.room + 1;
}

-- behind no task there is none
nothing_behind : (tasks : List Waiting) → tasks ≡ [] → behind_first tasks ≡ []
nothing_behind tasks none = ap behind_first none

-- the groups with work of a priority that a seat has started on
abbrev pub working : Plan → Groups → ℕ → Priority → Groups
working script groups seat priority = with_seat script groups seat priority (Some (work_of None priority))

-- the head that is taken was accepted to a declared runner
pub taken_accepted : {script : Plan} {past : List Entry} {pool : Pool} {seat s : ℕ} (chosen : IsChosen script past pool seat s)
    → Contains (posts past) chosen.head.posted × IsDeclared script chosen.head.posted
    × (sequence_of script chosen.head.posted.home chosen.head.posted.task ≡ s)
taken_accepted {script = script} {past = past} {s = s} chosen =
    let accepted = head_accepted script past s chosen.head chosen.is_head in
    (accepted.0, is_declared script past chosen.head.posted chosen.can.stands.past_fits accepted.0, accepted.1)

-- it stands first, and the cell is at home
pub taken_given : {script : Plan} {past : List Entry} {pool : Pool} {seat s : ℕ} (chosen : IsChosen script past pool seat s)
    → given_of (sequence_at pool.sequences s).tasks (sequence_at pool.sequences s).cell ≡ Some (chosen.head.posted.task, cell_of script past s)
taken_given {script = script} {past = past} {pool = pool} {s = s} chosen =
    line_gives script past pool.sequences s chosen.head chosen.can.stands.past_fits chosen.can.stands.lines chosen.there chosen.is_head chosen.idle

-- how it was posted
pub taken_posting : {script : Plan} {past : List Entry} {pool : Pool} {seat s : ℕ} (chosen : IsChosen script past pool seat s)
    → slice_get pool.postings.items chosen.head.posted.task ≡ Some (Some (posting_of script chosen.head.posted))
taken_posting chosen = chosen.can.stands.postings.known chosen.head.posted (taken_accepted chosen).0

-- so this is what is given, and what is read of the task
pub taken_is : {script : Plan} {past : List Entry} {pool : Pool} {seat s : ℕ} {taken : ℕ × ℕ} (chosen : IsChosen script past pool seat s)
    → given_of (sequence_at pool.sequences s).tasks (sequence_at pool.sequences s).cell ≡ Some taken
    → taken ≡ (chosen.head.posted.task, cell_of script past s)
taken_is chosen gives = some-injective (sym gives ∙ taken_given chosen)

pub taken_posting_is : {script : Plan} {past : List Entry} {pool : Pool} {seat s : ℕ} {taken : ℕ × ℕ}
    {posting : Posting} (chosen : IsChosen script past pool seat s)
    → given_of (sequence_at pool.sequences s).tasks (sequence_at pool.sequences s).cell ≡ Some taken
    → slice_get pool.postings.items taken.0 ≡ Some (Some posting) → posting ≡ posting_of script chosen.head.posted
taken_posting_is {pool = pool} {posting = posting} chosen gives read =
    same_inside (subst (λ t. slice_get pool.postings.items t ≡ Some (Some posting)) (ap (λ t. t.0) (taken_is chosen gives)) read) (taken_posting chosen)

-- its sequence has a place, also while its cell is out
pub taken_place : {script : Plan} {past : List Entry} {pool : Pool} {seat s : ℕ} (chosen : IsChosen script past pool seat s)
    → HasPlace (record pool { sequences = taken_out pool.sequences s }) s chosen.head.posted.home
taken_place {script = script} {pool = pool} {s = s} chosen =
    let accepted = taken_accepted chosen in
    let stands = chosen.can.stands in
    subst (λ n. HasPlace (record pool { sequences = taken_out pool.sequences s }) n chosen.head.posted.home) accepted.2
    (has_place script _ chosen.head.posted.home chosen.head.posted.task stands.script_fits stands.runners stands.priorities.all
    (length-set pool.sequences.sequences s _ ∙ stands.lines.all) stands.queues.roomy accepted.1.0 accepted.1.1)

-- the present priority of its runner
pub taken_priority : {script : Plan} {past : List Entry} {pool : Pool} {seat s : ℕ} (chosen : IsChosen script past pool seat s)
    → slice_get pool.priorities.items chosen.head.posted.home ≡ Some (priority_of script past chosen.head.posted.home)
taken_priority chosen = chosen.can.stands.priorities.each chosen.head.posted.home (taken_accepted chosen).1.0

pub stands_at_take : (script : Plan) (past : List Entry) (pool : Pool) (seat s : ℕ) (chosen : IsChosen script past pool seat s)
    → StandsFor script (next past seat (kinds.Take chosen.head.posted.task chosen.head.posted.home (cell_of script past s)))
    (record (refreshed (record pool { sequences = taken_out pool.sequences s }) s chosen.head.posted.home) {
      groups = working script pool.groups seat (priority_of script past chosen.head.posted.home);
      tracker = record pool.tracker {
        skip_items = pool.tracker.skip_items + skip_share (effective_at script chosen.head.posted.home chosen.head.posted.delay);
      };
      seats = with_item pool.seats seat (Some chosen.head.posted.task);
    })
stands_at_take script past pool seat s chosen = rw stands.runners (record {
  script_fits = stands.script_fits;
  past_fits = tells.fits;
  runners = refl;
  priorities = tells.priorities_are;
  lines = tells.lines;
  queues = hold_refreshed script past e pool.priorities.items pool.postings.items pool.sequences (taken_out pool.sequences s) pool.lanes s runner
      stands.script_fits tells refl runs made (λ other another. other_sequence pool.sequences s other _ another) (hold_standing script past pool stands);
  listed = listed_shrunk script pool.postings.items pool.sequences (taken_out pool.sequences s) pool.lists stands.listed
      (shrinks_at pool.sequences s (behind_first (sequence_at pool.sequences s).tasks) None (nothing_behind (sequence_at pool.sequences s).tasks));
  representatives = stands.representatives;
  groups = groups_at_take script past pool.groups seat task runner found stands.script_fits stands.groups can.worker can.known can.free
      can.holds_nothing (stands.past_fits.scopes_of_taken task (head_accepted script past s chosen.head chosen.is_head).2);
  delayed = rw (unripe_kept past e refl) stands.delayed;
  tracker = rw (tracked_at_take script past seat s found chosen.head stands.past_fits chosen.is_head, stands.tracker) refl;
  postings = tells.postings_are;
  seats = seats_at_take script past seat task runner found pool.seats.items stands.seats can.known;
  jobs = jobs_kept script past e pool.jobs.items refl stands.jobs;
  holders = holders_kept script past e pool.holders.items refl stands.holders;
  moment = rw (now_of_push past e) stands.moment;
  room = rw (posts_same past e refl) (omega (arith, stands.room));
})
  where
    can : CanTake script past pool seat
    can = chosen.can

    stands : StandsFor script past pool
    stands = can.stands

    task : ℕ
    task = chosen.head.posted.task

    runner : ℕ
    runner = chosen.head.posted.home

    found : ℕ
    found = cell_of script past s

    e : Entry
    e = record { seat = seat; kind = kinds.Take task runner found }

    tells : Tells script (past ++ e ∷ []) pool.priorities.items pool.postings.items (taken_out pool.sequences s)
    tells = record {
      fits = past_at_take script past seat s found chosen.head stands.past_fits can.worker can.known can.holds_nothing chosen.is_head chosen.idle;
      lines = lines_at_take script past pool.sequences seat s found chosen.head stands.past_fits stands.lines can.known can.free chosen.there
          chosen.is_head;
      postings_are = postings_kept script past e pool.postings.items refl stands.postings;
      priorities_are = priorities_kept script past e pool.priorities.items refl stands.priorities;
    }

    made : (best : Bool) → IsMadeFor (queue_of pool.lanes (lane_by script runner) best) (Sequence s)
    made =
        let accepted = taken_accepted chosen in
        subst (λ n. (best : Bool) → IsMadeFor (queue_of pool.lanes (lane_by script runner) best) (Sequence n)) accepted.2
        (sequence_made script pool.lanes runner task stands.script_fits stands.queues.roomy accepted.1.0 accepted.1.1)

    runs : runner_of script pool.postings.items s ≡ Some runner
    runs =
        let accepted = taken_accepted chosen in
        subst (λ n. runner_of script pool.postings.items n ≡ Some runner) accepted.2
        (runner_is script pool.postings.items task (posting_of script chosen.head.posted) accepted.1.0 (taken_posting chosen))
