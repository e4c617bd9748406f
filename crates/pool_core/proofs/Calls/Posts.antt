-- A post keeps what the pool stands for.
-- Cited by `Pool::post`.
use Rattle.pool_core.proofs.Sources.Listing.{listed_arrived, listed_posted}
use Rattle.pool_core.proofs.Jobs.JobTables.{holders_kept, jobs_kept}
use Rattle.pool_core.proofs.Jobs.JobQueues.{jobs_wait}
use Rattle.list_laws.proofs.Places.{slice_get-set_same}
use Rattle.list_laws.proofs.Rises.{length-insert_by}
use Rattle.delayed_manager.specs.Delayed.{ripens_before, with_held}
use Rattle.list_laws.proofs.Values.{some-injective}
use Rattle.list_laws.specs.Sorts.{Rises, insert_by}
use Rattle.pool_core.proofs.Accepted.{new_is_not_taken, posts_leave_room}
use Rattle.pool_core.proofs.Delays.{unripe_at_delayed_post, unripe_at_post}
use Rattle.pool_core.proofs.Sources.Following.{Tells, has_place, hold_from, hold_refreshed, hold_standing, other_sequence}
use Rattle.pool_core.proofs.Sources.Following.{runner_is, sequence_made, standing_at_post}
use Rattle.pool_core.proofs.Works.GroupGrowth.{groups_kept}
use Rattle.pool_core.proofs.Calls.Kept.{stands_kept}
use Rattle.pool_core.proofs.LineGrowth.{lines_kept}
use Rattle.pool_core.proofs.Lines.{line_below, lines_at_arrival, sequence_there}
use Rattle.pool_core.proofs.Pasts.{past_at_post}
use Rattle.pool_core.proofs.Sources.Queues.{hold_same}
use Rattle.pool_core.proofs.Tables.{postings_at_post, priorities_kept, seats_kept}
use Rattle.pool_core.proofs.Tracking.{tracked_at_post, tracked_at_refusal}
use Rattle.pool_core.specs.Calls.{CanPost, after_post}
use Rattle.pool_core.specs.Lines.{AreLines, waiting_of}
use Rattle.pool_core.specs.Queues.{HoldBy}
use Rattle.pool_core.specs.StandsFor.{StandsFor}
use Rattle.pool_core.specs.State.{CanArrive, arrived, pushed, runner_of, standing}
use Rattle.pool_core.specs.declared.pool.Pool.{Pool}
use Rattle.pool_core.specs.declared.posting.Posting.{Posting}
use Rattle.pool_laws.proofs.Keys.Arrivals.{arrivals_at_delayed_post, arrivals_at_post, arrivals_rise}
use Rattle.pool_laws.specs.Keys.{ready_below, arrivals, ready_behind}
use Rattle.std.proofs.Common.{List, None, Option, Some, [], arith, false, length, length-append, refl, subst, sym, true, ℕ, ◌++◌, ◌+◌, ◌<◌, ◌∙◌, ◌∷◌, ◌≡◌}
use Rattle.std.proofs.lemmas.Option.{none-some}
use Rattle.std.specs.Option.{option_map, option_map_or}
use Rattle.std.specs.Prelude.{All, nat_lt, slice_get, slice_set}
use Rattle.std.specs.Vec.{with_item}
use Rattle.task_base.specs.Keys.{key_below}
use Rattle.task_base.specs.Plan.{Plan}
use Rattle.task_base.specs.Runners.{sequence_count, sequence_of}
use Rattle.task_base.specs.declared.entry.Entry.{Entry}
use Rattle.task_base.specs.declared.script.Runner.{Runner}
use Rattle.task_model.proofs.Growth.{is_taken_push, now_of_push, phase_of_push, posts_push}
use Rattle.task_model.specs.Keys.{Ready, key_at}
use Rattle.task_model.specs.Posts.{posted_by, posts}
use Rattle.task_model.specs.Refusal.{effective_at, is_refused}
use Rattle.task_model.specs.Sequences.{may_start}
use Rattle.task_runners.specs.Table.{table_of}
use Rattle.task_sequence.specs.Sequences.{Held, Waiting, sequence_at}
use Rattle.task_tracker.specs.Tracked.{Tracked, block_share}
use Rattle.task_traits.specs.Behaviour.{effective_of}
use Rattle.task_traits.specs.declared.traits.Behaviour.TheVariants.{ContinueOnShutdown}
use Rattle.task_traits.specs.declared.traits.Traits.{Traits}
use Rattle.task_base.specs.declared.entry.Kind.TheVariants as kinds

pub stands_at_refusal : (script : Plan) (past : List Entry) (pool : Pool) (seat place task runner delay : ℕ) → CanPost script past pool place task runner delay
    → StandsFor script (after_post past seat task runner delay false) pool
stands_at_refusal script past pool seat place task runner delay can =
    let e : Entry = record { seat = seat; kind = kinds.Post task runner delay false } in
    stands_kept script past pool e pool.groups pool.tracker can.stands refl
    (past_at_post script past seat task runner delay false can.stands.past_fits can.runner_declared can.task_declared can.is_new)
    (groups_kept script past e pool.groups refl can.stands.groups)
    (can.stands.tracker ∙ sym (tracked_at_refusal script past seat task runner delay))

-- the behaviour in effect by what the table of runners says
pub effective_as : (script : Plan) (pool : Pool) (runner delay : ℕ) (traits : Traits) → pool.runners ≡ table_of script.runners script.background
    → option_map (λ r. r.traits) (slice_get pool.runners.runners runner) ≡ Some traits
    → effective_of traits.behaviour (nat_lt 0 delay) ≡ effective_at script runner delay
effective_as script pool runner delay traits runners is =
    by_runner (slice_get script.runners runner) (subst (λ table. option_map (λ r. r.traits) (slice_get table.runners runner) ≡ Some traits) runners is)
  where
    by_runner : (o : Option Runner) → option_map (λ r. r.traits) o ≡ Some traits → effective_of traits.behaviour (nat_lt 0 delay)
        ≡ effective_of (option_map_or (λ r. r.traits.behaviour) o ContinueOnShutdown) (nat_lt 0 delay)
    by_runner None none = absurd (none-some traits none)
    by_runner (Some r) some = rw (some-injective some) refl

-- the tracker and the table of tasks behind an accepted post
abbrev pub counted_for : Plan → Pool → ℕ → ℕ → Tracked
counted_for script pool runner delay = record pool.tracker { block_items = pool.tracker.block_items + block_share (effective_at script runner delay) }

abbrev pub posted_as : Plan → ℕ → ℕ → Posting
posted_as script runner delay = record { runner = runner; effective = effective_at script runner delay }

-- the new task is known, and goes to the end of its sequence where it isn't delayed
pub can_arrive : (script : Plan) (past : List Entry) (pool : Pool) (place task runner delay : ℕ) (tracker : Tracked)
    → CanPost script past pool place task runner delay → nat_lt 0 delay ≡ false
    → CanArrive (record pool { tracker = tracker; postings = with_item pool.postings task (Some (posted_as script runner delay)) }) task
    (posted_as script runner delay) (record { place = place; ripe = 0; post = place })
can_arrive script past pool place task runner delay tracker can now =
    let s : StandsFor script past pool = can.stands in
    let there : sequence_of script runner task < sequence_count script = sequence_there script runner task can.runner_declared can.task_declared in
    let few : length (posts past) < length script.tasks = posts_leave_room script past task s.past_fits can.task_declared can.is_new in
    let e : Entry = record { seat = 0; kind = kinds.Post task runner delay true } in
    let rises : Rises ready_below (arrivals past ++ ready_behind past task runner delay ∷ []) =
    subst (Rises ready_below) (arrivals_at_post past e task runner delay refl now) (arrivals_rise (past ++ e ∷ [])) in
    let below : All (λ w. key_below w.key (key_at (length past)) ≡ true) (sequence_at pool.sequences (sequence_of script runner task)).tasks =
    line_below script past (arrivals past) pool.sequences (ready_behind past task runner delay) (sequence_of script runner task) s.lines rises there in
    rw (can.place_is, s.runners) (record {
      fits = omega (arith, s.script_fits.runners_fit, s.script_fits.tasks_fit, can.task_declared);
      place = has_place script _ runner task s.script_fits refl s.priorities.all s.lines.all s.queues.roomy can.runner_declared can.task_declared;
      room = omega (arith, few, s.room);
      line = omega (arith, can.runner_declared, s.listed.lines);
      known = omega (arith, can.task_declared, s.listed.tasks);
      above = below;
    })

-- one more task is accepted
one_more : (past : List Entry) (seat task runner delay : ℕ) → length (posts (after_post past seat task runner delay true)) ≡ length (posts past) + 1
one_more past seat task runner delay = rw (posts_push past (record { seat = seat; kind = kinds.Post task runner delay true }))
    (length-append (posts past) (posted_by past (kinds.Post task runner delay true)))

-- what waits leaves the new task out
hold_posted : {script : Plan} {past : List Entry} {pool : Pool} {place task runner : ℕ} (delay : ℕ) → CanPost script past pool place task runner delay
    → HoldBy script (standing script past pool.priorities.items (slice_set pool.postings.items task (Some (posted_as script runner delay))) pool.sequences)
    pool.lanes
hold_posted {script = script} {past = past} {pool = pool} {task = task} {runner = runner} delay can = hold_same script
    (standing script past pool.priorities.items pool.postings.items pool.sequences)
    (standing script past pool.priorities.items (slice_set pool.postings.items task (Some (posted_as script runner delay))) pool.sequences) pool.lanes
    (λ source. standing_at_post script past pool.priorities.items pool.postings.items pool.sequences task (posted_as script runner delay) source
    (record { fits = s.past_fits; lines = s.lines; postings_are = s.postings; priorities_are = s.priorities }) can.task_declared can.is_new)
    (hold_standing script past pool s)
  where
    s : StandsFor script past pool
    s = can.stands

-- with its lists, the pool tells of the past with the post
told : {script : Plan} {past : List Entry} {pool : Pool} {place task runner : ℕ} (seat delay : ℕ) (held : Held)
    → CanPost script past pool place task runner delay
    → AreLines script (after_post past seat task runner delay true) (arrivals (after_post past seat task runner delay true)) held
    → Tells script (after_post past seat task runner delay true) pool.priorities.items
    (slice_set pool.postings.items task (Some (posted_as script runner delay))) held
told {script = script} {past = past} {pool = pool} {task = task} {runner = runner} seat delay held can lines = let s = can.stands in record {
  fits = past_at_post script past seat task runner delay true s.past_fits can.runner_declared can.task_declared can.is_new;
  lines = lines;
  postings_are = postings_at_post script past seat task runner delay pool.postings.items s.postings s.past_fits can.task_declared can.is_new;
  priorities_are = priorities_kept script past _ pool.priorities.items refl s.priorities;
}

-- a delayed task waits for its ripe moment
pub stands_at_delayed_post : (script : Plan) (past : List Entry) (pool : Pool) (seat place task runner delay : ℕ)
    → CanPost script past pool place task runner delay → nat_lt 0 delay ≡ true
    → StandsFor script (after_post past seat task runner delay true) (record pool {
      delayed = with_held pool.delayed (insert_by ripens_before (record { ripe = pool.moment + delay; post = place; task = task }) pool.delayed.held);
      tracker = counted_for script pool runner delay;
      postings = with_item pool.postings task (Some (posted_as script runner delay));
    })
stands_at_delayed_post script past pool seat place task runner delay can later =
    let s : StandsFor script past pool = can.stands in
    let tells = told seat delay pool.sequences can (rw (arrivals_at_delayed_post past e task runner delay refl later)
    (lines_kept script past e (arrivals past) pool.sequences refl s.lines)) in
    record {
      script_fits = s.script_fits;
      past_fits = tells.fits;
      runners = s.runners;
      priorities = tells.priorities_are;
      lines = tells.lines;
      queues = hold_from script past (past ++ e ∷ []) pool.priorities.items (slice_set pool.postings.items task (Some (posted_as script runner delay)))
          pool.sequences pool.lanes tells (λ j. jobs_wait script past e j refl) (hold_posted delay can);
      listed = listed_posted script pool.postings.items pool.sequences pool.lists task (posted_as script runner delay)
          (s.postings.unknown task can.task_declared can.is_new) s.listed;
      representatives = s.representatives;
      groups = groups_kept script past e pool.groups refl s.groups;
      delayed = rw (unripe_at_delayed_post past seat task runner delay later s.past_fits.no_tick_ahead, s.delayed, s.moment, can.place_is) refl;
      tracker = rw (tracked_at_post script past seat task runner delay s.past_fits can.is_new, s.tracker) refl;
      postings = tells.postings_are;
      seats = seats_kept script past e pool.seats.items refl s.seats;
      jobs = jobs_kept script past e pool.jobs.items refl s.jobs;
      holders = holders_kept script past e pool.holders.items refl s.holders;
      moment = rw (now_of_push past e) s.moment;
      room = rw (
        one_more past seat task runner delay,
        length-insert_by ripens_before (record { ripe = pool.moment + delay; post = place; task = task }) pool.delayed.held,
      ) (omega (arith, s.room));
    }
  where
    e : Entry
    e = record { seat = seat; kind = kinds.Post task runner delay true }

-- an immediate task goes to the end of its sequence
pub stands_at_post : (script : Plan) (past : List Entry) (pool : Pool) (seat place task runner delay : ℕ)
    → CanPost script past pool place task runner delay → nat_lt 0 delay ≡ false → is_refused script past runner delay ≡ false
    → StandsFor script (after_post past seat task runner delay true) (arrived (record pool {
      tracker = counted_for script pool runner delay;
      postings = with_item pool.postings task (Some (posted_as script runner delay));
    }) task (posted_as script runner delay) (record { place = place; ripe = 0; post = place }))
stands_at_post script past pool seat place task runner delay can now allowed =
    rw (s.runners, can.place_is) (record {
      script_fits = s.script_fits;
      past_fits = tells.fits;
      runners = refl;
      priorities = tells.priorities_are;
      lines = tells.lines;
      queues = hold_refreshed script past e pool.priorities.items table pool.sequences held pool.lanes home runner s.script_fits tells refl runs
          (sequence_made script pool.lanes runner task s.script_fits s.queues.roomy can.runner_declared can.task_declared)
          (λ other another. other_sequence pool.sequences home other _ another) (hold_posted delay can);
      listed = listed_arrived script table pool.sequences held pool.lists task (posted_as script runner delay) posted can.runner_declared can.task_declared
          (λ other another. other_sequence pool.sequences home other _ (λ same. another (sym same)))
          (listed_posted script pool.postings.items pool.sequences pool.lists task (posted_as script runner delay)
          (s.postings.unknown task can.task_declared can.is_new) s.listed);
      representatives = s.representatives;
      groups = groups_kept script past e pool.groups refl s.groups;
      delayed = rw (unripe_at_post past seat task runner delay now) s.delayed;
      tracker = rw (tracked_at_post script past seat task runner delay s.past_fits can.is_new, s.tracker) refl;
      postings = tells.postings_are;
      seats = seats_kept script past e pool.seats.items refl s.seats;
      jobs = jobs_kept script past e pool.jobs.items refl s.jobs;
      holders = holders_kept script past e pool.holders.items refl s.holders;
      moment = rw (now_of_push past e) s.moment;
      room = rw (one_more past seat task runner delay) (omega (arith, s.room, few));
    })
  where
    s : StandsFor script past pool
    s = can.stands

    e : Entry
    e = record { seat = seat; kind = kinds.Post task runner delay true }

    r : Ready
    r = ready_behind past task runner delay

    home : ℕ
    home = sequence_of script runner task

    waiting : Waiting
    waiting = waiting_of script r

    held : Held
    held = pushed pool.sequences home waiting

    table : List (Option Posting)
    table = slice_set pool.postings.items task (Some (posted_as script runner delay))

    few : length (posts past) < length script.tasks
    few = posts_leave_room script past task s.past_fits can.task_declared can.is_new

    there : home < sequence_count script
    there = sequence_there script runner task can.runner_declared can.task_declared

    posted : slice_get table task ≡ Some (Some (posted_as script runner delay))
    posted = slice_get-set_same pool.postings.items task (Some (posted_as script runner delay)) (rw s.postings.all can.task_declared)

    runs : runner_of script table home ≡ Some runner
    runs = runner_is script table task (posted_as script runner delay) can.runner_declared posted

    may : may_start script (past ++ e ∷ []) r.posted ≡ true
    may = rw (is_taken_push past e task, phase_of_push past e, (new_is_not_taken script past task s.past_fits can.is_new).0, allowed) refl

    tells : Tells script (past ++ e ∷ []) pool.priorities.items table held
    tells = told seat delay held can (rw (arrivals_at_post past e task runner delay refl now)
        (lines_at_arrival script (past ++ e ∷ []) (arrivals past) pool.sequences r
        (lines_kept script past e (arrivals past) pool.sequences refl s.lines) there may))
