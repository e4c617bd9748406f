-- The queues hold what waits by the rules where they hold what the lists and the cells of the sequences say.
-- Cited by `Pool::end`, `Calls/EmptyPool`, `Calls/Ends`, `Calls/Posts`, `Calls/Reprio`, `Calls/Ripening`, `Calls/Shutdown`, `Calls/Takes`,
-- `Calls/Ticks`, `Sources/Choosing`, `Sources/Moves`, `Sources/Places`.
use Rattle.pool_laws.proofs.Seats.Running.{both}
use Rattle.list_laws.proofs.Elements.{slice_get_all}
use Rattle.list_laws.proofs.Values.{eqb-same}
use Rattle.list_laws.specs.Lists.{holds_of}
use Rattle.pool_core.proofs.Accepted.{head_accepted, is_declared, one_post}
use Rattle.pool_core.proofs.Jobs.JobQueues.{jobs_wait}
use Rattle.pool_core.proofs.Lines.{first_is_head, sequence_there}
use Rattle.pool_core.proofs.Sources.Queues.{IsGiven, IsOfLane, hold_given, hold_same}
use Rattle.pool_core.specs.Lines.{AreLines}
use Rattle.pool_core.specs.Pasts.{IsPoolPast, IsPoolScript}
use Rattle.pool_core.specs.Queues.{AreRoomy, HoldBy, HoldWaiting, lane_of, queue_of, rank_as, sequence_room, with_source}
use Rattle.pool_core.specs.StandsFor.{StandsFor}
use Rattle.pool_core.specs.State.{HasPlace, candidate_by, lane_by, present_priority, rank_by, rank_of_head, runner_of, sequence_standing, standing}
use Rattle.pool_core.specs.Tables.{ArePostings, ArePriorities, posting_of}
use Rattle.pool_core.specs.declared.lanes.Lane.{Lane}
use Rattle.pool_core.specs.declared.pool.Pool.{Pool}
use Rattle.pool_core.specs.declared.posting.Posting.{Posting}
use Rattle.pool_laws.proofs.Choice.Candidates.{sequence_in}
use Rattle.pool_laws.specs.Choice.{source_waiting}
use Rattle.pool_laws.specs.Jobs.{moves_jobs}
use Rattle.sequence_queue.specs.Ranked.{IsMadeFor}
use Rattle.sequence_queue.specs.declared.rank.Rank.{Rank}
use Rattle.std.proofs.Common.{Bool, List, None, Option, Some, [], ap, arith, cond, false, inl, inr, length}
use Rattle.std.proofs.Common.{refl, subst, sym, true, ℕ, ◌++◌, ◌+◌, ◌-◌, ◌<◌, ◌∙◌, ◌∷◌, ◌≡◌, ◌≤◌}
use Rattle.std.proofs.lemmas.Bool.{cases_eq, cases_lt, le-ltb, lt-ltb}
use Rattle.std.proofs.lemmas.List.{get_or-set_other, get_or_past}
use Rattle.std.proofs.lemmas.Map.Keys.{any_passes_from_place}
use Rattle.std.proofs.lemmas.Option.{get_or_from_slice_get, none-some, unwrap_or-slice_get}
use Rattle.std.specs.Option.{IfSome, option_map}
use Rattle.std.specs.Prelude.{is_some, option_and_then, slice_get, slice_index_or, slice_set, ◌==◌}
use Rattle.task_base.specs.Plan.{Plan}
use Rattle.task_base.specs.Runners.{is_parallel, seat_of_kind, sequence_count, sequence_of}
use Rattle.task_base.specs.declared.entry.Entry.{Entry}
use Rattle.task_base.specs.declared.script.Runner.{Runner}
use Rattle.task_base.specs.declared.script.RunnerKind.{RunnerKind}
use Rattle.task_base.specs.declared.script.RunnerKind.TheVariants.{Parallel, Sequenced, Single}
use Rattle.task_base.specs.declared.source.TaskSource.{TaskSource}
use Rattle.task_base.specs.declared.source.TaskSource.TheVariants.{Job, Sequence}
use Rattle.task_model.specs.Capacity.{priority_of}
use Rattle.task_model.specs.Cells.{cell_of}
use Rattle.task_model.specs.Keys.{Ready}
use Rattle.pool_laws.specs.Keys.{arrivals}
use Rattle.pool_laws.specs.Posts.{post_of}
use Rattle.task_model.specs.Seats.{runs_sequence}
use Rattle.task_model.specs.Sequences.{head_of}
use Rattle.task_model.specs.Sources.{sequence_candidate, sequence_waiting}
use Rattle.task_runners.specs.Table.{table_of}
use Rattle.task_sequence.specs.Sequences.{Held, first_of, fresh, sequence_at, with_sequence}
use Rattle.task_traits.specs.declared.traits.Priority.{Priority}
use Rattle.task_traits.specs.declared.traits.Priority.TheVariants.{BestEffort}
use Rattle.task_sequence.specs.Sequences as sequences

-- The queues of the runners of a script.

-- the runner of the sequence of a task that was posted
pub runner_is : (script : Plan) (postings : List (Option Posting)) (task : ℕ) (posting : Posting) → posting.runner < length script.runners
    → slice_get postings task ≡ Some (Some posting) → runner_of script postings (sequence_of script posting.runner task) ≡ Some posting.runner
runner_is script postings task posting declared known = by_parallel (holds_of (λ r. is_parallel r.kind) (slice_get script.runners posting.runner))
  where
    by_parallel : (b : Bool) → runner_of script postings (cond b (length script.runners + task) posting.runner) ≡ Some posting.runner
    by_parallel true =
        let behind : length script.runners + task - length script.runners ≡ task = omega arith in
        rw (le-ltb (length script.runners + task) (length script.runners) (omega arith), behind, known) refl
    by_parallel false = rw (lt-ltb posting.runner (length script.runners) declared) refl

-- the sequence behind those of the runners is the task's alone
own_task : (script : Plan) (runner other task : ℕ) → runner < length script.runners → sequence_of script runner other ≡ length script.runners + task
    → other ≡ task
own_task script runner other task declared is = by_parallel (holds_of (λ r. is_parallel r.kind) (slice_get script.runners runner)) is
  where
    by_parallel : (b : Bool) → cond b (length script.runners + other) runner ≡ length script.runners + task → other ≡ task
    by_parallel true is = omega (arith, is)
    by_parallel false is = absurd (omega (arith, is, declared))

-- a runner's lane is one of those that there are
pub lane_fits : (script : Plan) (runner : ℕ) → IsPoolScript script → lane_by script runner < script.workers + 1
lane_fits script runner limits = by_runner (slice_get script.runners runner) (slice_get_all _ script.runners runner limits.seats_fit)
  where
    of_kind : (kind : RunnerKind) → ((seat : ℕ) → seat_of_kind kind ≡ Some seat → (1 ≤ seat) × (seat ≤ script.workers))
        → lane_of (seat_of_kind kind) < script.workers + 1
    of_kind Parallel fits = omega arith
    of_kind Sequenced fits = omega arith
    of_kind (Single seat) fits = omega (arith, (fits seat refl).1)

    by_runner : (o : Option Runner) → IfSome o (λ r. (seat : ℕ) → seat_of_kind r.kind ≡ Some seat → (1 ≤ seat) × (seat ≤ script.workers))
        → lane_of (option_and_then (λ r. seat_of_kind r.kind) o) < script.workers + 1
    by_runner None fits = omega arith
    by_runner (Some r) fits = of_kind r.kind fits

-- it is made for each sequence of the runner
room_for : (script : Plan) (runner task : ℕ) → runner < length script.runners
    → sequence_of script runner task < sequence_count script → sequence_of script runner task < sequence_room script (lane_by script runner)
room_for script runner task declared there = by_runner (slice_get script.runners runner) refl there
  where
    either : (b : Bool) → runner < cond b (sequence_count script) (length script.runners)
    either true = omega (arith, declared)
    either false = declared

    of_kind : (r : Runner) → slice_get script.runners runner ≡ Some r → (kind : RunnerKind) → r.kind ≡ kind
        → cond (is_parallel kind) (length script.runners + task) runner < sequence_count script
        → cond (is_parallel kind) (length script.runners + task) runner < sequence_room script (lane_of (seat_of_kind kind))
    of_kind r is Parallel kind fits = fits
    of_kind r is Sequenced kind fits = fits
    of_kind r is (Single seat) kind fits =
        rw (any_passes_from_place (λ q. holds_of (λ only. only == seat) (seat_of_kind q.kind)) script.runners runner r is (rw kind (eqb-same seat)))
        (either (seat == 0))

    by_runner : (o : Option Runner) → slice_get script.runners runner ≡ o
        → cond (holds_of (λ r. is_parallel r.kind) o) (length script.runners + task) runner < sequence_count script
        → cond (holds_of (λ r. is_parallel r.kind) o) (length script.runners + task) runner
        < sequence_room script (lane_of (option_and_then (λ r. seat_of_kind r.kind) o))
    by_runner None is fits = fits
    by_runner (Some r) is fits = of_kind r is r.kind refl fits

-- and for its own
pub own_room : (script : Plan) (runner : ℕ) → runner < length script.runners → runner < sequence_room script (lane_by script runner)
own_room script runner declared = by_runner (slice_get script.runners runner) refl
  where
    either : (b : Bool) → runner < cond b (sequence_count script) (length script.runners)
    either true = omega (arith, declared)
    either false = declared

    of_kind : (r : Runner) → slice_get script.runners runner ≡ Some r → (kind : RunnerKind) → r.kind ≡ kind
        → runner < sequence_room script (lane_of (seat_of_kind kind))
    of_kind r is Parallel kind = omega (arith, declared)
    of_kind r is Sequenced kind = omega (arith, declared)
    of_kind r is (Single seat) kind =
        rw (any_passes_from_place (λ q. holds_of (λ only. only == seat) (seat_of_kind q.kind)) script.runners runner r is (rw kind (eqb-same seat)))
        (either (seat == 0))

    by_runner : (o : Option Runner) → slice_get script.runners runner ≡ o
        → runner < sequence_room script (lane_of (option_and_then (λ r. seat_of_kind r.kind) o))
    by_runner None is = omega (arith, declared)
    by_runner (Some r) is = of_kind r is r.kind refl

-- the queues of a runner's lane are made for each sequence of its tasks
pub sequence_made : (script : Plan) (lanes : List Lane) (runner task : ℕ) → IsPoolScript script → AreRoomy script lanes → runner < length script.runners
    → task < length script.tasks → (best : Bool) → IsMadeFor (queue_of lanes (lane_by script runner) best) (Sequence (sequence_of script runner task))
sequence_made script lanes runner task limits roomy declared task_declared best =
    rw (roomy.sequences (lane_by script runner) best (lane_fits script runner limits))
    (room_for script runner task declared (sequence_there script runner task declared task_declared))

-- so each of them has a place
pub has_place : (script : Plan) (pool : Pool) (runner task : ℕ) → IsPoolScript script → pool.runners ≡ table_of script.runners script.background
    → length pool.priorities.items ≡ length script.runners → length pool.sequences.sequences ≡ sequence_count script → AreRoomy script pool.lanes
    → runner < length script.runners → task < length script.tasks → HasPlace pool (sequence_of script runner task) runner
has_place script pool runner task limits runners ranked all roomy declared task_declared = rw runners record {
  declared = declared;
  ranked = omega (arith, declared, ranked);
  there = omega (arith, all, in_script);
  lane_there = omega (arith, lane_fits script runner limits, roomy.all);
  made = sequence_made script pool.lanes runner task limits roomy declared task_declared;
}
  where
    in_script : sequence_of script runner task < sequence_count script
    in_script = sequence_there script runner task declared task_declared

-- What waits by the rules, and what the parts of the pool say.

-- the head of a sequence is of the sequence's runner
pub home_is : (script : Plan) (past : List Entry) (postings : List (Option Posting)) (s : ℕ) (head : Ready) → IsPoolPast script past
    → ArePostings script past postings → head_of script past s ≡ Some head → runner_of script postings s ≡ Some head.posted.home
home_is script past postings s head fits known is =
    let accepted = head_accepted script past s head is in
    let declared = is_declared script past head.posted fits accepted.0 in
    subst (λ n. runner_of script postings n ≡ Some head.posted.home) accepted.1
    (runner_is script postings head.posted.task (posting_of script head.posted) declared.0 (known.known head.posted accepted.0))

-- a sequence without a first task has none
pub nothing_first : (tasks : List sequences.Waiting) → first_of tasks ≡ None → tasks ≡ []
nothing_first [] none = refl
nothing_first (w ∷ ws) none = absurd (none-some _ (sym none))

-- a sequence without a first task has no rank
pub no_first : (priority : Priority) (sequence : sequences.Sequence) → first_of sequence.tasks ≡ None → rank_of_head priority sequence ≡ None
no_first priority sequence none = rw none (both (is_some sequence.cell) None)

-- a sequence that has no rank is no candidate
unranked : (script : Plan) (priorities : List Priority) (postings : List (Option Posting)) (held : Held) (s : ℕ)
    → ((runner : ℕ) → rank_by priorities runner (sequence_at held s) ≡ None) → sequence_standing script priorities postings held s ≡ None
unranked script priorities postings held s none = by_runner (runner_of script postings s)
  where
    by_runner : (o : Option ℕ) → option_and_then (λ r. option_map (candidate_by script s r) (rank_by priorities r (sequence_at held s))) o ≡ None
    by_runner None = refl
    by_runner (Some r) = ap (option_map (candidate_by script s r)) (none r)

-- nor is one behind those of the script
none_behind : (script : Plan) (postings : List (Option Posting)) (s : ℕ) → length postings ≡ length script.tasks → sequence_count script ≤ s
    → runner_of script postings s ≡ None
none_behind script postings s all behind = rw (le-ltb s (length script.runners) (omega (arith, behind)))
    (ap (option_map (λ p. p.runner)) (unwrap_or-slice_get postings (s - length script.runners) None
    ∙ get_or_past postings (s - length script.runners) None (omega (arith, behind, all))))

-- the priorities, the postings and the sequences are those of the past
pub record Tells (script : Plan) (past : List Entry) (priorities : List Priority) (postings : List (Option Posting)) (held : Held) : Type 0 where
  pub fits : IsPoolPast script past
  pub lines : AreLines script past (arrivals past) held
  pub postings_are : ArePostings script past postings
  pub priorities_are : ArePriorities script past priorities

-- a sequence waits by its runner, its list and its cell as it does by the rules
waits_so : (script : Plan) (past : List Entry) (priorities : List Priority) (postings : List (Option Posting)) (held : Held) (s : ℕ)
    → Tells script past priorities postings held → s < sequence_count script
    → sequence_standing script priorities postings held s ≡ sequence_waiting script past s
waits_so script past priorities postings held s tells there = by_runs_sequence (runs_sequence script past s) (head_of script past s) refl
    (first_is_head script past held s tells.fits tells.lines there) (tells.lines.cells s there)
  where
    present : (head : Ready) → head_of script past s ≡ Some head → present_priority priorities head.posted.home ≡ priority_of script past head.posted.home
    present head is = get_or_from_slice_get priorities head.posted.home (priority_of script past head.posted.home) BestEffort
        (tells.priorities_are.each head.posted.home (is_declared script past head.posted tells.fits (head_accepted script past s head is).0).0)

    by_runs_sequence : (runs : Bool) (o : Option Ready) → head_of script past s ≡ o
        → first_of (sequence_at held s).tasks ≡ option_map (λ r. (r.posted.task, r.key)) o
        → (sequence_at held s).cell ≡ cond runs None (Some (cell_of script past s))
        → sequence_standing script priorities postings held s ≡ cond runs None (option_map (sequence_candidate script past s) o)
    by_runs_sequence true o head first cell = unranked script priorities postings held s (λ r. rw cell refl)
    by_runs_sequence false None head first cell = unranked script priorities postings held s (λ r. rw (cell, first) refl)
    by_runs_sequence false (Some r) head first cell = rw (home_is script past postings s r tells.fits tells.postings_are head, cell, first, present r head) refl

pub sequence_waits : (script : Plan) (past : List Entry) (priorities : List Priority) (postings : List (Option Posting)) (held : Held) (s : ℕ)
    → Tells script past priorities postings held → sequence_standing script priorities postings held s ≡ source_waiting script past (Sequence s)
sequence_waits script past priorities postings held s tells = elim (cases_lt s (sequence_count script)) [
  | inl there ↦ waits_so script past priorities postings held s tells there ∙ sym (sequence_in script past s there)
  | inr behind ↦ rw (none_behind script postings s tells.postings_are.all behind, le-ltb s (sequence_count script) behind) refl
]

-- so the queues hold what the parts of the pool say
pub hold_standing : (script : Plan) (past : List Entry) (pool : Pool) → StandsFor script past pool
    → HoldBy script (standing script past pool.priorities.items pool.postings.items pool.sequences) pool.lanes
hold_standing script past pool stands = hold_same script (source_waiting script past)
    (standing script past pool.priorities.items pool.postings.items pool.sequences) pool.lanes same stands.queues
  where
    same : (source : TaskSource) → standing script past pool.priorities.items pool.postings.items pool.sequences source ≡ source_waiting script past source
    same (Sequence s) = sequence_waits script past pool.priorities.items pool.postings.items pool.sequences s
        (record { fits = stands.past_fits; lines = stands.lines; postings_are = stands.postings; priorities_are = stands.priorities })
    same (Job j) = refl

-- and back, in a later past in which each job waits as before
pub hold_from : (script : Plan) (past later : List Entry) (priorities : List Priority) (postings : List (Option Posting)) (held : Held) (lanes : List Lane)
    → Tells script later priorities postings held → ((j : ℕ) → source_waiting script later (Job j) ≡ source_waiting script past (Job j))
    → HoldBy script (standing script past priorities postings held) lanes → HoldWaiting script later lanes
hold_from script past later priorities postings held lanes tells jobs hold =
    hold_same script (standing script past priorities postings held) (source_waiting script later) lanes same hold
  where
    same : (source : TaskSource) → source_waiting script later source ≡ standing script past priorities postings held source
    same (Sequence s) = sym (sequence_waits script later priorities postings held s tells)
    same (Job j) = jobs j

-- Where something changes.

-- the post of a new task to a runner leaves each source where it is
pub standing_at_post : (script : Plan) (past : List Entry) (priorities : List Priority) (postings : List (Option Posting)) (held : Held) (task : ℕ)
    (posting : Posting) (source : TaskSource) → Tells script past priorities postings held → task < length script.tasks → post_of past task ≡ None
    → standing script past priorities (slice_set postings task (Some posting)) held source ≡ standing script past priorities postings held source
standing_at_post script past priorities postings held task posting (Job j) tells declared new = refl
standing_at_post script past priorities postings held task posting (Sequence s) tells declared new = elim (cases_lt s (length script.runners)) [
  | inl less ↦ rw (lt-ltb s (length script.runners) less) refl
  | inr more ↦ elim (cases_eq (s - length script.runners) task) [
    | inl is ↦ unranked script priorities later held s (λ r. no_first (present_priority priorities r) (sequence_at held s) (empty (omega (arith, is, more))))
        ∙ rw (le-ltb s (length script.runners) more, is, tells.postings_are.unknown task declared new) refl
    | inr another ↦ ap (option_and_then (λ r. option_map (candidate_by script s r) (rank_by priorities r (sequence_at held s))))
        (rw (le-ltb s (length script.runners) more) (ap (option_map (λ p. p.runner)) (unwrap_or-slice_get later (s - length script.runners) None
        ∙ get_or-set_other postings task (s - length script.runners) (Some posting) None another
        ∙ sym (unwrap_or-slice_get postings (s - length script.runners) None))))
  ]
]
  where
    later : List (Option Posting)
    later = slice_set postings task (Some posting)

    not_its_head : (head : Ready) → s ≡ length script.runners + task → head_of script past s ≡ Some head → ⊥
    not_its_head head is it =
        let accepted = head_accepted script past s head it in
        let stated = is_declared script past head.posted tells.fits accepted.0 in
        let itself : head.posted.task ≡ task = own_task script head.posted.home head.posted.task task stated.0 (accepted.1 ∙ is) in
        none-some head.posted (sym new ∙ ap (post_of past) (sym itself) ∙ one_post past head.posted tells.fits.in_order accepted.0)

    no_head : (o : Option Ready) → s ≡ length script.runners + task → head_of script past s ≡ o → head_of script past s ≡ None
    no_head None is it = it
    no_head (Some head) is it = absurd (not_its_head head is it)

    empty : s ≡ length script.runners + task → first_of (sequence_at held s).tasks ≡ None
    empty is = rw (no_head (head_of script past s) is refl) at
        (first_is_head script past held s tells.fits tells.lines (omega (arith, is, declared)))

-- another sequence's list and cell are as before
pub other_sequence : (held : Held) (s other : ℕ) (sequence : sequences.Sequence) → (s ≡ other → ⊥)
    → slice_index_or (with_sequence held s sequence) other fresh ≡ sequence_at held other
other_sequence held s other sequence another = get_or-set_other held.sequences s other sequence fresh (λ is. another (sym is))

-- a sequence is given its place in the lane of its runner
pub sequence_given : (script : Plan) (old priorities : List Priority) (postings : List (Option Posting)) (before held : Held) (lanes : List Lane)
    (s runner : ℕ) → IsPoolScript script → runner_of script postings s ≡ Some runner
    → ((best : Bool) → IsMadeFor (queue_of lanes (lane_by script runner) best) (Sequence s))
    → IsGiven script lanes (lane_by script runner) (Sequence s) (sequence_standing script old postings before s)
    (sequence_standing script priorities postings held s) (rank_by priorities runner (sequence_at held s))
sequence_given script old priorities postings before held lanes s runner limits runs made = record {
  there = lane_fits script runner limits;
  made = made;
  was = rw runs (of_lane (rank_by old runner (sequence_at before s)));
  is = rw runs (of_lane (rank_by priorities runner (sequence_at held s)));
  rank_is = rw runs (ranked (rank_by priorities runner (sequence_at held s)));
}
  where
    of_lane : (o : Option Rank) → IsOfLane (lane_by script runner) (option_map (candidate_by script s runner) o)
    of_lane None = tt
    of_lane (Some rank) = refl

    ranked : (o : Option Rank) → o ≡ option_map rank_as (option_map (candidate_by script s runner) o)
    ranked None = refl
    ranked (Some rank) = refl

-- one sequence changes, and is given its place
pub all_refreshed : (script : Plan) (past : List Entry) (priorities : List Priority) (postings : List (Option Posting)) (before held : Held)
    (lanes : List Lane) (s runner : ℕ) → IsPoolScript script → runner_of script postings s ≡ Some runner
    → ((best : Bool) → IsMadeFor (queue_of lanes (lane_by script runner) best) (Sequence s))
    → ((other : ℕ) → (s ≡ other → ⊥) → sequence_at held other ≡ sequence_at before other)
    → HoldBy script (standing script past priorities postings before) lanes → HoldBy script (standing script past priorities postings held)
    (with_source lanes (lane_by script runner) (Sequence s) (rank_by priorities runner (sequence_at held s)))
all_refreshed script past priorities postings before held lanes s runner limits runs made others hold =
    hold_given script (standing script past priorities postings before) (standing script past priorities postings held) lanes (lane_by script runner)
    (Sequence s) (rank_by priorities runner (sequence_at held s))
    (sequence_given script priorities priorities postings before held lanes s runner limits runs made) same hold
  where
    same : (other : TaskSource) → (other ≡ Sequence s → ⊥)
        → standing script past priorities postings held other ≡ standing script past priorities postings before other
    same (Sequence t) another = rw (others t (λ equal. another (ap Sequence (sym equal)))) refl
    same (Job j) another = refl

-- and the queues hold what waits in the later past
pub hold_refreshed : (script : Plan) (past : List Entry) (e : Entry) (priorities : List Priority) (postings : List (Option Posting)) (before held : Held)
    (lanes : List Lane) (s runner : ℕ) → IsPoolScript script → Tells script (past ++ e ∷ []) priorities postings held → moves_jobs e.kind ≡ false
    → runner_of script postings s ≡ Some runner → ((best : Bool) → IsMadeFor (queue_of lanes (lane_by script runner) best) (Sequence s))
    → ((other : ℕ) → (s ≡ other → ⊥) → sequence_at held other ≡ sequence_at before other)
    → HoldBy script (standing script past priorities postings before) lanes → HoldWaiting script (past ++ e ∷ [])
    (with_source lanes (lane_by script runner) (Sequence s) (rank_by priorities runner (sequence_at held s)))
hold_refreshed script past e priorities postings before held lanes s runner limits tells quiet runs made others hold =
    hold_from script past (past ++ e ∷ []) priorities postings held _ tells (λ j. jobs_wait script past e j quiet)
    (all_refreshed script past priorities postings before held lanes s runner limits runs made others hold)
