-- What blocks shutdown waits for a worker, while nobody is at anything: once shutdown was started, an open block task makes its
-- sequence wait, and an open block job waits itself. No skip work blocks it, since none runs.
-- Cited by `Laws/Progress/Ways`.
use Rattle.std.proofs.Common.{◌≡◌, ℕ, ◌<◌, Bool, true, false, cond, eqb, List, [], ◌∷◌, length, refl, sym, ap, subst, ◌∙◌, Option, Some, None, inl, inr, arith}
use Rattle.std.specs.Prelude.{◌⊎◌, ◌&&◌, ◌||◌, not, filter, Contains}
use Rattle.std.specs.List.{range_with_len}
use Rattle.std.specs.Option.{option_map}
use Rattle.std.proofs.lemmas.Bool.{and_parts, eq-eqb, not-true, false_from_ne_true, or_parts}
use Rattle.std.proofs.lemmas.List.Elements.{All-contains}
use Rattle.std.proofs.lemmas.Option.{none-some}
use Rattle.task_base.specs.Plan.{Plan}
use Rattle.task_base.specs.Keys.{key_below}
use Rattle.task_base.specs.Policy.{is_held_back}
use Rattle.task_base.specs.declared.entry.Entry.{Entry}
use Rattle.task_base.specs.declared.source.Key.{Key}
use Rattle.task_traits.specs.Behaviour.{effective_of, forbids}
use Rattle.task_traits.specs.declared.traits.Behaviour.{Behaviour}
use Rattle.task_traits.specs.declared.traits.Behaviour.TheVariants.{ContinueOnShutdown, SkipOnShutdown, BlockShutdown}
use Rattle.task_traits.specs.declared.traits.Priority.{Priority}
use Rattle.task_traits.specs.declared.phase.Phase.TheVariants as phases
use Rattle.list_laws.specs.Lists.{holds_of}
use Rattle.list_laws.proofs.Filters.{filter_never}
use Rattle.list_laws.proofs.Made.{filter_contains, contains_filter, contains_filter_map, contains_not_empty, range_contains}
use Rattle.script_model.specs.Laws.Sound.{IsSound}
use Rattle.task_model.specs.Time.{tick_from}
use Rattle.task_model.specs.Posts.{Posted, is_delayed, posts, is_taken, is_ended}
use Rattle.task_model.specs.Phase.{phase_of}
use Rattle.task_model.specs.Policies.{policy_of, is_held}
use Rattle.task_model.specs.Refusal.{effective_at, is_forbidden, behaviour_of_job, is_job_forbidden}
use Rattle.task_model.specs.Keys.{Ready, key_at, key_of, ready}
use Rattle.task_model.specs.Sequences.{is_of, may_start, eligible, head_of}
use Rattle.task_model.specs.Seats.{all_seats}
use Rattle.task_model.specs.Jobs.{is_job_accepted, is_cancelled, is_empty, is_finished_job, is_over}
use Rattle.task_model.specs.Sources.{Candidate, sequence_candidate}
use Rattle.pool_laws.specs.Choice.{IsWaiting}
use Rattle.task_model.specs.Blockers.{is_block, is_skip, is_open_block, is_running_skip, is_open_job, is_in_skip_job, block_part, skip_part, blockers_of}
use Rattle.pool_laws.specs.Keys.{ready_below}
use Rattle.pool_laws.proofs.Choice.Candidates.{not_held_is_waiting}
use Rattle.pool_laws.proofs.Choice.Least.{head_is_least, no_head, keys_total}
use Rattle.hist_model.specs.Laws.Whole.{sequence_at, WaitsInSequence}
use Rattle.hist_model.proofs.Laws.OneSeat.{runs_at_one_seat}
use Rattle.hist_model.proofs.Laws.Whole.Workers.{waits_for_workers}
use Rattle.hist_model.proofs.Laws.Progress.Jobs.{may_go_in, job_waits}
use Rattle.hist_model.proofs.Laws.Progress.Quiet.{Quiet, nobody_inside, no_sequence_runs}
use Rattle.hist_model.proofs.Laws.Progress.Workers.{SeatFor, any_seat, seat_for}

-- ---- skip work

-- a task that was taken has ended
all_ended : (script : Plan) (past : List Entry) (t : ℕ) → Quiet script past → is_taken past t ≡ true → is_ended past t ≡ false → ⊥
all_ended script past t q taken unended = let r = runs_at_one_seat script past t q.legal taken unended in none-some r.now (sym (q.runs r.seat) ∙ r.running_is)

no_skips : (script : Plan) (past : List Entry) → Quiet script past → skip_part script past ≡ 0
unfolding skip_part
no_skips script past q = omega (
  arith,
  ap length (filter_never (is_running_skip script past) (posts past) no_task),
  ap length (filter_never (is_in_skip_job script past) (all_seats script)
      (λ seat. ap (holds_of (λ h. is_skip (behaviour_of_job script h.job))) (q.holds seat))),
)
  where
    no_task : (p : Posted) → is_running_skip script past p ≡ false
    no_task p = false_from_ne_true (is_running_skip script past p) (λ h.
        let last = and_parts _ (not (is_ended past p.task)) h in
        all_ended script past p.task q (and_parts _ (is_taken past p.task) last.0).1 (not-true (is_ended past p.task) last.1))

-- ---- block work

-- some source waits that a worker may take
pub record SomeWaits (script : Plan) (past : List Entry) : Type 0 where
  pub source : Candidate
  pub waits : IsWaiting script past source
  pub for_one : SeatFor script source.seat

-- nothing is held back once shutdown was started
none_held : (past : List Entry) (priority : Priority) → phase_of past ≡ phases.Started → is_held past priority ≡ false
none_held past priority started = ap (λ phase. is_held_back phase (policy_of past) priority) started

-- a block task is not delayed, and is not forbidden
block_is_immediate : (b : Behaviour) (delayed : Bool) → is_block (effective_of b delayed) ≡ true → delayed ≡ false
block_is_immediate BlockShutdown false h = refl
block_is_immediate BlockShutdown true h = absurd cc
block_is_immediate ContinueOnShutdown delayed h = absurd cc
block_is_immediate SkipOnShutdown delayed h = absurd cc

block_is_allowed : (b : Behaviour) → is_block b ≡ true → forbids phases.Started b ≡ false
block_is_allowed BlockShutdown h = refl
block_is_allowed b h = absurd cc

-- an accepted task that has a key, was not taken and is not forbidden makes its sequence wait
sequence_waits : (script : Plan) (past : List Entry) (p : Posted) (key : Key) → Quiet script past → Contains (posts past) p → key_of past p ≡ Some key
    → is_taken past p.task ≡ false → is_forbidden script past p ≡ false → WaitsInSequence script past p
unfolding eligible ready
sequence_waits script past p key q among is untaken allowed = by_head (head_of script past s) refl
  where
    s : ℕ
    s = sequence_at script p

    it : Ready
    it = record { posted = p; key = key }

    is_ready : Contains (ready past) it
    is_ready = contains_filter_map (λ x. option_map (λ k. record { posted = x; key = k }) (key_of past x)) (posts past) p it among
        (ap (option_map (λ k. record { posted = p; key = k })) is)

    is_eligible : Contains (eligible script past s) it
    is_eligible = contains_filter (λ r. is_of script s r.posted && may_start script past r.posted) (ready past) it is_ready
        (rw (eq-eqb s s refl, untaken, allowed) refl)

    first : (head : Ready) (b : Bool) → key_below head.key key ≡ b → key_below key head.key ≡ false
        → (head.key ≡ key) ⊎ (key_below head.key key ≡ true)
    first head true below above = inr below
    first head false below above = inl (keys_total head.key key below above)

    by_head : (o : Option Ready) → head_of script past s ≡ o → WaitsInSequence script past p
    by_head None none = absurd (contains_not_empty (eligible script past s) it is_eligible (no_head script past s none))
    by_head (Some head) some = record {
      key = key;
      key_is = is;
      is_eligible = is_eligible;
      head = head;
      head_is = some;
      at_or_below = first head (key_below head.key key) refl (All-contains (λ r. ready_below r head ≡ false) (eligible script past s) it
          (head_is_least script past s head some).none_below is_eligible);
      not_running = no_sequence_runs script past s q;
      waits = rw (no_sequence_runs script past s q, some) refl;
    }

-- an open block task
task_waits : (script : Plan) (past : List Entry) (p : Posted) → IsSound script → Quiet script past → phase_of past ≡ phases.Started
    → Contains (posts past) p → is_open_block script past p ≡ true → SomeWaits script past
task_waits script past p sound q started among open_block = record {
  source = c;
  waits = not_held_is_waiting script past c (waits_for_workers script past p sound q.legal among w).would_wait (none_held past c.priority started);
  for_one = seat_for script w.head.posted.home sound;
}
  where
    parts : (is_block (effective_at script p.home p.delay) ≡ true) × (not (is_ended past p.task) ≡ true)
    parts = and_parts (is_block (effective_at script p.home p.delay)) (not (is_ended past p.task)) open_block

    key_is : key_of past p ≡ Some (key_at p.place)
    key_is = ap (λ (b : Bool). cond b (option_map (λ place. record { place = place; ripe = p.ripe; post = p.place }) (tick_from past p.ripe))
        (Some (key_at p.place))) (block_is_immediate _ (is_delayed p) parts.0)

    w : WaitsInSequence script past p
    w = sequence_waits script past p (key_at p.place) q among key_is
        (false_from_ne_true (is_taken past p.task) (λ taken. all_ended script past p.task q taken (not-true (is_ended past p.task) parts.1)))
        (ap (λ phase. forbids phase (effective_at script p.home p.delay)) started ∙ block_is_allowed (effective_at script p.home p.delay) parts.0)

    c : Candidate
    c = sequence_candidate script past (sequence_at script p) w.head

-- an open block job
open_job_waits : (script : Plan) (past : List Entry) (j : ℕ) → IsSound script → Quiet script past → phase_of past ≡ phases.Started
    → j < length script.jobs → is_open_job script past j ≡ true → SomeWaits script past
open_job_waits script past j sound q started within open_job =
    let last = and_parts _ (not (is_over script past j)) open_job in
    let front = and_parts (is_block (behaviour_of_job script j)) (is_job_accepted past j) last.0 in
    let over = not_over (is_empty script past j) (is_finished_job script past j || is_cancelled past j)
    (ap (λ xs. eqb (length xs) 0) (nobody_inside script past j q)) (not-true (is_over script past j) last.1) in
    let parts : (is_finished_job script past j ≡ false) × (is_cancelled past j ≡ false) =
    or_parts (is_finished_job script past j) (is_cancelled past j) over in
    let allowed : is_job_forbidden script past j ≡ false = ap (λ phase. forbids phase (behaviour_of_job script j)) started
    ∙ block_is_allowed (behaviour_of_job script j) front.0 in
    let (c, waits, any) = job_waits script past j within front.1 (may_go_in script past j sound q within front.1 parts.0 parts.1 allowed)
    (λ c. none_held past c.priority started) in
    record { source = c; waits = waits; for_one = subst (SeatFor script) (sym any) (any_seat script sound) }
  where
    not_over : (a b : Bool) → a ≡ true → (a && b) ≡ false → b ≡ false
    not_over true b h k = k
    not_over false b h k = absurd cc

-- none of a list passes a test, or one does
some_passes : {A : Type 0} (test : A → Bool) (xs : List A) → (filter test xs ≡ []) ⊎ ((x : A) × Contains xs x × (test x ≡ true))
some_passes {A = A} test xs = by_kept (filter test xs) refl
  where
    by_kept : (ys : List A) → filter test xs ≡ ys → (filter test xs ≡ []) ⊎ ((x : A) × Contains xs x × (test x ≡ true))
    by_kept [] none = inl none
    by_kept (x ∷ ys) is =
        let both = filter_contains test xs x (subst (λ zs. Contains zs x) (sym is) (0, omega arith, refl)) in inr (x, both.0, both.1)

-- so where shutdown is blocked, something waits for a worker
pub blocked_waits : (script : Plan) (past : List Entry) → IsSound script → Quiet script past → phase_of past ≡ phases.Started
    → (blockers_of script past ≡ 0 → ⊥) → SomeWaits script past
unfolding blockers_of block_part
blocked_waits script past sound q started blocked =
    by_side (some_passes (is_open_block script past) (posts past)) (some_passes (is_open_job script past) (range_with_len 0 (length script.jobs)))
  where
    by_side : (filter (is_open_block script past) (posts past) ≡ []) ⊎ ((p : Posted) × Contains (posts past) p × (is_open_block script past p ≡ true))
        → (filter (is_open_job script past) (range_with_len 0 (length script.jobs)) ≡ [])
        ⊎ ((j : ℕ) × Contains (range_with_len 0 (length script.jobs)) j × (is_open_job script past j ≡ true)) → SomeWaits script past
    by_side (inr (p, among, is)) jobs = task_waits script past p sound q started among is
    by_side (inl none) (inr (j, among, is)) = open_job_waits script past j sound q started (range_contains (length script.jobs) j among) is
    by_side (inl no_task) (inl no_job) = absurd (blocked (omega (arith, ap length no_task, ap length no_job, no_skips script past q)))
