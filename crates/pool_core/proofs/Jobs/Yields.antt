-- Whether better work waits, and so whether a worker at a job makes way.
-- Cited by `Pool::has_better`, `Pool::makes_way`.
use Rattle.list_laws.proofs.Elements.{AllByRecursion-contains, AllByRecursion-contains_itself, AllByRecursion-map}
use Rattle.list_laws.proofs.Options.{AllByRecursion-not_any}
use Rattle.list_laws.proofs.Tests.{list_any_congr, list_any_never, list_any_none}
use Rattle.list_laws.specs.Lists.{holds_of}
use Rattle.pool_core.proofs.Sources.Choosing.{has_queue, held_by_queue, held_is}
use Rattle.pool_core.proofs.Works.Room.{room_for_any}
use Rattle.pool_core.specs.Groups.{in_background}
use Rattle.pool_core.specs.JobState.{is_better}
use Rattle.pool_core.specs.Queues.{lane_of, queue_of, rank_as, same}
use Rattle.pool_core.specs.StandsFor.{StandsFor}
use Rattle.pool_core.specs.declared.pool.Pool.{Pool}
use Rattle.pool_laws.proofs.Choice.Candidates.{candidate_names, free_is_waiting, waiting_is_free}
use Rattle.pool_laws.specs.Choice.{IsFree, source_waiting}
use Rattle.sequence_queue.specs.Ranked.{IsMadeFor, rank_below, rank_of}
use Rattle.sequence_queue.specs.Ranked as queues
use Rattle.sequence_queue.specs.declared.rank.Rank.{Rank}
use Rattle.std.proofs.Common.{Bool, List, None, Option, Some, ap, arith, false, refl, subst, sym, true, ℕ, ◌<◌, ◌∙◌, ◌≡◌, ◌≤◌}
use Rattle.std.proofs.Math.Bool.{and-false}
use Rattle.std.proofs.lemmas.Bool.{and_from, and_parts, eqb-true, false≢true, lt-ltb, ltb-false, ltb-true, not-true}
use Rattle.std.proofs.lemmas.Option.{none-some}
use Rattle.std.specs.List.{list_any}
use Rattle.std.specs.Prelude.{Contains, is_none, is_some, nat_le, nat_lt, not, ◌&&◌, ◌==◌, ◌||◌}
use Rattle.task_base.specs.Groups.{Background, Foreground, group_of, importance, is_best_effort, same_group}
use Rattle.task_base.specs.Keys.{key_below}
use Rattle.task_base.specs.Plan.{Plan}
use Rattle.task_base.specs.declared.entry.Entry.{Entry}
use Rattle.task_base.specs.declared.source.TaskSource.{TaskSource}
use Rattle.task_model.specs.Capacity.{capacity, load}
use Rattle.task_model.specs.Phase.{phase_of}
use Rattle.task_model.specs.Policies.{is_held}
use Rattle.task_model.specs.Sources.{Candidate, makes_way, waiting}
use Rattle.task_traits.specs.Behaviour.{forbids}
use Rattle.task_traits.specs.declared.traits.Behaviour.TheVariants.{BlockShutdown}
use Rattle.task_traits.specs.declared.traits.Priority.{Priority}
use Rattle.task_traits.specs.declared.traits.Priority.TheVariants.{BestEffort, UserBlocking, UserVisible}
use Rattle.task_tracker.specs.Tracked.{may_start}
use Rattle.thread_group.specs.Group.{has_room}

-- Better work that any worker may take is in one queue: that of lane 0 for all but best-effort sources.

-- a source that it holds waits, where the policy lets it
waits_in_queue : (script : Plan) (past : List Entry) (pool : Pool) (source : TaskSource) (rank : Rank) → StandsFor script past pool
    → is_held past UserVisible ≡ false → IsMadeFor (queue_of pool.lanes 0 false) source → rank_of (queue_of pool.lanes 0 false) source ≡ Some rank
    → (c : Candidate) × Contains (waiting script past) c × (c.seat ≡ None) × (rank_as c ≡ rank)
waits_in_queue script past pool source rank stands lets made is =
    let held = held_is 0 false (source_waiting script past source) rank (sym ((stands.queues.places source).ranks 0 false made) ∙ is) in
    let c = held.0 in
    let named : c.source ≡ source = candidate_names script past source c held.1 in
    let own : ((lane_of c.seat == 0) ≡ true) × (same (is_best_effort c.priority) false ≡ true) = and_parts _ _ held.2 in (
      c,
      free_is_waiting script past c (record {
        candidate = ap (source_waiting script past) named ∙ held.1;
        not_held = held_by_queue past c.priority false own.1 ∙ lets;
      }),
      free c.seat own.0 (has_queue script past pool source c stands held.1).above,
      held.3,
    )
  where
    free : (o : Option ℕ) → (lane_of o == 0) ≡ true → ((only : ℕ) → o ≡ Some only → 1 ≤ only) → o ≡ None
    free None shared above = refl
    free (Some only) shared above = absurd (omega (arith, eqb-true only 0 shared, above only refl))

-- what it holds of a source, and that block work may start
record IsInQueue (past : List Entry) (pool : Pool) (c : Candidate) : Type 0 where
  made : IsMadeFor (queue_of pool.lanes 0 false) c.source
  held : rank_of (queue_of pool.lanes 0 false) c.source ≡ Some (rank_as c)
  lets : forbids (phase_of past) BlockShutdown ≡ false
  free : is_held past UserVisible ≡ false

-- work of a higher priority than some other is no best-effort work
not_best_effort : (least priority : Priority) → nat_lt (importance least) (importance priority) ≡ true → is_best_effort priority ≡ false
not_best_effort least BestEffort higher = absurd (omega (arith, ltb-true (importance least) 0 higher))
not_best_effort least UserVisible higher = refl
not_best_effort least UserBlocking higher = refl

-- better work that waits is there
better_is_there : (script : Plan) (past : List Entry) (pool : Pool) (priority : Priority) (c : Candidate) → StandsFor script past pool
    → Contains (waiting script past) c → is_better priority c ≡ true → IsInQueue past pool c
better_is_there script past pool priority c stands waits better =
    let free : IsFree script past c = waiting_is_free script past c waits in
    let queue = has_queue script past pool c.source c stands free.candidate in
    let tests : (not (is_some c.seat) ≡ true) × (nat_lt (importance priority) (importance c.priority) ≡ true) = and_parts _ _ better in
    let shared : lane_of c.seat ≡ 0 = shared_lane c.seat tests.0 in
    let lesser : is_best_effort c.priority ≡ false = not_best_effort priority c.priority tests.1 in
    let made : IsMadeFor (queue_of pool.lanes 0 false) c.source = subst (λ l. IsMadeFor (queue_of pool.lanes l false) c.source) shared (queue.made false) in
    record {
      made = made;
      held = (stands.queues.places c.source).ranks 0 false made ∙ rw (free.candidate, shared, lesser) refl;
      lets = queue.lets;
      free = sym (held_by_queue past c.priority false (ap (λ b. same b false) lesser)) ∙ free.not_held;
    }
  where
    shared_lane : (o : Option ℕ) → not (is_some o) ≡ true → lane_of o ≡ 0
    shared_lane None is = refl
    shared_lane (Some only) is = absurd (false≢true is)

-- where the first holds, one of two does
denied : (a b : Bool) → a ≡ true → (a || b) ≡ false → ⊥
denied true b is none = false≢true (sym none)
denied false b is none = false≢true is

-- the first of the queue tells whether better work waits
abbrev pub is_found : List Entry → Priority → Option (TaskSource × Rank) → Bool
is_found past priority first = not (forbids (phase_of past) BlockShutdown) && not (is_held past UserVisible)
    && holds_of (λ b. nat_lt (importance priority) (importance b.1.priority)) first

better_waits : (script : Plan) (past : List Entry) (pool : Pool) (priority : Priority) (first : Option (TaskSource × Rank)) → StandsFor script past pool
    → queues.IsBest (queue_of pool.lanes 0 false) first → is_found past priority first ≡ list_any (is_better priority) (waiting script past)
better_waits script past pool priority first stands best = by_found (is_found past priority first) refl
  where
    some : (first : Option (TaskSource × Rank)) → queues.IsBest (queue_of pool.lanes 0 false) first → is_found past priority first ≡ true
        → (c : Candidate) × Contains (waiting script past) c × (is_better priority c ≡ true)
    some None none found = absurd (false≢true (sym (and-false (not (forbids (phase_of past) BlockShutdown) && not (is_held past UserVisible))) ∙ found))
    some (Some (source, rank)) (made, held, before) found =
        let opened = not (forbids (phase_of past) BlockShutdown) && not (is_held past UserVisible) in
        let parts = and_parts opened (nat_lt (importance priority) (importance rank.priority)) found in
        let lets = and_parts (not (forbids (phase_of past) BlockShutdown)) (not (is_held past UserVisible)) parts.0 in
        let (c, waits, free, same_rank) = waits_in_queue script past pool source rank stands (not-true (is_held past UserVisible) lets.1) made held in
        (c, waits, rw free (ap (λ (r : Rank). nat_lt (importance priority) (importance r.priority)) same_rank ∙ parts.1))

    first_is_better : (first : Option (TaskSource × Rank)) (c : Candidate) → queues.IsBest (queue_of pool.lanes 0 false) first
        → nat_lt (importance priority) (importance c.priority) ≡ true → IsInQueue past pool c
        → holds_of (λ b. nat_lt (importance priority) (importance b.1.priority)) first ≡ true
    first_is_better None c none higher there = absurd (none-some (rank_as c) (sym (none c.source there.made) ∙ there.held))
    first_is_better (Some (source, rank)) c (made, held, before) higher there =
        lt-ltb (importance priority) (importance rank.priority)
        (at_least (nat_lt (importance rank.priority) (importance c.priority)) refl (before c.source (rank_as c) there.made there.held))
      where
        at_least : (b : Bool) → nat_lt (importance rank.priority) (importance c.priority) ≡ b → rank_below (rank_as c) rank ≡ false
            → importance priority < importance rank.priority
        at_least true below not_below = absurd (denied (nat_lt (importance rank.priority) (importance c.priority))
            (importance rank.priority == importance c.priority && (nat_lt c.inside rank.inside || (c.inside == rank.inside && key_below c.key rank.key)))
            below not_below)
        at_least false at not_below = omega (
          arith,
          ltb-false (importance rank.priority) (importance c.priority) at,
          ltb-true (importance priority) (importance c.priority) higher,
        )

    none : (c : Candidate) (b : Bool) → is_better priority c ≡ b → Contains (waiting script past) c → is_found past priority first ≡ false
        → is_better priority c ≡ false
    none c false is waits found = is
    none c true is waits found =
        let there = better_is_there script past pool priority c stands waits is in
        let tests : (not (is_some c.seat) ≡ true) × (nat_lt (importance priority) (importance c.priority) ≡ true) = and_parts _ _ is in
        absurd (false≢true (sym found ∙ and_from _ _ (and_from _ _ (ap not there.lets) (ap not there.free)) (first_is_better first c best tests.1 there)))

    known : (a : Bool) → list_any (is_better priority) (waiting script past) ≡ a
        → (c : Candidate) × Contains (waiting script past) c × (is_better priority c ≡ true) → a ≡ true
    known true is better = refl
    known false is (c, waits, better) = absurd (false≢true (sym (AllByRecursion-contains (λ x. is_better priority x ≡ false) (waiting script past) c
        (AllByRecursion-not_any (is_better priority) (waiting script past) is) waits) ∙ better))

    by_found : (b : Bool) → is_found past priority first ≡ b → b ≡ list_any (is_better priority) (waiting script past)
    by_found true found = sym (known (list_any (is_better priority) (waiting script past)) refl (some first best found))
    by_found false found = sym (list_any_none (is_better priority) (waiting script past)
        (AllByRecursion-map (Contains (waiting script past)) (λ c. is_better priority c ≡ false) (waiting script past)
        (λ c waits. none c (is_better priority c) refl waits found) (AllByRecursion-contains_itself (waiting script past))))

-- so do the tracker, which says whether such work may start, and the first of the queue
pub better_found : (script : Plan) (past : List Entry) (pool : Pool) (priority : Priority) (first : Option (TaskSource × Rank)) (lets : Bool)
    → StandsFor script past pool → queues.IsBest (queue_of pool.lanes 0 false) first → may_start pool.tracker UserVisible BlockShutdown ≡ lets
    → (lets && holds_of (λ b. nat_lt (importance priority) (importance b.1.priority)) first) ≡ list_any (is_better priority) (waiting script past)
better_found script past pool priority first lets stands best is =
    ap (λ b. b && holds_of (λ b. nat_lt (importance priority) (importance b.1.priority)) first)
    (sym is ∙ ap (λ t. may_start t UserVisible BlockShutdown) stands.tracker)
    ∙ better_waits script past pool priority first stands best

-- A worker makes way where its group is the foreground one, which runs at least what it may, and better work waits.

-- better work is of the foreground group
better_is_outranking : (script : Plan) (priority : Priority) (c : Candidate) → group_of script priority ≡ Foreground
    → (is_none c.seat && same_group (group_of script c.priority) (group_of script priority) && nat_lt (importance priority) (importance c.priority))
    ≡ is_better priority c
better_is_outranking script priority c foreground = rw foreground (by_seat c.seat (nat_lt (importance priority) (importance c.priority)) refl)
  where
    by_seat : (seat : Option ℕ) (b : Bool) → nat_lt (importance priority) (importance c.priority) ≡ b
        → (is_none seat && same_group (group_of script c.priority) Foreground && b) ≡ (not (is_some seat) && b)
    by_seat (Some only) b is = refl
    by_seat None false is = and-false (same_group (group_of script c.priority) Foreground)
    by_seat None true is = rw (not_best_effort priority c.priority is) refl

-- none is better than best-effort work in the background group
none_outranks : (script : Plan) (priority : Priority) (c : Candidate) → group_of script priority ≡ Background
    → (is_none c.seat && same_group (group_of script c.priority) (group_of script priority) && nat_lt (importance priority) (importance c.priority)) ≡ false
none_outranks script priority c background = rw background (by_seat c.seat (nat_lt (importance priority) (importance c.priority)) refl)
  where
    by_seat : (seat : Option ℕ) (b : Bool) → nat_lt (importance priority) (importance c.priority) ≡ b
        → (is_none seat && same_group (group_of script c.priority) Background && b) ≡ false
    by_seat (Some only) b is = refl
    by_seat None false is = and-false (same_group (group_of script c.priority) Background)
    by_seat None true is = rw (not_best_effort priority c.priority is) refl

pub makes_way_is : (script : Plan) (past : List Entry) (pool : Pool) (priority : Priority) → StandsFor script past pool
    → (not (in_background script priority) && not (has_room pool.groups.foreground UserVisible)
    && list_any (is_better priority) (waiting script past)) ≡ makes_way script past priority
makes_way_is script past pool priority stands = by_group (group_of script priority) refl
  where
    full : (n m : ℕ) → not (nat_lt n m) ≡ nat_le m n
    full n m = grind arith

    by_group : (group : _) → group_of script priority ≡ group → (not (same_group group Background) && not (has_room pool.groups.foreground UserVisible)
        && list_any (is_better priority) (waiting script past)) ≡ makes_way script past priority
    by_group Foreground is = rw (
      room_for_any script past pool.groups stands.script_fits stands.past_fits stands.groups,
      full (load script past Foreground) (capacity script past Foreground),
      ← list_any_congr _ _ (waiting script past) (λ c. better_is_outranking script priority c is),
      is,
    ) refl
    by_group Background is = rw (list_any_never _ (waiting script past) (λ c. none_outranks script priority c is))
        (sym (and-false (nat_le (capacity script past (group_of script priority)) (load script past (group_of script priority)))))

-- so it is by what the pool keeps
pub makes_way_by : (script : Plan) (past : List Entry) (pool : Pool) (priority its : Priority) (full : Bool) → StandsFor script past pool → priority ≡ its
    → full ≡ (not (in_background pool.runners priority) && not (has_room pool.groups.foreground UserVisible))
    → (full && list_any (is_better priority) (waiting script past)) ≡ makes_way script past its
makes_way_by script past pool priority its full stands same is =
    ap (λ b. b && list_any (is_better priority) (waiting script past)) is
    ∙ rw (stands.runners) (makes_way_is script past pool priority stands) ∙ ap (makes_way script past) same
