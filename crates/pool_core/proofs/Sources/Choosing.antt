-- What a seat may take lies in its open queues, and the best offer is the best source.
-- Cited by `Pool::has_own_work`, `Pool::has_work`, `Pool::is_any_ready`, `Pool::offers`, `Calls/Takes`, `Jobs/Yields`, `Sources/Best`,
-- `Sources/Idling`.
use Rattle.task_model.specs.Refusal.{behaviour_of_job, effective_at}
use Rattle.task_model.specs.Jobs.{JobPosted, job_post_of, may_enter}
use Rattle.pool_core.proofs.Jobs.JobViews.{enters_parts}
use Rattle.pool_core.proofs.Jobs.JobQueues.{job_made}
use Rattle.list_laws.proofs.Elements.{slice_get_all}
use Rattle.list_laws.proofs.Values.{eqb-same, some-injective}
use Rattle.list_laws.specs.Lists.{keep}
use Rattle.pool_core.proofs.Accepted.{head_accepted, is_declared}
use Rattle.pool_core.proofs.Sources.Following.{lane_fits, sequence_made}
use Rattle.pool_core.proofs.Works.Room.{groups_have_room}
use Rattle.pool_core.specs.Calls.{is_own}
use Rattle.pool_core.specs.Choice.{HasOffer, IsBestOf, IsOffer, IsOffered, is_open, priority_in}
use Rattle.pool_core.specs.Pasts.{IsPoolScript}
use Rattle.pool_core.specs.Queues.{belongs, lane_of, queue_of, rank_as, same}
use Rattle.pool_core.specs.StandsFor.{StandsFor}
use Rattle.pool_core.specs.State.{lane_by}
use Rattle.pool_core.specs.declared.pool.Pool.{Pool}
use Rattle.pool_laws.proofs.Choice.Best.{only_best}
use Rattle.pool_laws.proofs.Choice.Candidates.{candidate_names, free_is_waiting, job_within, sequence_within, waiting_is_free, waiting_job, waiting_sequence}
use Rattle.pool_laws.proofs.Choice.Least.{best_is_best, no_best}
use Rattle.pool_laws.specs.Choice.{IsBest, IsFree, source_waiting, IsTakeable}
use Rattle.sequence_queue.specs.Ranked.{IsMadeFor, rank_below}
use Rattle.sequence_queue.specs.declared.rank.Rank.{Rank}
use Rattle.std.proofs.Common.{Bool, List, None, Option, Some, ap, arith, cond, false, inl, inr, length, refl, subst, sym, true, ℕ, ◌+◌, ◌<◌, ◌∙◌, ◌≡◌, ◌≤◌}
use Rattle.std.proofs.lemmas.Bool.{and_from, and_parts, eq-eqb, eqb-true, false≢true, not-true}
use Rattle.std.proofs.lemmas.List.Elements.{All-contains, All-contains_itself, All-weaker}
use Rattle.std.proofs.lemmas.Option.{none-some}
use Rattle.std.specs.Option.{IfSome, option_map, option_map_or}
use Rattle.std.specs.Prelude.{Contains, is_some, not, option_and_then, slice_get, ◌&&◌, ◌==◌, ◌||◌, ◌⊎◌}
use Rattle.task_base.specs.Groups.{is_best_effort}
use Rattle.task_base.specs.Plan.{Plan}
use Rattle.task_base.specs.Policy.{is_held_back}
use Rattle.task_base.specs.Runners.{seat_of, seat_of_kind, sequence_count}
use Rattle.task_base.specs.declared.entry.Entry.{Entry}
use Rattle.task_base.specs.declared.policy.Policy.{Policy}
use Rattle.task_base.specs.declared.script.Runner.{Runner}
use Rattle.task_base.specs.declared.source.TaskSource.{TaskSource}
use Rattle.task_base.specs.declared.source.TaskSource.TheVariants.{Job, Sequence}
use Rattle.task_model.specs.Capacity.{has_room}
use Rattle.task_model.specs.Keys.{Ready}
use Rattle.task_model.specs.Phase.{phase_of}
use Rattle.task_model.specs.Policies.{is_held, policy_of}
use Rattle.task_model.specs.Seats.{runs_sequence}
use Rattle.task_model.specs.Sequences.{head_of}
use Rattle.task_model.specs.Sources.{Candidate, best_of, goes_before, is_takeable, job_candidate, sequence_candidate, waiting}
use Rattle.task_traits.specs.Behaviour.{forbids}
use Rattle.task_traits.specs.declared.phase.Phase.{Phase}
use Rattle.task_traits.specs.declared.traits.Behaviour.{Behaviour}
use Rattle.task_traits.specs.declared.traits.Behaviour.TheVariants.{BlockShutdown}
use Rattle.task_traits.specs.declared.traits.Priority.{Priority}
use Rattle.task_traits.specs.declared.traits.Priority.TheVariants.{BestEffort, UserBlocking, UserVisible}
use Rattle.task_base.specs.declared.policy.Policy.TheVariants as policies
use Rattle.task_traits.specs.declared.phase.Phase.TheVariants as phases

-- the seat of a single-thread runner is a worker's
seat_above : (script : Plan) (runner seat : ℕ) → IsPoolScript script → seat_of script runner ≡ Some seat → 1 ≤ seat
seat_above script runner seat limits is = by_runner (slice_get script.runners runner) (slice_get_all _ script.runners runner limits.seats_fit) is
  where
    by_runner : (o : Option Runner) → IfSome o (λ r. (n : ℕ) → seat_of_kind r.kind ≡ Some n → (1 ≤ n) × (n ≤ script.workers))
        → option_and_then (λ r. seat_of_kind r.kind) o ≡ Some seat → 1 ≤ seat
    by_runner None fits none = absurd (none-some seat none)
    by_runner (Some r) fits is = (fits seat is).0

-- Which queues are open.

-- the policies that hold back the work of a queue hold back all of it, or none
pub held_by_queue : (past : List Entry) (priority : Priority) (best : Bool) → same (is_best_effort priority) best ≡ true
    → is_held past priority ≡ is_held past (priority_in best)
held_by_queue past priority best is = by_phase (phase_of past) (policy_of past) priority best is
  where
    by_phase : (phase : Phase) (policy : Policy) (p : Priority) (b : Bool) → same (is_best_effort p) b ≡ true
        → is_held_back phase policy p ≡ is_held_back phase policy (priority_in b)
    by_phase phases.Running policies.All p b is = refl
    by_phase phases.Running policies.Foreground BestEffort true is = refl
    by_phase phases.Running policies.Foreground BestEffort false is = absurd (false≢true is)
    by_phase phases.Running policies.Foreground UserVisible true is = absurd (false≢true is)
    by_phase phases.Running policies.Foreground UserVisible false is = refl
    by_phase phases.Running policies.Foreground UserBlocking true is = absurd (false≢true is)
    by_phase phases.Running policies.Foreground UserBlocking false is = refl
    by_phase phases.Running policies.Nothing p b is = refl
    by_phase phases.Started policy p b is = refl
    by_phase phases.Done policy p b is = refl

-- there is room for all of it, or for none
room_by_queue : (script : Plan) (past : List Entry) (priority : Priority) (best : Bool) → same (is_best_effort priority) best ≡ true
    → has_room script past priority ≡ has_room script past (priority_in best)
unfolding has_room
room_by_queue script past BestEffort true is = refl
room_by_queue script past BestEffort false is = absurd (false≢true is)
room_by_queue script past UserVisible true is = absurd (false≢true is)
room_by_queue script past UserVisible false is = refl
room_by_queue script past UserBlocking true is = absurd (false≢true is)
room_by_queue script past UserBlocking false is = refl

-- a queue is open where the phase is not against block work, the policy does not hold its work back, and there is room
open_is : (script : Plan) (past : List Entry) (pool : Pool) (best : Bool) → StandsFor script past pool
    → is_open pool best ≡ ((not (forbids (phase_of past) BlockShutdown) && not (is_held past (priority_in best))) && has_room script past (priority_in best))
open_is script past pool best stands = rw (stands.tracker, stands.runners)
    (ap (λ room. (not (forbids (phase_of past) BlockShutdown) && not (is_held past (priority_in best))) && room)
    (groups_have_room script past pool.groups (priority_in best) stands.script_fits stands.past_fits stands.groups))

-- a phase that lets some work start lets block work start
lets_block : (phase : Phase) (behaviour : Behaviour) → forbids phase behaviour ≡ false → forbids phase BlockShutdown ≡ false
lets_block phases.Running behaviour allowed = refl
lets_block phases.Started behaviour allowed = refl
lets_block phases.Done behaviour allowed = absurd (false≢true (sym allowed))

-- What the open queues of a seat hold, and what it may take.

-- a source that a queue holds has a candidate of the queue
pub held_is : (lane : ℕ) (best : Bool) (o : Option Candidate) (rank : Rank) → option_map rank_as (keep (belongs lane best) o) ≡ Some rank
    → (c : Candidate) × (o ≡ Some c) × (belongs lane best c ≡ true) × (rank_as c ≡ rank)
held_is lane best None rank is = absurd (none-some rank is)
held_is lane best (Some c) rank is = by_belongs (belongs lane best c) refl is
  where
    by_belongs : (b : Bool) → belongs lane best c ≡ b → option_map rank_as (cond b (Some c) None) ≡ Some rank
        → (d : Candidate) × (Some c ≡ Some d) × (belongs lane best d ≡ true) × (rank_as d ≡ rank)
    by_belongs true own is = (c, refl, own, some-injective is)
    by_belongs false own is = absurd (none-some rank is)

-- the seat of a source of lane 0, or of a seat's lane, lets this seat take it
seat_lets : (seat lane : ℕ) (o : Option ℕ) → ((only : ℕ) → o ≡ Some only → 1 ≤ only) → (lane ≡ 0) ⊎ (lane ≡ seat) → (lane_of o == lane) ≡ true
    → option_map_or (λ only. only == seat) o true ≡ true
seat_lets seat lane None above at is = refl
seat_lets seat lane (Some only) above at is = elim at [
  | inl shared ↦ absurd (omega (arith, eqb-true only lane is, shared, above only refl))
  | inr own ↦ eq-eqb only seat (eqb-true only lane is ∙ own)
]

-- the queues of a candidate's seat are there and made for it, the phase lets block work start, and a seat that it
-- states is a worker's
pub record HasQueue (script : Plan) (past : List Entry) (pool : Pool) (c : Candidate) : Type 0 where
  pub there : lane_of c.seat < script.workers + 1
  pub made : (best : Bool) → IsMadeFor (queue_of pool.lanes (lane_of c.seat) best) c.source
  pub lets : forbids (phase_of past) BlockShutdown ≡ false
  pub above : (only : ℕ) → c.seat ≡ Some only → 1 ≤ only

pub has_queue : (script : Plan) (past : List Entry) (pool : Pool) (source : TaskSource) (c : Candidate) → StandsFor script past pool
    → source_waiting script past source ≡ Some c → HasQueue script past pool c
has_queue script past pool (Sequence s) c stands is =
    let waits = waiting_sequence script past s c (sequence_within script past s c is).1 in
    let head : Ready = waits.0 in
    let accepted = head_accepted script past s head waits.2 in
    let declared = is_declared script past head.posted stands.past_fits accepted.0 in
    subst (HasQueue script past pool) waits.3 (record {
      there = lane_fits script head.posted.home stands.script_fits;
      made = subst (λ n. (best : Bool) → IsMadeFor (queue_of pool.lanes (lane_by script head.posted.home) best) (Sequence n)) accepted.1
          (sequence_made script pool.lanes head.posted.home head.posted.task stands.script_fits stands.queues.roomy declared.0 declared.1);
      lets = lets_block (phase_of past) (effective_at script head.posted.home head.posted.delay) accepted.3;
      above = λ only seated. seat_above script head.posted.home only stands.script_fits seated;
    })
has_queue script past pool (Job j) c stands is =
    let inside = job_within script past j c is in
    let waits = waiting_job script past j c inside.1 in
    subst (HasQueue script past pool) waits.3 (record {
      there = omega arith;
      made = λ best. job_made script pool.lanes best j stands.queues.roomy inside.0;
      lets = lets_block (phase_of past) (behaviour_of_job script j) (enters_parts script past j waits.1).1;
      above = λ only seated. absurd (none-some only seated);
    })

-- what a seat is offered it may take
offered_is : (script : Plan) (past : List Entry) (pool : Pool) (seat : ℕ) (source : TaskSource) (rank : Rank) → StandsFor script past pool
    → seat ≤ script.workers → IsOffer pool seat source rank → (c : Candidate) × IsTakeable script past seat c × (c.source ≡ source) × (rank_as c ≡ rank)
offered_is script past pool seat source rank stands known (lane, best, at, offered) =
    let there : lane < script.workers + 1 = lane_there at in
    let held = held_is lane best (source_waiting script past source) rank (sym ((stands.queues.places source).ranks lane best offered.made) ∙ offered.held) in
    let c = held.0 in
    let named : c.source ≡ source = candidate_names script past source c held.1 in
    let own : ((lane_of c.seat == lane) ≡ true) × (same (is_best_effort c.priority) best ≡ true) = and_parts _ _ held.2 in
    let parts = and_parts _ _ (sym (open_is script past pool best stands) ∙ offered.opened) in
    let free : is_held past c.priority ≡ false = held_by_queue past c.priority best own.1 ∙ not-true _ (and_parts _ _ parts.0).1 in (
      c,
      (
        free_is_waiting script past c (record { candidate = ap (source_waiting script past) named ∙ held.1; not_held = free }),
        and_from _ _ (room_by_queue script past c.priority best own.1 ∙ parts.1) (seat_lets seat lane c.seat (above c held.1) at own.0),
      ),
      named,
      held.3,
    )
  where
    lane_there : (lane ≡ 0) ⊎ (lane ≡ seat) → lane < script.workers + 1
    lane_there (inl shared) = omega (arith, shared)
    lane_there (inr own) = omega (arith, own, known)

    above : (c : Candidate) → source_waiting script past source ≡ Some c → (only : ℕ) → c.seat ≡ Some only → 1 ≤ only
    above c is = (has_queue script past pool source c stands is).above

-- what a seat may take its lane offers
takeable_in : (script : Plan) (past : List Entry) (pool : Pool) (seat : ℕ) (c : Candidate) → StandsFor script past pool → IsTakeable script past seat c
    → IsOffered pool (lane_of c.seat) (is_best_effort c.priority) c.source (rank_as c)
takeable_in script past pool seat c stands takeable =
    let free : IsFree script past c = waiting_is_free script past c takeable.0 in
    let queue = has_queue script past pool c.source c stands free.candidate in
    let roomy : has_room script past c.priority ≡ true = (and_parts (has_room script past c.priority) _ takeable.1).0 in
    record {
      opened = open_is script past pool (is_best_effort c.priority) stands ∙ and_from _ _ (and_from _ _
          (ap not queue.lets)
          (ap not (sym (held_by_queue past c.priority (is_best_effort c.priority) (own_queue c.priority)) ∙ free.not_held)))
          (sym (room_by_queue script past c.priority (is_best_effort c.priority) (own_queue c.priority)) ∙ roomy);
      made = queue.made (is_best_effort c.priority);
      held = (stands.queues.places c.source).ranks (lane_of c.seat) (is_best_effort c.priority) (queue.made (is_best_effort c.priority))
          ∙ rw (free.candidate, eqb-same (lane_of c.seat), own_queue c.priority) refl;
    }
  where
    own_queue : (priority : Priority) → same (is_best_effort priority) (is_best_effort priority) ≡ true
    own_queue BestEffort = refl
    own_queue UserVisible = refl
    own_queue UserBlocking = refl

-- that lane is the seat's own where the source is for one seat alone
takeable_at : (script : Plan) (past : List Entry) (seat : ℕ) (c : Candidate) (only : ℕ) → IsTakeable script past seat c → c.seat ≡ Some only → only ≡ seat
takeable_at script past seat c only takeable is =
    eqb-true only seat (subst (λ o. option_map_or (λ n. n == seat) o true ≡ true) is (and_parts (has_room script past c.priority) _ takeable.1).1)

-- so it is offered what it may take
takeable_is : (script : Plan) (past : List Entry) (pool : Pool) (seat : ℕ) (c : Candidate) → StandsFor script past pool → IsTakeable script past seat c
    → IsOffer pool seat c.source (rank_as c)
takeable_is script past pool seat c stands takeable =
    (lane_of c.seat, is_best_effort c.priority, at c.seat refl, takeable_in script past pool seat c stands takeable)
  where
    at : (o : Option ℕ) → c.seat ≡ o → (lane_of o ≡ 0) ⊎ (lane_of o ≡ seat)
    at None is = inl refl
    at (Some only) is = inr (takeable_at script past seat c only takeable is)

-- it may take a source where there is one that it may take
pub takes_one : (script : Plan) (past : List Entry) (seat : ℕ) (c : Candidate) → IsTakeable script past seat c → is_some (best_of script past seat) ≡ true
takes_one script past seat c takeable = by_best (best_of script past seat) refl
  where
    by_best : (o : Option Candidate) → best_of script past seat ≡ o → is_some o ≡ true
    by_best (Some best) is = refl
    by_best None is = absurd (false≢true (sym (All-contains (λ d. is_takeable script past seat d ≡ false) (waiting script past) c
        (no_best script past seat is) takeable.0) ∙ takeable.1))

-- the best of what the open queues of a seat hold is the best source that it may take
pub best_offer : (script : Plan) (past : List Entry) (pool : Pool) (seat : ℕ) (result : Option (TaskSource × Rank)) → StandsFor script past pool
    → seat ≤ script.workers → IsBestOf (IsOffer pool seat) result → result ≡ option_map (λ c. (c.source, rank_as c)) (best_of script past seat)
best_offer script past pool seat None stands known best = by_best (best_of script past seat) refl
  where
    by_best : (o : Option Candidate) → best_of script past seat ≡ o → ◌≡◌ {A = Option (TaskSource × Rank)} None (option_map (λ c. (c.source, rank_as c)) o)
    by_best None is = refl
    by_best (Some c) is = absurd (best c.source (rank_as c) (takeable_is script past pool seat c stands (best_is_best script past seat c is).takeable))
best_offer script past pool seat (Some (source, rank)) stands known (offered, first) =
    let found = offered_is script past pool seat source rank stands known offered in
    let c = found.0 in
    let best : IsBest script past seat c = record {
      takeable = found.1;
      none_before = All-weaker (Contains (waiting script past)) (λ d. is_takeable script past seat d ≡ true → goes_before d c ≡ false)
          (λ d waits takeable. ap (rank_below (rank_as d)) found.3
          ∙ first d.source (rank_as d) (takeable_is script past pool seat d stands (waits, takeable)))
          (waiting script past) (All-contains_itself (waiting script past));
    } in
    rw (only_best script past seat c best, found.2, found.3) refl

-- a lane holds a source in one of its queues, or in none
pub either_offers : (pool : Pool) (lane : ℕ) (others best_effort : Option (TaskSource × Rank)) → IsBestOf (IsOffered pool lane false) others
    → IsBestOf (IsOffered pool lane true) best_effort → HasOffer pool lane (is_some others || is_some best_effort)
either_offers pool lane (Some (source, rank)) best_effort (offered, first) of_best = (false, source, rank, offered)
either_offers pool lane None (Some (source, rank)) none (offered, first) = (true, source, rank, offered)
either_offers pool lane None None none none_best = neither
  where
    neither : (best : Bool) (source : TaskSource) (rank : Rank) → ¬ IsOffered pool lane best source rank
    neither true = none_best
    neither false = none

-- what one of its lanes offers a seat may take
pub lane_tells : (script : Plan) (past : List Entry) (pool : Pool) (seat lane : ℕ) → StandsFor script past pool → seat ≤ script.workers
    → (lane ≡ 0) ⊎ (lane ≡ seat) → HasOffer pool lane true → is_some (best_of script past seat) ≡ true
lane_tells script past pool seat lane stands known at (best, source, rank, offered) =
    let found = offered_is script past pool seat source rank stands known (lane, best, at, offered) in
    takes_one script past seat found.0 found.1

-- so what both offer tells whether it may take a source
pub offers_tell : (script : Plan) (past : List Entry) (pool : Pool) (seat : ℕ) (shared own : Bool) → StandsFor script past pool → seat ≤ script.workers
    → HasOffer pool 0 shared → HasOffer pool seat own → (shared || own) ≡ is_some (best_of script past seat)
offers_tell script past pool seat true own stands known of_shared of_own = sym (lane_tells script past pool seat 0 stands known (inl refl) of_shared)
offers_tell script past pool seat false true stands known not_shared of_own = sym (lane_tells script past pool seat seat stands known (inr refl) of_own)
offers_tell script past pool seat false false stands known not_shared not_own = by_best (best_of script past seat) refl
  where
    never : (c : Candidate) → IsOffer pool seat c.source (rank_as c) → ⊥
    never c (lane, best, inl shared, offered) =
        not_shared best c.source (rank_as c) (subst (λ l. IsOffered pool l best c.source (rank_as c)) shared offered)
    never c (lane, best, inr own, offered) = not_own best c.source (rank_as c) (subst (λ l. IsOffered pool l best c.source (rank_as c)) own offered)

    by_best : (o : Option Candidate) → best_of script past seat ≡ o → false ≡ is_some o
    by_best None is = refl
    by_best (Some c) is = absurd (never c (takeable_is script past pool seat c stands (best_is_best script past seat c is).takeable))

-- where the seat's own lane offers nothing, its best source is not for it alone
pub offers_none : (script : Plan) (past : List Entry) (pool : Pool) (seat : ℕ) → StandsFor script past pool → HasOffer pool seat false
    → is_own (best_of script past seat) ≡ false
offers_none script past pool seat stands none = by_best (best_of script past seat) refl
  where
    seated : (c : Candidate) → IsTakeable script past seat c → (o : Option ℕ) → c.seat ≡ o → is_some o ≡ false
    seated c takeable None is = refl
    seated c takeable (Some only) is = absurd (none (is_best_effort c.priority) c.source (rank_as c)
        (subst (λ l. IsOffered pool l (is_best_effort c.priority) c.source (rank_as c)) (ap lane_of is ∙ takeable_at script past seat c only takeable is)
        (takeable_in script past pool seat c stands takeable)))

    by_best : (o : Option Candidate) → best_of script past seat ≡ o → is_own o ≡ false
    by_best None is = refl
    by_best (Some c) is = seated c (best_is_best script past seat c is).takeable c.seat refl

-- where that is a sequence, it does not run, and has a head
pub best_is_sequence : (script : Plan) (past : List Entry) (seat s : ℕ) (c : Candidate) → best_of script past seat ≡ Some c → c.source ≡ Sequence s
    → (head : Ready) × (s < sequence_count script) × (runs_sequence script past s ≡ false) × (head_of script past s ≡ Some head)
    × (sequence_candidate script past s head ≡ c)
best_is_sequence script past seat s c is named =
    let free : IsFree script past c = waiting_is_free script past c (best_is_best script past seat c is).takeable.0 in
    let inside = sequence_within script past s c (ap (source_waiting script past) (sym named) ∙ free.candidate) in
    let waits = waiting_sequence script past s c inside.1 in
    (waits.0, inside.0, waits.1, waits.2, waits.3)

-- where it is a job, it may be entered, and was posted
pub best_is_job : (script : Plan) (past : List Entry) (seat j : ℕ) (c : Candidate) → best_of script past seat ≡ Some c → c.source ≡ Job j
    → (post : JobPosted) × (j < length script.jobs) × (may_enter script past j ≡ true) × (job_post_of past j ≡ Some post)
    × (job_candidate script past j post ≡ c)
best_is_job script past seat j c is named =
    let free : IsFree script past c = waiting_is_free script past c (best_is_best script past seat c is).takeable.0 in
    let inside = job_within script past j c (ap (source_waiting script past) (sym named) ∙ free.candidate) in
    let waits = waiting_job script past j c inside.1 in
    (waits.0, inside.0, waits.1, waits.2, waits.3)
