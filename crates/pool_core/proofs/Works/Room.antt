-- The groups have room exactly where the rules say so.
-- Cited by `Jobs/Yields`, `Sources/Choosing`, `Sources/Idling`.
use Rattle.list_laws.specs.Lists.{count, holds_of}
use Rattle.pool_core.proofs.Works.GroupWorks.{group_stands, part, works_by}
use Rattle.pool_core.proofs.Lists.{count_inside, count_places, kept_holds, kept_is_some}
use Rattle.pool_core.specs.Groups.{AreGroups, StandsForGroup, group_in, in_background, opened_as, pool_work, scope_of, work_of}
use Rattle.pool_core.specs.Pasts.{IsPoolPast, IsPoolScript}
use Rattle.pool_core.specs.declared.groups.Groups.{Groups}
use Rattle.pool_laws.proofs.Seats.Running.{taken_where_runs}
use Rattle.std.proofs.Common.{Bool, List, None, Option, Some, ap, arith, cond, false, get_or, inl, inr}
use Rattle.std.proofs.Common.{length, refl, suc, sym, true, ℕ, ◌+◌, ◌-◌, ◌<◌, ◌∙◌, ◌≡◌, ◌≤◌}
use Rattle.std.proofs.lemmas.Bool.{cases_lt, lt-ltb, ltb-true, not-true}
use Rattle.std.proofs.lemmas.List.{get_or_past}
use Rattle.std.proofs.lemmas.Option.{unwrap_or-slice_get}
use Rattle.std.specs.List.{range_with_len}
use Rattle.std.specs.Option.{option_map}
use Rattle.std.specs.Prelude.{is_some, nat_lt, not, ◌&&◌, ◌⊎◌}
use Rattle.task_base.specs.Groups.{Foreground, Group, group_of, is_best_effort}
use Rattle.task_base.specs.Plan.{Plan}
use Rattle.task_base.specs.declared.entry.Entry.{Entry}
use Rattle.task_base.specs.declared.limits.TheConstants.{MOST_WORKERS}
use Rattle.task_model.specs.Capacity.{is_best_in, is_in, open_scope, priority_of_holding, taken_with}
use Rattle.task_traits.specs.declared.traits.Priority.TheVariants.{UserVisible}
use Rattle.std.proofs.Math.Bool.{and-false, and-true, and_assoc}
use Rattle.task_model.specs.Seats.{Holding, Running, holding, running, worker_seats}
use Rattle.task_model.specs.Time.{now_of}
use Rattle.task_traits.specs.declared.traits.Priority.{Priority}
use Rattle.thread_group.specs.Group.{GroupWork, has_room, load}
use Rattle.thread_group.specs.Work.{is_best, is_best_blocked, is_blocked, scope_counts}
use Rattle.thread_group.specs.declared.work.Work.{Work}
use Rattle.thread_group.specs.declared.work.OpenScope as scopes
use Rattle.task_model.specs.Capacity as capacities

-- a seat that is no worker's does no work of the pool
idle_outside : (script : Plan) (past : List Entry) (seat : ℕ) → IsPoolPast script past → (1 ≤ seat → seat ≤ script.workers → ⊥)
    → pool_work script past seat ≡ None
idle_outside script past seat fits outside = by_order (nat_lt 0 seat) refl
  where
    none : (run : Option Running) (taken : Option Priority) (held : Option Holding) → 1 ≤ seat → running past seat ≡ run
        → is_some taken ≡ holds_of (λ w. not w.is_main) run → holding past seat ≡ held → works_by script past run taken held ≡ None
    none None taken None worker runs counts holds = refl
    none None taken (Some h) worker runs counts holds = absurd (outside worker (fits.inside.holds seat h holds).known)
    none (Some w) None held worker runs counts holds = refl
    none (Some w) (Some priority) held worker runs counts holds =
        absurd (outside worker (fits.singly.runs seat w runs (not-true w.is_main (sym counts))).can.known)

    by_order : (b : Bool) → nat_lt 0 seat ≡ b
        → cond b (works_by script past (running past seat) (taken_with script past seat) (holding past seat)) None ≡ None
    by_order false driver = refl
    by_order true worker = none (running past seat) (taken_with script past seat) (holding past seat) (ltb-true 0 seat worker) refl
        (taken_where_runs script past seat) refl

-- what passes a test of a group's places, where each worker's work passes it exactly where the worker passes another
counted : (script : Plan) (past : List Entry) (group : Group) (work : GroupWork) (test : Option Work → Bool) (mine : ℕ → Bool) → IsPoolScript script
    → IsPoolPast script past → StandsForGroup script past group work → test None ≡ false
    → ((seat : ℕ) → test (part script group (works_by script past (running past seat) (taken_with script past seat) (holding past seat))) ≡ mine seat)
    → count test work.seats ≡ count mine (worker_seats script)
counted script past group work test mine limits fits stands none same =
    count_places test work.seats None ∙ ap (λ n. count (λ k. test (get_or work.seats k None)) (range_with_len 0 n)) long
    ∙ count_inside (λ k. test (get_or work.seats k None)) mine script.workers (MOST_WORKERS - script.workers)
    (place 0 (omega arith) ∙ outside 0 (λ from to. omega (arith, from)))
    (λ k from to. place k (omega (arith, to, limits.workers_fit)) ∙ rw (lt-ltb 0 k from) (same k))
    (λ k from. behind k from (cases_lt k (MOST_WORKERS + 1)))
  where
    long : length work.seats ≡ suc (script.workers + (MOST_WORKERS - script.workers))
    long = omega (arith, stands.places, limits.workers_fit)

    place : (k : ℕ) → k < MOST_WORKERS + 1 → test (get_or work.seats k None) ≡ test (part script group (pool_work script past k))
    place k less = ap test (sym (unwrap_or-slice_get work.seats k None) ∙ stands.seats k less)

    outside : (k : ℕ) → (1 ≤ k → k ≤ script.workers → ⊥) → test (part script group (pool_work script past k)) ≡ false
    outside k no_worker = ap (λ o. test (part script group o)) (idle_outside script past k fits no_worker) ∙ none

    behind : (k : ℕ) → 1 + script.workers ≤ k → (k < MOST_WORKERS + 1) ⊎ (MOST_WORKERS + 1 ≤ k) → test (get_or work.seats k None) ≡ false
    behind k from (inl less) = place k less ∙ outside k (λ one to. omega (arith, from, to))
    behind k from (inr past_end) = ap test (get_or_past work.seats k None (omega (arith, past_end, stands.places))) ∙ none

-- work of a priority, if of any: whether it counts
load_by : (script : Plan) (group : Group) (scope : Option scopes.OpenScope) (o : Option Priority)
    → is_some (part script group (option_map (work_of scope) o)) ≡ holds_of (is_in script group) o
load_by script group scope None = refl
load_by script group scope (Some priority) = kept_is_some (is_in script group priority) (work_of scope priority)

best_load_by : (script : Plan) (group : Group) (scope : Option scopes.OpenScope) (o : Option Priority)
    → holds_of is_best (part script group (option_map (work_of scope) o)) ≡ holds_of (is_best_in script group) o
best_load_by script group scope None = refl
best_load_by script group scope (Some priority) = kept_holds is_best (is_in script group priority) (work_of scope priority)

-- so a group does as much as the rules say
pub load_is : (script : Plan) (past : List Entry) (group : Group) (work : GroupWork) → IsPoolScript script → IsPoolPast script past
    → StandsForGroup script past group work → load work ≡ capacities.load_of script past (is_in script group)
load_is script past group work limits fits stands = counted script past group work is_some
    (λ seat. holds_of (is_in script group) (capacities.work_at script past seat)) limits fits stands refl
    (λ seat. load_by script group (scope_of past (running past seat)) (capacities.work_at script past seat))

scope_counts_as : (script : Plan) (past : List Entry) (o : Option capacities.OpenScope)
    → holds_of (scope_counts script.threshold (now_of past)) (option_map opened_as o) ≡ holds_of (capacities.scope_counts script past) o
scope_counts_as script past None = refl
scope_counts_as script past (Some opened) = refl

-- and whether it counts as blocked, where it passes one more test
abbrev is_blocked_in : Plan → List Entry → (Priority → Bool) → Work → Bool
is_blocked_in script past more work = more work.priority && is_blocked script.threshold (now_of past) work

blocked_by : (script : Plan) (past : List Entry) (group : Group) (more test : Priority → Bool)
    → ((priority : Priority) → (is_in script group priority && more priority) ≡ test priority)
    → (run : Option Running) (taken : Option Priority) (held : Option Holding)
    → holds_of (is_blocked_in script past more) (part script group (works_by script past run taken held))
    ≡ holds_of (λ w. holds_of test taken && holds_of (capacities.scope_counts script past) (open_scope past w.task)) run
blocked_by script past group more test same None taken held = none (priority_of_holding script held)
  where
    none : (o : Option Priority) → holds_of (is_blocked_in script past more) (part script group (option_map (work_of None) o)) ≡ false
    none None = refl
    none (Some priority) = kept_holds (is_blocked_in script past more) (is_in script group priority) (work_of None priority)
        ∙ rw (and-false (more priority)) (and-false (is_in script group priority))
blocked_by script past group more test same (Some w) None held = refl
blocked_by script past group more test same (Some w) (Some priority) held =
    let counts : Bool = holds_of (capacities.scope_counts script past) (open_scope past w.task) in
    kept_holds (is_blocked_in script past more) (is_in script group priority) (work_of (scope_of past (Some w)) priority)
    ∙ ap (λ b. is_in script group priority && (more priority && b)) (scope_counts_as script past (open_scope past w.task))
    ∙ sym (and_assoc (is_in script group priority) (more priority) counts) ∙ ap (λ b. b && counts) (same priority)

-- a group has room where the rules say so of it
room_is : (script : Plan) (past : List Entry) (group : Group) (work : GroupWork) (priority : Priority) → IsPoolScript script → IsPoolPast script past
    → StandsForGroup script past group work → has_room work priority ≡ capacities.has_room_in script past group priority
unfolding capacities.load capacities.capacity capacities.best_load capacities.best_capacity
room_is script past group work priority limits fits stands = rw (
  load_is script past group work limits fits stands,
  counted script past group work (holds_of is_best) (λ seat. holds_of (is_best_in script group) (capacities.work_at script past seat))
      limits fits stands refl (λ seat. best_load_by script group (scope_of past (running past seat)) (capacities.work_at script past seat)),
  counted script past group work (holds_of (is_blocked work.threshold work.moment)) (capacities.is_blocked script past (is_in script group))
      limits fits stands refl (λ seat. rw (stands.threshold_is, stands.moment_is) (blocked_by script past group (λ p. true) (is_in script group)
      (λ p. and-true (is_in script group p)) (running past seat) (taken_with script past seat) (holding past seat))),
  counted script past group work (holds_of (is_best_blocked work.threshold work.moment)) (capacities.is_blocked script past (is_best_in script group))
      limits fits stands refl (λ seat. rw (stands.threshold_is, stands.moment_is) (blocked_by script past group is_best_effort (is_best_in script group)
      (λ p. refl) (running past seat) (taken_with script past seat) (holding past seat))),
  stands.limit_is,
  stands.best_limit_is,
) refl

-- a group has room for work of any other priority exactly where it runs less than it may
pub room_for_any : (script : Plan) (past : List Entry) (groups : Groups) → IsPoolScript script → IsPoolPast script past → AreGroups script past groups
    → has_room groups.foreground UserVisible ≡ nat_lt (capacities.load script past Foreground) (capacities.capacity script past Foreground)
room_for_any script past groups limits fits are = room_is script past Foreground groups.foreground UserVisible limits fits are.foreground
    ∙ and-true (nat_lt (capacities.load script past Foreground) (capacities.capacity script past Foreground))

-- the groups have room exactly where the rules say so
pub groups_have_room : (script : Plan) (past : List Entry) (groups : Groups) (priority : Priority) → IsPoolScript script → IsPoolPast script past
    → AreGroups script past groups
    → has_room (group_in groups (in_background script priority)) priority ≡ capacities.has_room script past priority
unfolding capacities.has_room
groups_have_room script past groups priority limits fits are = room_is script past (group_of script priority)
    (group_in groups (in_background script priority)) priority limits fits (group_stands script past groups priority are)
