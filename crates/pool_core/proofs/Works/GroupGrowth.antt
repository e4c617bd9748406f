-- The two groups at each entry.
-- Cited by `Calls/EmptyPool`, `Calls/Ends`, `Calls/Others`, `Calls/Posts`, `Calls/Reprio`, `Calls/Scopes`, `Calls/Shutdown`, `Calls/Takes`,
-- `Calls/Ticks`, `Jobs/JobStands`, `Jobs/JobSteps`.
use Rattle.list_laws.proofs.Values.{eqb-same}
use Rattle.pool_core.proofs.Works.GroupWorks.{group_kept, groups_moved, groups_moved_here, moment_of, no_work}
use Rattle.pool_core.proofs.Works.GroupWorks.{not_same_task, other_kept, part, runner_holds_nothing}
use Rattle.pool_core.proofs.Works.GroupWorks.{seat_there, still_kept, task_of_pool, with_seat, work_of_item, work_of_task, works_here}
use Rattle.pool_core.specs.Calls.{after_end, after_enter, after_leave, after_tick}
use Rattle.pool_core.specs.Groups.{AreGroups, StandsForGroup, empty_group, empty_groups, group_at, is_background}
use Rattle.pool_core.specs.Groups.{opened_as, pool_work, ticked, with_group_at, work_of}
use Rattle.pool_core.specs.Others.{group_parts}
use Rattle.pool_core.specs.Pasts.{IsPoolPast, IsPoolScript}
use Rattle.pool_core.specs.declared.groups.Groups.{Groups}
use Rattle.pool_laws.proofs.Room.Capacity.{scope_kept}
use Rattle.pool_laws.proofs.Seats.Running.{holding_here, holding_same, running_here, running_same, taken_here, taken_same}
use Rattle.pool_laws.specs.Room.{scopes as scopes_of}
use Rattle.pool_laws.specs.Seats.{moves_holding, moves_running, running_parts}
use Rattle.std.proofs.Common.{Bool, List, None, Option, Some, [], ap, eqb, false, refl, sym, true, ℕ, ◌++◌, ◌+◌, ◌<◌, ◌∙◌, ◌∷◌, ◌≡◌, ◌≤◌}
use Rattle.std.proofs.lemmas.Bool.{eqb-true, ne_eqb}
use Rattle.std.proofs.lemmas.List.{get_or-replicate}
use Rattle.std.proofs.lemmas.Option.{unwrap_or-slice_get}
use Rattle.std.specs.Option.{option_map}
use Rattle.std.specs.Prelude.{replicate}
use Rattle.task_base.specs.Groups.{Background, Foreground, Group}
use Rattle.task_base.specs.Plan.{Plan}
use Rattle.task_base.specs.declared.entry.Entry.{Entry}
use Rattle.task_base.specs.declared.limits.TheConstants.{MOST_WORKERS}
use Rattle.task_base.specs.declared.step.Scope.{Scope}
use Rattle.task_model.proofs.Growth.{now_of_push, open_scope_push}
use Rattle.task_model.specs.Capacity.{best_limit, limit, open_scope, priority_of, priority_of_job, taken_with}
use Rattle.task_model.specs.Seats.{Holding, Running, holding, running}
use Rattle.task_traits.specs.declared.traits.Priority.{Priority}
use Rattle.task_model.specs.Time.{now_of}
use Rattle.thread_group.specs.Group.{GroupWork, with_scope, with_work}
use Rattle.thread_group.specs.declared.work.OpenScope as scopes
use Rattle.task_base.specs.declared.entry.Kind.TheVariants as kinds
use Rattle.task_base.specs.Entries.{next}
use Rattle.task_model.specs.Capacity as capacities
use Rattle.pool_laws.specs.Moves.{Moment, Scopes, Items, moves}
use Rattle.pool_laws.proofs.Moves.{moves_fewer, same_moment, no_scope}

pub groups_at_start : (script : Plan) → AreGroups script [] (empty_groups script)
unfolding now_of running holding
groups_at_start script = record {
  foreground = start Foreground script.foreground script.foreground_best refl refl;
  background = start Background script.background script.background refl refl;
}
  where
    start : (group : Group) (all best : ℕ) → all ≡ limit script group → best ≡ best_limit script group
        → StandsForGroup script [] group (empty_group all best script.threshold)
    start group all best all_is best_is = record {
      limit_is = all_is;
      best_limit_is = best_is;
      threshold_is = refl;
      moment_is = refl;
      places = refl;
      seats = λ seat less. unwrap_or-slice_get (replicate (MOST_WORKERS + 1) None) seat None ∙ get_or-replicate (MOST_WORKERS + 1) seat None None less
          ∙ sym (ap (part script group) (no_work script [] seat refl refl));
    }

pub groups_at_take : (script : Plan) (past : List Entry) (groups : Groups) (seat task runner found : ℕ) → IsPoolScript script → AreGroups script past groups
    → 1 ≤ seat → seat ≤ script.workers → running past seat ≡ None → holding past seat ≡ None → open_scope past task ≡ None
    → AreGroups script (next past seat (kinds.Take task runner found))
    (with_seat script groups seat (priority_of script past runner) (Some (work_of None (priority_of script past runner))))
groups_at_take script past groups seat task runner found limits are worker known free nothing closed =
    let e : Entry = record { seat = seat; kind = kinds.Take task runner found } in
    groups_moved script past (past ++ e ∷ []) groups seat (priority_of script past runner) None (Some None) are (record {
      now = now_of_push past e;
      there = seat_there script seat limits known;
      was = no_work script past seat free nothing;
      is = work_of_task script (past ++ e ∷ []) seat (record { task = task; home = runner; found = found; is_main = false }) (priority_of script past runner)
          worker (running_here past e seat (eqb-same seat)) (taken_here script past e seat (eqb-same seat)) ∙ rw (scope_kept past e task refl, closed) refl;
      others = λ other another. other_kept script past e other (ne_eqb seat other (λ same. another (sym same))) (λ w runs pool. refl);
    })

pub groups_at_end : (script : Plan) (past : List Entry) (groups : Groups) (seat left : ℕ) (w : Running) → IsPoolScript script → IsPoolPast script past
    → AreGroups script past groups → running past seat ≡ Some w → w.is_main ≡ false
    → AreGroups script (after_end past seat w.task left) (with_group_at groups seat (with_work (group_at groups seat) seat None))
groups_at_end script past groups seat left w limits fits are runs pool =
    let e : Entry = record { seat = seat; kind = kinds.End w.task left } in
    let does = task_of_pool script past seat w fits runs pool in
    groups_moved_here script past (past ++ e ∷ []) groups seat does.0 (option_map opened_as (open_scope past w.task)) None are (record {
      now = now_of_push past e;
      there = seat_there script seat limits (fits.singly.runs seat w runs pool).can.known;
      was = does.2;
      is = no_work script (past ++ e ∷ []) seat (running_here past e seat (eqb-same seat))
          (holding_same past e seat refl ∙ runner_holds_nothing script past seat w fits runs pool);
      others = λ other another. other_kept script past e other (ne_eqb seat other (λ same. another (sym same))) (λ v its main. refl);
    })

-- the seat's task opens or closes a scope
scope_moved : (script : Plan) (past : List Entry) (groups : Groups) (e : Entry) (w : Running) (after : Option capacities.OpenScope)
    → IsPoolScript script → IsPoolPast script past → AreGroups script past groups → running past e.seat ≡ Some w → w.is_main ≡ false
    → moves_running e.kind ≡ false → moves_holding e.kind ≡ false → now_of (past ++ e ∷ []) ≡ now_of past
    → ((t : ℕ) → eqb w.task t ≡ false → scopes_of t e.kind ≡ false)
    → open_scope (past ++ e ∷ []) w.task ≡ after
    → AreGroups script (past ++ e ∷ []) (with_group_at groups e.seat (with_scope (group_at groups e.seat) e.seat (option_map opened_as after)))
scope_moved script past groups e w after limits fits are runs pool still leaves now apart is =
    rw (works_here script past groups e.seat (work_of before does.0) are there does.2)
    (groups_moved_here script past (past ++ e ∷ []) groups e.seat does.0 before (Some (option_map opened_as after)) are (record {
      now = now;
      there = there;
      was = does.2;
      is = work_of_task script (past ++ e ∷ []) e.seat w does.0 ((fits.singly.runs e.seat w runs pool).can.worker refl)
          (running_same past e e.seat still ∙ runs) (taken_same script past e e.seat still ∙ does.1) ∙ rw is refl;
      others = λ other another. still_kept script past e other still leaves
          (λ v its main. apart v.task (not_same_task script past e.seat other w v fits runs pool its main another));
    }))
  where
    before : Option scopes.OpenScope
    before = option_map opened_as (open_scope past w.task)

    does : (priority : Priority) × (taken_with script past e.seat ≡ Some priority) × (pool_work script past e.seat ≡ Some (work_of before priority))
    does = task_of_pool script past e.seat w fits runs pool

    there : e.seat < MOST_WORKERS + 1
    there = seat_there script e.seat limits (fits.singly.runs e.seat w runs pool).can.known

pub groups_at_enter : (script : Plan) (past : List Entry) (groups : Groups) (seat : ℕ) (scope : Scope) (w : Running) → IsPoolScript script
    → IsPoolPast script past → AreGroups script past groups → running past seat ≡ Some w → w.is_main ≡ false
    → AreGroups script (after_enter past seat w.task scope)
    (let group = group_at groups seat in
    with_group_at groups seat (with_scope group seat (Some (record { scope = scope; since = group.moment }))))
groups_at_enter script past groups seat scope w limits fits are runs pool =
    let e : Entry = record { seat = seat; kind = kinds.Enter w.task scope } in
    scope_moved script past groups e w (Some (record { scope = scope; since = (group_at groups seat).moment })) limits fits are runs pool refl refl
    (now_of_push past e) (λ t other. other)
    (open_scope_push past e w.task ∙ rw (eqb-same w.task, moment_of script past groups (is_background groups seat) are) refl)

pub groups_at_leave : (script : Plan) (past : List Entry) (groups : Groups) (seat : ℕ) (w : Running) → IsPoolScript script
    → IsPoolPast script past → AreGroups script past groups → running past seat ≡ Some w → w.is_main ≡ false
    → AreGroups script (after_leave past seat w.task) (with_group_at groups seat (with_scope (group_at groups seat) seat None))
groups_at_leave script past groups seat w limits fits are runs pool =
    let e : Entry = record { seat = seat; kind = kinds.Leave w.task } in
    scope_moved script past groups e w None limits fits are runs pool refl refl (now_of_push past e) (λ t other. other)
    (open_scope_push past e w.task ∙ rw (eqb-same w.task) refl)

pub groups_at_tick : (script : Plan) (past : List Entry) (groups : Groups) (seat moment : ℕ) → AreGroups script past groups
    → AreGroups script (after_tick past seat moment) (ticked groups moment)
groups_at_tick script past groups seat moment are =
    record { foreground = by_group Foreground groups.foreground are.foreground; background = by_group Background groups.background are.background }
  where
    e : Entry
    e = record { seat = seat; kind = kinds.Tick moment }

    by_group : (group : Group) (work : GroupWork) → StandsForGroup script past group work
        → StandsForGroup script (past ++ e ∷ []) group (record work { moment = moment })
    by_group group work stands = record {
      limit_is = stands.limit_is;
      best_limit_is = stands.best_limit_is;
      threshold_is = stands.threshold_is;
      moment_is = sym (now_of_push past e);
      places = stands.places;
      seats = λ x less. stands.seats x less
          ∙ ap (part script group) (sym (still_kept script past e x refl refl (λ w runs pool. refl)));
    }

-- each group where each seat does what it did
groups_same : (script : Plan) (past later : List Entry) (groups : Groups) → now_of later ≡ now_of past
    → ((seat : ℕ) → pool_work script later seat ≡ pool_work script past seat) → AreGroups script past groups → AreGroups script later groups
groups_same script past later groups now same are = record {
  foreground = group_kept script past later Foreground groups.foreground are.foreground now (λ seat. ap (part script Foreground) (same seat));
  background = group_kept script past later Background groups.background are.background now (λ seat. ap (part script Background) (same seat));
}

-- a post, and an entry that is not the groups'
pub groups_kept : (script : Plan) (past : List Entry) (e : Entry) (groups : Groups) → moves group_parts e.kind ≡ false
    → AreGroups script past groups → AreGroups script (past ++ e ∷ []) groups
groups_kept script past e groups still are =
    groups_same script past (past ++ e ∷ []) groups (now_of_push past e ∙ same_moment group_parts e.kind refl still (now_of past))
    (λ seat. still_kept script past e seat (moves_fewer running_parts group_parts e.kind refl still)
    (moves_fewer (Items ∷ []) group_parts e.kind refl still) (λ w runs pool. no_scope group_parts e.kind refl still w.task)) are

-- what the driver takes, enters and ends is no work of the groups
pub groups_at_driver : (script : Plan) (past : List Entry) (e : Entry) (groups : Groups) → moves (Moment ∷ Scopes ∷ []) e.kind ≡ false → e.seat ≡ 0
    → AreGroups script past groups → AreGroups script (past ++ e ∷ []) groups
groups_at_driver script past e groups still driver are =
    groups_same script past (past ++ e ∷ []) groups (now_of_push past e ∙ same_moment (Moment ∷ Scopes ∷ []) e.kind refl still (now_of past))
    (λ seat. by_seat seat (eqb e.seat seat) refl) are
  where
    by_seat : (seat : ℕ) (b : Bool) → eqb e.seat seat ≡ b → pool_work script (past ++ e ∷ []) seat ≡ pool_work script past seat
    by_seat seat true is = rw (← eqb-true e.seat seat is, driver) refl
    by_seat seat false is = other_kept script past e seat is (λ w runs pool. no_scope (Moment ∷ Scopes ∷ []) e.kind refl still w.task)

-- Items of jobs.

-- a worker enters a job
pub groups_at_item : (script : Plan) (past : List Entry) (groups : Groups) (seat job id item : ℕ) → IsPoolScript script → AreGroups script past groups
    → 1 ≤ seat → seat ≤ script.workers → running past seat ≡ None → holding past seat ≡ None
    → AreGroups script (next past seat (kinds.JobTake job id item))
    (with_seat script groups seat (priority_of_job script job) (Some (work_of None (priority_of_job script job))))
groups_at_item script past groups seat job id item limits are worker known free nothing =
    let e : Entry = record { seat = seat; kind = kinds.JobTake job id item } in
    groups_moved script past (past ++ e ∷ []) groups seat (priority_of_job script job) None (Some None) are (record {
      now = now_of_push past e;
      there = seat_there script seat limits known;
      was = no_work script past seat free nothing;
      is = work_of_item script (past ++ e ∷ []) seat (record { job = job; id = id; item = item }) worker (running_same past e seat refl ∙ free)
          (holding_here past e seat (eqb-same seat));
      others = λ other another. other_kept script past e other (ne_eqb seat other (λ same. another (sym same))) (λ w runs pool. refl);
    })

-- a worker leaves its job
pub groups_at_item_left : (script : Plan) (past : List Entry) (groups : Groups) (seat value : ℕ) (h : Holding) → IsPoolScript script
    → AreGroups script past groups → 1 ≤ seat → seat ≤ script.workers → running past seat ≡ None → holding past seat ≡ Some h
    → AreGroups script (next past seat (kinds.JobStep h.job h.id h.item value None))
    (with_group_at groups seat (with_work (group_at groups seat) seat None))
groups_at_item_left script past groups seat value h limits are worker known free held =
    let e : Entry = record { seat = seat; kind = kinds.JobStep h.job h.id h.item value None } in
    groups_moved_here script past (past ++ e ∷ []) groups seat (priority_of_job script h.job) None None are (record {
      now = now_of_push past e;
      there = seat_there script seat limits known;
      was = work_of_item script past seat h worker free held;
      is = no_work script (past ++ e ∷ []) seat (running_same past e seat refl ∙ free) (holding_here past e seat (eqb-same seat));
      others = λ other another. other_kept script past e other (ne_eqb seat other (λ same. another (sym same))) (λ w runs pool. refl);
    })

-- a worker goes on to another item of its job
pub groups_at_goes_on : (script : Plan) (past : List Entry) (groups : Groups) (seat value goes_on : ℕ) (h : Holding) → AreGroups script past groups → 1 ≤ seat
    → running past seat ≡ None → holding past seat ≡ Some h
    → AreGroups script (next past seat (kinds.JobStep h.job h.id h.item value (Some goes_on))) groups
groups_at_goes_on script past groups seat value goes_on h are worker free held =
    groups_same script past (past ++ e ∷ []) groups (now_of_push past e) (λ x. at_each x (eqb seat x) refl) are
  where
    e : Entry
    e = record { seat = seat; kind = kinds.JobStep h.job h.id h.item value (Some goes_on) }

    at_each : (x : ℕ) (b : Bool) → eqb seat x ≡ b → pool_work script (past ++ e ∷ []) x ≡ pool_work script past x
    at_each x true is = rw (← eqb-true seat x is)
        (work_of_item script (past ++ e ∷ []) seat (record { job = h.job; id = h.id; item = goes_on }) worker (running_same past e seat refl ∙ free)
        (holding_here past e seat (eqb-same seat)) ∙ sym (work_of_item script past seat h worker free held))
    at_each x false is = other_kept script past e x is (λ w runs pool. refl)
