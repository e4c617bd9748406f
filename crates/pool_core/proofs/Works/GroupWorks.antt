-- What each group keeps of the work of a seat.
-- Cited by `Calls/Takes`, `Jobs/AtJob`, `Jobs/JobStands`, `Works/AtSeat`, `Works/GroupGrowth`, `Works/Room`.
use Rattle.list_laws.specs.Lists.{holds_of, keep}
use Rattle.pool_core.proofs.Lists.{kept_is_some}
use Rattle.pool_core.specs.Groups.{AreGroups, StandsForGroup, group_at, group_in, in_background, is_background}
use Rattle.pool_core.specs.Groups.{opened_as, pool_work, scope_of, with_group, with_group_at, work_of}
use Rattle.pool_core.specs.Pasts.{IsPoolPast, IsPoolScript}
use Rattle.pool_core.specs.declared.groups.Groups.{Groups}
use Rattle.pool_laws.proofs.Room.Capacity.{scope_kept}
use Rattle.pool_laws.proofs.Seats.Running.{both, holding_other, holding_same, running_other, running_same, taken_other, taken_same, taken_where_runs}
use Rattle.pool_laws.specs.Room.{scopes as scopes_of}
use Rattle.pool_laws.specs.Seats.{moves_holding, moves_running}
use Rattle.std.proofs.Common.{Bool, List, None, Option, Some, [], ap, arith, cond, eqb, false, inl, inr}
use Rattle.std.proofs.Common.{length, refl, sym, true, ℕ, ◌++◌, ◌+◌, ◌<◌, ◌∙◌, ◌∷◌, ◌≡◌, ◌≤◌}
use Rattle.std.proofs.Math.ListN.{length-set}
use Rattle.std.proofs.lemmas.Bool.{cases_eq, false≢true, lt-ltb, ne_eqb, not-true}
use Rattle.std.proofs.lemmas.List.{get_or-set_other, get_or-set_same}
use Rattle.std.proofs.lemmas.Option.{none-some, unwrap_or-slice_get}
use Rattle.std.specs.Option.{option_map}
use Rattle.std.specs.Prelude.{if◌then◌else◌, is_some, nat_lt, not, slice_set, ◌==◌, ◌⊎◌}
use Rattle.task_base.specs.Groups.{Background, Foreground, Group, group_of, same_group}
use Rattle.task_base.specs.Plan.{Plan}
use Rattle.task_base.specs.declared.entry.Entry.{Entry}
use Rattle.task_base.specs.declared.limits.TheConstants.{MOST_WORKERS}
use Rattle.task_model.specs.Capacity.{is_in, open_scope, priority_of_holding, priority_of_job, taken_with}
use Rattle.task_model.specs.Seats.{Holding, Running, holding, running}
use Rattle.task_model.specs.Time.{now_of}
use Rattle.task_traits.specs.declared.traits.Priority.{Priority}
use Rattle.thread_group.specs.Group.{GroupWork, with_work, work_at}
use Rattle.thread_group.specs.declared.work.Work.{Work}
use Rattle.thread_group.specs.declared.work.OpenScope as scopes

-- One group, at one seat.

-- the place of a seat with other work, and the other places
work_same : (group : GroupWork) (seat : ℕ) (work : Option Work) → seat < length group.seats → work_at (with_work group seat work) seat ≡ work
work_same group seat work there =
    unwrap_or-slice_get (slice_set group.seats seat work) seat None ∙ get_or-set_same group.seats seat work None there

work_other : (group : GroupWork) (seat other : ℕ) (work : Option Work) → (other ≡ seat → ⊥) → work_at (with_work group seat work) other ≡ work_at group other
work_other group seat other work another =
    unwrap_or-slice_get (slice_set group.seats seat work) other None ∙ get_or-set_other group.seats seat other work None another
    ∙ sym (unwrap_or-slice_get group.seats other None)

-- the group's part of what a seat does
abbrev pub part : Plan → Group → Option Work → Option Work
part script group work = keep (λ w. is_in script group w.priority) work

-- the group where one seat's work changes
group_moved : (script : Plan) (past later : List Entry) (group : Group) (work : GroupWork) (seat : ℕ) (done : Option Work)
    → StandsForGroup script past group work → now_of later ≡ now_of past → seat < MOST_WORKERS + 1 → part script group (pool_work script later seat) ≡ done
    → ((other : ℕ) → (other ≡ seat → ⊥) → pool_work script later other ≡ pool_work script past other)
    → StandsForGroup script later group (with_work work seat done)
group_moved script past later group work seat done are now there here others = record {
  limit_is = are.limit_is;
  best_limit_is = are.best_limit_is;
  threshold_is = are.threshold_is;
  moment_is = are.moment_is ∙ sym now;
  places = length-set work.seats seat done ∙ are.places;
  seats = λ x less. at_each x less (cases_eq x seat);
}
  where
    at_each : (x : ℕ) → x < MOST_WORKERS + 1 → (x ≡ seat) ⊎ (x ≡ seat → ⊥) → work_at (with_work work seat done) x ≡ part script group (pool_work script later x)
    at_each x less (inl same) = rw same (work_same work seat done (omega (arith, there, are.places)) ∙ sym here)
    at_each x less (inr another) = rw (work_other work seat x done another, others x another) (are.seats x less)

-- the group where each seat does the same of its work
pub group_kept : (script : Plan) (past later : List Entry) (group : Group) (work : GroupWork) → StandsForGroup script past group work
    → now_of later ≡ now_of past → ((seat : ℕ) → part script group (pool_work script later seat) ≡ part script group (pool_work script past seat))
    → StandsForGroup script later group work
group_kept script past later group work are now same = record {
  limit_is = are.limit_is;
  best_limit_is = are.best_limit_is;
  threshold_is = are.threshold_is;
  moment_is = are.moment_is ∙ sym now;
  places = are.places;
  seats = λ x less. are.seats x less ∙ sym (same x);
}

-- Both groups, at one seat, whose work is of one priority.

-- work of this priority with this scope, or none
abbrev pub works : Priority → Option (Option scopes.OpenScope) → Option Work
works priority None = None
works priority (Some scope) = Some (work_of scope priority)

-- the groups with other work at a seat, in the group of this priority
abbrev pub with_seat : Plan → Groups → ℕ → Priority → Option Work → Groups
with_seat script groups seat priority work = with_group groups (in_background script priority)
    (with_work (group_in groups (in_background script priority)) seat work)

part_of : (script : Plan) (group : Group) (priority : Priority) (o : Option (Option scopes.OpenScope)) (b : Bool) → is_in script group priority ≡ b
    → part script group (works priority o) ≡ (if b then works priority o else None)
part_of script group priority None true is = refl
part_of script group priority None false is = refl
part_of script group priority (Some scope) b is = rw is refl

-- what one seat did and does, where the others do what they did
pub record IsMoved (script : Plan) (past later : List Entry) (seat : ℕ) (priority : Priority) (before after : Option (Option scopes.OpenScope)) : Type 0 where
  pub now : now_of later ≡ now_of past
  pub there : seat < MOST_WORKERS + 1
  pub was : pool_work script past seat ≡ works priority before
  pub is : pool_work script later seat ≡ works priority after
  pub others : (other : ℕ) → (other ≡ seat → ⊥) → pool_work script later other ≡ pool_work script past other

pub groups_moved : (script : Plan) (past later : List Entry) (groups : Groups) (seat : ℕ) (priority : Priority)
    (before after : Option (Option scopes.OpenScope)) → AreGroups script past groups → IsMoved script past later seat priority before after
    → AreGroups script later (with_seat script groups seat priority (works priority after))
groups_moved script past later groups seat priority before after are moved = by_group (group_of script priority) refl
  where
    mine : (group : Group) (work : GroupWork) → StandsForGroup script past group work → is_in script group priority ≡ true
        → StandsForGroup script later group (with_work work seat (works priority after))
    mine group work stands is = group_moved script past later group work seat (works priority after) stands moved.now moved.there
        (ap (part script group) moved.is ∙ part_of script group priority after true is) moved.others

    none : (group : Group) (o : Option Work) (now : Option (Option scopes.OpenScope)) → o ≡ works priority now → is_in script group priority ≡ false
        → part script group o ≡ None
    none group o now same is = ap (part script group) same ∙ part_of script group priority now false is

    apart : (group : Group) (work : GroupWork) → StandsForGroup script past group work → is_in script group priority ≡ false
        → StandsForGroup script later group work
    apart group work stands is = group_kept script past later group work stands moved.now (λ x. seat_by x (cases_eq x seat))
      where
        seat_by : (x : ℕ) → (x ≡ seat) ⊎ (x ≡ seat → ⊥) → part script group (pool_work script later x) ≡ part script group (pool_work script past x)
        seat_by x (inl same) = rw same
            (none group (pool_work script later seat) after moved.is is ∙ sym (none group (pool_work script past seat) before moved.was is))
        seat_by x (inr another) = ap (part script group) (moved.others x another)

    by_group : (g : Group) → group_of script priority ≡ g → AreGroups script later (with_group groups (same_group (group_of script priority) Background)
        (with_work (group_in groups (same_group (group_of script priority) Background)) seat (works priority after)))
    by_group Foreground is = rw is (record {
      foreground = mine Foreground groups.foreground are.foreground (ap (λ g. same_group g Foreground) is);
      background = apart Background groups.background are.background (ap (λ g. same_group g Background) is);
    })
    by_group Background is = rw is (record {
      foreground = apart Foreground groups.foreground are.foreground (ap (λ g. same_group g Foreground) is);
      background = mine Background groups.background are.background (ap (λ g. same_group g Background) is);
    })

-- What a seat does of the pool's work.

-- the work of a worker by what it runs, the priority of its take, and what it holds
abbrev pub works_by : Plan → List Entry → Option Running → Option Priority → Option Holding → Option Work
works_by script past run taken held = option_map (work_of (scope_of past run)) (if is_some run then taken else priority_of_holding script held)

-- a task of the pool that a seat runs counts with a priority
taken_of : (script : Plan) (past : List Entry) (seat : ℕ) (w : Running) → running past seat ≡ Some w → w.is_main ≡ false
    → (priority : Priority) × (taken_with script past seat ≡ Some priority)
taken_of script past seat w runs pool = by_taken_with (taken_with script past seat) refl (taken_where_runs script past seat ∙ rw (runs, pool) refl)
  where
    by_taken_with : (o : Option Priority) → taken_with script past seat ≡ o → is_some o ≡ true → (priority : Priority)
        × (taken_with script past seat ≡ Some priority)
    by_taken_with None is none = absurd (false≢true none)
    by_taken_with (Some priority) is some = (priority, is)

-- a seat that does what it did, where its task's scope does not move
work_kept : (script : Plan) (past later : List Entry) (seat : ℕ) → running later seat ≡ running past seat
    → taken_with script later seat ≡ taken_with script past seat → holding later seat ≡ holding past seat
    → ((w : Running) → running past seat ≡ Some w → w.is_main ≡ false → open_scope later w.task ≡ open_scope past w.task)
    → pool_work script later seat ≡ pool_work script past seat
work_kept script past later seat run taken held same = rw (run, taken, held) (ap (λ (work : Option Work). cond (nat_lt 0 seat) work None)
    (by_running (running past seat) (taken_with script past seat) (taken_where_runs script past seat) same))
  where
    by_running : (run : Option Running) (taken : Option Priority) → is_some taken ≡ holds_of (λ w. not w.is_main) run
        → ((w : Running) → run ≡ Some w → w.is_main ≡ false → open_scope later w.task ≡ open_scope past w.task)
        → works_by script later run taken (holding past seat) ≡ works_by script past run taken (holding past seat)
    by_running None taken counts same = refl
    by_running (Some w) None counts same = refl
    by_running (Some w) (Some priority) counts same = rw (same w refl (not-true w.is_main (sym counts))) refl

-- an entry of another seat, and one that moves nothing that a seat runs or holds
pub other_kept : (script : Plan) (past : List Entry) (e : Entry) (seat : ℕ) → (e.seat == seat) ≡ false
    → ((w : Running) → running past seat ≡ Some w → w.is_main ≡ false → scopes_of w.task e.kind ≡ false)
    → pool_work script (past ++ e ∷ []) seat ≡ pool_work script past seat
other_kept script past e seat other quiet = work_kept script past (past ++ e ∷ []) seat (running_other past e seat other)
    (taken_other script past e seat other) (holding_other past e seat other) (λ w runs pool. scope_kept past e w.task (quiet w runs pool))

pub still_kept : (script : Plan) (past : List Entry) (e : Entry) (seat : ℕ) → moves_running e.kind ≡ false → moves_holding e.kind ≡ false
    → ((w : Running) → running past seat ≡ Some w → w.is_main ≡ false → scopes_of w.task e.kind ≡ false)
    → pool_work script (past ++ e ∷ []) seat ≡ pool_work script past seat
still_kept script past e seat runs holds quiet = work_kept script past (past ++ e ∷ []) seat (running_same past e seat runs)
    (taken_same script past e seat runs) (holding_same past e seat holds) (λ w its pool. scope_kept past e w.task (quiet w its pool))

-- a seat that runs and holds nothing does no work
pub no_work : (script : Plan) (past : List Entry) (seat : ℕ) → running past seat ≡ None → holding past seat ≡ None → pool_work script past seat ≡ None
no_work script past seat runs held = rw (runs, held) (both (nat_lt 0 seat) None)

-- an item that a worker holds, which runs no task
pub work_of_item : (script : Plan) (past : List Entry) (seat : ℕ) (h : Holding) → 1 ≤ seat → running past seat ≡ None → holding past seat ≡ Some h
    → pool_work script past seat ≡ Some (work_of None (priority_of_job script h.job))
work_of_item script past seat h worker runs held = rw (lt-ltb 0 seat worker, runs, held) refl

-- a worker that runs a task is inside no job
pub runner_holds_nothing : (script : Plan) (past : List Entry) (seat : ℕ) (w : Running) → IsPoolPast script past → running past seat ≡ Some w
    → w.is_main ≡ false → holding past seat ≡ None
runner_holds_nothing script past seat w fits runs pool = by_holding (holding past seat) refl
  where
    by_holding : (o : Option Holding) → holding past seat ≡ o → o ≡ None
    by_holding None is = refl
    by_holding (Some h) is = absurd (none-some w (sym (fits.inside.one_thing seat h ((fits.singly.runs seat w runs pool).can.worker refl) is) ∙ runs))

-- a task that a worker runs, by the priority of its take
pub work_of_task : (script : Plan) (past : List Entry) (seat : ℕ) (w : Running) (priority : Priority) → 1 ≤ seat → running past seat ≡ Some w
    → taken_with script past seat ≡ Some priority
    → pool_work script past seat ≡ Some (work_of (option_map opened_as (open_scope past w.task)) priority)
work_of_task script past seat w priority worker runs taken = rw (lt-ltb 0 seat worker, runs, taken) refl

-- and where it is known to be the pool's
pub task_of_pool : (script : Plan) (past : List Entry) (seat : ℕ) (w : Running) → IsPoolPast script past → running past seat ≡ Some w → w.is_main ≡ false
    → (priority : Priority) × (taken_with script past seat ≡ Some priority)
    × (pool_work script past seat ≡ Some (work_of (option_map opened_as (open_scope past w.task)) priority))
task_of_pool script past seat w fits runs pool =
    let (priority, taken) = taken_of script past seat w runs pool in
    (priority, taken, work_of_task script past seat w priority ((fits.singly.runs seat w runs pool).can.worker refl) runs taken)

-- no other seat runs this task
pub not_same_task : (script : Plan) (past : List Entry) (seat other : ℕ) (w v : Running) → IsPoolPast script past → running past seat ≡ Some w
    → w.is_main ≡ false
    → running past other ≡ Some v → v.is_main ≡ false → (other ≡ seat → ⊥) → eqb w.task v.task ≡ false
not_same_task script past seat other w v fits runs pool other_runs other_pool another = ne_eqb w.task v.task (λ same.
    another (fits.singly.alone other seat v w other_runs runs other_pool pool (inl (sym same))))

-- a worker's seat has a place
pub seat_there : (script : Plan) (seat : ℕ) → IsPoolScript script → seat ≤ script.workers → seat < MOST_WORKERS + 1
seat_there script seat limits known = omega (arith, known, limits.workers_fit)

-- What a place of a group says.

-- the group of a priority stands for that group
pub group_stands : (script : Plan) (past : List Entry) (groups : Groups) (priority : Priority) → AreGroups script past groups
    → StandsForGroup script past (group_of script priority) (group_in groups (in_background script priority))
group_stands script past groups priority are = by_group (group_of script priority)
  where
    by_group : (g : Group) → StandsForGroup script past g (group_in groups (same_group g Background))
    by_group Foreground = are.foreground
    by_group Background = are.background

pub same_itself : (g : Group) → same_group g g ≡ true
same_itself Foreground = refl
same_itself Background = refl

-- the moment of each group is the past's
pub moment_of : (script : Plan) (past : List Entry) (groups : Groups) (background : Bool) → AreGroups script past groups
    → (group_in groups background).moment ≡ now_of past
moment_of script past groups true are = are.background.moment_is
moment_of script past groups false are = are.foreground.moment_is

-- the group whose work a seat does is that of the work's priority
pub group_of_work : (script : Plan) (past : List Entry) (groups : Groups) (seat : ℕ) (work : Work) → AreGroups script past groups
    → seat < MOST_WORKERS + 1 → pool_work script past seat ≡ Some work → is_background groups seat ≡ in_background script work.priority
group_of_work script past groups seat work are there does =
    ap is_some (are.background.seats seat there ∙ ap (part script Background) does) ∙ kept_is_some (in_background script work.priority) work

-- so that group says what the seat does
pub works_here : (script : Plan) (past : List Entry) (groups : Groups) (seat : ℕ) (work : Work) → AreGroups script past groups
    → seat < MOST_WORKERS + 1 → pool_work script past seat ≡ Some work → work_at (group_at groups seat) seat ≡ Some work
works_here script past groups seat work are there does = rw (group_of_work script past groups seat work are there does)
    ((group_stands script past groups work.priority are).seats seat there ∙ ap (part script (group_of script work.priority)) does
    ∙ rw (same_itself (group_of script work.priority)) refl)

-- the groups where the work of a seat that did some changes, in the group that keeps it
pub groups_moved_here : (script : Plan) (past later : List Entry) (groups : Groups) (seat : ℕ) (priority : Priority)
    (before : Option scopes.OpenScope) (after : Option (Option scopes.OpenScope)) → AreGroups script past groups
    → IsMoved script past later seat priority (Some before) after
    → AreGroups script later (with_group_at groups seat (with_work (group_at groups seat) seat (works priority after)))
groups_moved_here script past later groups seat priority before after are moved =
    rw (group_of_work script past groups seat (work_of before priority) are moved.there moved.was)
    (groups_moved script past later groups seat priority (Some before) after are moved)
