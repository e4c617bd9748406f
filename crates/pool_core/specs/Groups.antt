-- What the two groups stand for.
use Rattle.std.specs.Prelude.{◌≡◌, ℕ, ◌+◌, ◌<◌, Bool, true, false, if◌then◌else◌, nat_lt, List, length, replicate, Option, None, is_some, option_and_then}
use Rattle.std.specs.Option.{option_map}
use Rattle.task_base.specs.Plan.{Plan}
use Rattle.task_base.specs.Groups.{Group, Foreground, Background, group_of, same_group}
use Rattle.task_traits.specs.declared.traits.Priority.{Priority}
use Rattle.task_base.specs.declared.entry.Entry.{Entry}
use Rattle.task_base.specs.declared.limits.TheConstants.{MOST_WORKERS}
use Rattle.list_laws.specs.Lists.{keep}
use Rattle.task_model.specs.Time.{now_of}
use Rattle.task_model.specs.Capacity as capacities
use Rattle.task_model.specs.Capacity.{is_in, limit, best_limit, open_scope}
use Rattle.task_model.specs.Seats.{Running, running}
use Rattle.thread_group.specs.Group.{GroupWork, work_at}
use Rattle.thread_group.specs.declared.work.Work.{Work}
use Rattle.thread_group.specs.declared.work.OpenScope.{OpenScope}
use Rattle.pool_core.specs.declared.groups.Groups.{Groups}

-- the background group, or the foreground group
abbrev pub group_in : Groups → Bool → GroupWork
group_in groups true = groups.background
group_in groups false = groups.foreground

-- the groups with another one of them
abbrev pub with_group : Groups → Bool → GroupWork → Groups
with_group groups true work = record groups { background = work }
with_group groups false work = record groups { foreground = work }

-- the seat does work of the background group
abbrev pub is_background : Groups → ℕ → Bool
is_background groups seat = is_some (work_at groups.background seat)

-- the group whose work the seat does, if it does any
abbrev pub group_at : Groups → ℕ → GroupWork
group_at groups seat = group_in groups (is_background groups seat)

-- the groups with another one in its place
abbrev pub with_group_at : Groups → ℕ → GroupWork → Groups
with_group_at groups seat work = with_group groups (is_background groups seat) work

-- a group that runs nothing at moment 0
abbrev pub empty_group : ℕ → ℕ → ℕ → GroupWork
empty_group limit best_limit threshold = record {
  seats = replicate (MOST_WORKERS + 1) None;
  limit = limit;
  best_limit = best_limit;
  threshold = threshold;
  moment = 0;
}

-- the groups of a script, which run nothing
abbrev pub empty_groups : Plan → Groups
empty_groups script = record {
  foreground = empty_group script.foreground script.foreground_best script.threshold;
  background = empty_group script.background script.background script.threshold;
}

-- the groups at another moment
abbrev pub ticked : Groups → ℕ → Groups
ticked groups moment = record {
  foreground = record groups.foreground { moment = moment };
  background = record groups.background { moment = moment };
}

-- work of this priority is the background group's
abbrev pub in_background : Plan → Priority → Bool
in_background script priority = same_group (group_of script priority) Background

-- an open scope as a group keeps it
abbrev pub opened_as : capacities.OpenScope → OpenScope
opened_as opened = record { scope = opened.scope; since = opened.since }

-- the scope that what a seat runs has open; none is open in an item of a job
abbrev pub scope_of : List Entry → Option Running → Option OpenScope
scope_of past run = option_and_then (λ w. option_map opened_as (open_scope past w.task)) run

-- work of this priority, with this scope open or none
abbrev pub work_of : Option OpenScope → Priority → Work
work_of scope priority = record { priority = priority; scope = scope }

-- the pool's work that the seat does as a worker: its task, which counts with the priority of its take, or the item that it
-- holds. What the driver does is no work of the groups
abbrev pub pool_work : Plan → List Entry → ℕ → Option Work
pool_work script past seat =
    if nat_lt 0 seat then option_map (work_of (scope_of past (running past seat))) (capacities.work_at script past seat) else None

-- each seat does, of the group's work, what it does in the past; the limits and the threshold are the script's, and the
-- moment is the past's
pub record StandsForGroup (script : Plan) (past : List Entry) (group : Group) (work : GroupWork) : Type 0 where
  pub limit_is : work.limit ≡ limit script group
  pub best_limit_is : work.best_limit ≡ best_limit script group
  pub threshold_is : work.threshold ≡ script.threshold
  pub moment_is : work.moment ≡ now_of past
  pub places : length work.seats ≡ MOST_WORKERS + 1
  pub seats : (seat : ℕ) → seat < MOST_WORKERS + 1 → work_at work seat ≡ keep (λ w. is_in script group w.priority) (pool_work script past seat)

-- both groups
pub record AreGroups (script : Plan) (past : List Entry) (groups : Groups) : Type 0 where
  pub foreground : StandsForGroup script past Foreground groups.foreground
  pub background : StandsForGroup script past Background groups.background
