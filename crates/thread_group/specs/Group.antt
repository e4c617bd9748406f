-- What contracts see of a group, and how much work may run in it.
use Rattle.std.specs.Prelude.{ℕ, ◌+◌, nat_lt, Bool, not, ◌&&◌, ◌||◌, List, slice_get, slice_set, Option, None, unwrap_or, is_some}
use Rattle.std.specs.Option.{option_map}
use Rattle.task_traits.specs.declared.traits.Priority.{Priority}
use Rattle.task_base.specs.Groups.{is_best_effort}
use Rattle.list_laws.specs.Lists.{count, holds_of}
use Rattle.thread_group.specs.declared.work.Work.{Work}
use Rattle.thread_group.specs.declared.work.OpenScope.{OpenScope}
use Rattle.thread_group.specs.Work.{is_best, is_blocked, is_best_blocked}

-- what each seat runs here, a seat's number being its place; how much work, and how much best-effort work, may run
-- while no scope counts; after how long a scope that may block counts; and the moment
pub record GroupWork : Type 0 where
  pub seats : List (Option Work)
  pub limit : ℕ
  pub best_limit : ℕ
  pub threshold : ℕ
  pub moment : ℕ

-- what the seat runs here
abbrev pub work_at : GroupWork → ℕ → Option Work
work_at group seat = unwrap_or (slice_get group.seats seat) None

-- the group with other work on one seat, or none
abbrev pub with_work : GroupWork → ℕ → Option Work → GroupWork
with_work group seat work = record group { seats = slice_set group.seats seat work }

-- the work with another open scope, or none
abbrev pub scoped : Option OpenScope → Work → Work
scoped scope work = record work { scope = scope }

-- the group with another open scope, or none, of what the seat runs
abbrev pub with_scope : GroupWork → ℕ → Option OpenScope → GroupWork
with_scope group seat scope = with_work group seat (option_map (scoped scope) (work_at group seat))

-- how much work runs
abbrev pub load : GroupWork → ℕ
load group = count is_some group.seats

-- how much best-effort work runs
abbrev pub best_load : GroupWork → ℕ
best_load group = count (holds_of is_best) group.seats

-- how much may run: the limit, and one more for each seat whose work is blocked (this project's own rule)
abbrev pub capacity : GroupWork → ℕ
capacity group = group.limit + count (holds_of (is_blocked group.threshold group.moment)) group.seats

-- how much best-effort work may run: its limit, and one more for each seat whose best-effort work is blocked (this
-- project's own rule)
abbrev pub best_capacity : GroupWork → ℕ
best_capacity group = group.best_limit + count (holds_of (is_best_blocked group.threshold group.moment)) group.seats

-- work of the priority may start: less runs than may, and for best-effort work also less best-effort work than may
-- (this project's own rule)
abbrev pub has_room : GroupWork → Priority → Bool
has_room group priority = nat_lt (load group) (capacity group) && (not (is_best_effort priority) || nat_lt (best_load group) (best_capacity group))
