-- What work counts as: best-effort work, blocked work, work whose open scope doesn't count yet.
use Rattle.std.specs.Prelude.{ℕ, ◌+◌, Bool, not, ◌&&◌}
use Rattle.task_base.specs.Groups.{is_best_effort, has_come}
use Rattle.thread_group.specs.declared.work.Work.{Work}
use Rattle.thread_group.specs.declared.work.OpenScope.{OpenScope}
use Rattle.list_laws.specs.Lists.{holds_of}

-- the scope counts at the moment: one that will block at once, one that may block once it has been open for the
-- threshold (this project's own rule)
abbrev pub scope_counts : ℕ → ℕ → OpenScope → Bool
scope_counts threshold now opened = has_come opened.scope (opened.since + threshold) now

-- the work has an open scope, which counts at the moment
abbrev pub is_blocked : ℕ → ℕ → Work → Bool
is_blocked threshold now work = holds_of (scope_counts threshold now) work.scope

-- the work has an open scope, which doesn't count at the moment
abbrev pub is_waiting : ℕ → ℕ → Work → Bool
is_waiting threshold now work = holds_of (λ opened. not (scope_counts threshold now opened)) work.scope

-- it is best-effort work
abbrev pub is_best : Work → Bool
is_best work = is_best_effort work.priority

-- it is best-effort work with an open scope, which counts at the moment
abbrev pub is_best_blocked : ℕ → ℕ → Work → Bool
is_best_blocked threshold now work = is_best work && is_blocked threshold now work
