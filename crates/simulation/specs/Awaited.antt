-- What a moment is awaited for in a run whose ticks jump (this project's own rule): an accepted task ripens, or an open may-block scope
-- starts to count.
use Rattle.std.specs.Prelude.{ℕ, ◌+◌, ◌==◌, min, true, nat_lt, ◌&&◌, if◌then◌else◌, List, [], ◌∷◌, ◌++◌, fold, map, Option, Some, None, unwrap_or}
use Rattle.task_base.specs.declared.limits.TheConstants.{LAST_MOMENT}
use Rattle.task_base.specs.Plan.{Plan}
use Rattle.task_base.specs.declared.step.Scope.TheVariants.{May, Will}
use Rattle.task_base.specs.declared.entry.Entry.{Entry}
use Rattle.task_base.specs.declared.entry.Kind.{Kind}
use Rattle.task_base.specs.declared.entry.Kind.TheVariants.{Post, Main, Enter, Leave}
use Rattle.task_model.specs.Past.{fold_past}
use Rattle.task_model.specs.Seats.{all_seats}
use Rattle.task_model.specs.Time.{now_of}

-- so long after a moment, or the last moment of all
abbrev pub later : ℕ → ℕ → ℕ
later now wait = min (now + wait) LAST_MOMENT

-- the moment at which the task ripens that an entry posts
abbrev pub ripe_by : ℕ → Kind → List ℕ
ripe_by now (Post task runner delay true) = later now delay ∷ []
ripe_by now (Main task queue delay true) = later now delay ∷ []
ripe_by now kind = []

-- the moments at which the accepted tasks ripen, of the pool and of the main queues, in the order of their posts
unfoldable pub ripe_moments : List Entry → List ℕ
ripe_moments past = fold_past (λ before known e. known ++ ripe_by (now_of before) e.kind) [] past

-- the moment at which the open may-block scope of a seat starts to count, after an entry of its own; 0 where it has none
abbrev pub counts_after : ℕ → ℕ → ℕ → Kind → ℕ
counts_after threshold now counts (Enter task May) = later now threshold
counts_after threshold now counts (Enter task Will) = 0
counts_after threshold now counts (Leave task) = 0
counts_after threshold now counts kind = counts

-- the moment at which the open may-block scope of the seat starts to count; 0 where it has none
unfoldable pub counts_from : Plan → List Entry → ℕ → ℕ
counts_from script past seat =
    fold_past (λ before counts e. if e.seat == seat then counts_after script.threshold (now_of before) counts e.kind else counts) 0 past

-- all these moments
abbrev pub awaited : Plan → List Entry → List ℕ
awaited script past = ripe_moments past ++ map (counts_from script past) (all_seats script)

-- the sooner one of a moment that lies ahead of now, if there is one, and another one
abbrev pub sooner : ℕ → Option ℕ → ℕ → Option ℕ
sooner now None moment = if nat_lt now moment then Some moment else None
sooner now (Some best) moment = if nat_lt now moment && nat_lt moment best then Some moment else Some best

-- the least of some moments that lies ahead of now
abbrev pub soonest : ℕ → List ℕ → Option ℕ
soonest now moments = fold (sooner now) None moments

-- the next moment that is awaited; where none is, the moment of the last tick
unfoldable pub next_moment : Plan → List Entry → ℕ
next_moment script past = unwrap_or (soonest (now_of past) (awaited script past)) (now_of past)
