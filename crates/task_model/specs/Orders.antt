-- The numbers that main tasks and fences draw, which decide what a queue runs first (this project's own numbering;
-- `task_queue.h` has the notion).
use Rattle.std.specs.Prelude.{ℕ, ◌+◌, Bool, true, not, ◌&&◌, nat_lt, nat_le, if◌then◌else◌, List, length, filter, take, Option, Some, None, slice_get, option_and_then}
use Rattle.task_base.specs.declared.entry.Entry.{Entry}
use Rattle.task_base.specs.declared.entry.Kind.{Kind}
use Rattle.task_base.specs.declared.entry.Kind.TheVariants.{Main, Fence, Tick}
use Rattle.task_base.specs.declared.script.FenceAt.TheVariants.{Now}
use Rattle.list_laws.specs.Lists.{count}
use Rattle.task_model.specs.Past.{fold_past}
use Rattle.task_model.specs.Time.{now_of, tick_from}
use Rattle.task_model.specs.Posts.{Posted, is_delayed, ripens_before, main_posts}
use Rattle.task_model.specs.Refusal.{is_closed}

-- the delayed main task ripens at a tick of this moment, and its queue is not closed
abbrev pub ripens : List Entry → ℕ → Posted → Bool
ripens past moment p = is_delayed p && not (is_closed past p.home) && nat_lt (now_of past) p.ripe && nat_le p.ripe moment

-- the accepted delayed main tasks that ripen at a tick of this moment
unfoldable pub ripening : List Entry → ℕ → List Posted
ripening past moment = filter (ripens past moment) (main_posts past)

-- how many numbers an entry draws: one for an accepted immediate main task and for a fence that stands behind the
-- queue's tasks by now, and one for each main task that ripens at a tick
abbrev pub drawn_by : List Entry → Kind → ℕ
drawn_by before (Main task queue delay true) = if nat_lt 0 delay then 0 else 1
drawn_by before (Fence queue Now) = 1
drawn_by before (Tick moment) = length (ripening before moment)
drawn_by before kind = 0

-- how many numbers were drawn
unfoldable pub draws : List Entry → ℕ
draws past = fold_past (λ before n e. n + drawn_by before e.kind) 0 past

-- the next number that is drawn: they go from 2 upward
abbrev pub next_draw : List Entry → ℕ
next_draw past = 2 + draws past

-- what a delayed main task draws at the tick behind a past that ripens it: those that ripen before it draw first
abbrev pub drawn_at : List Entry → ℕ → Posted → Option ℕ
drawn_at before moment p =
    if ripens before moment p then Some (next_draw before + count (λ q. ripens_before q p) (ripening before moment)) else None

-- the moment of the entry at a place, where that is a tick
abbrev pub moment_of : Kind → Option ℕ
moment_of (Tick now) = Some now
moment_of kind = None

-- the moment of the tick at a place, if there is one
abbrev pub moment_at : List Entry → ℕ → Option ℕ
moment_at past place = option_and_then (λ e. moment_of e.kind) (slice_get past place)

-- the order of a main task: what it drew, an immediate one at its post, and a delayed one at the tick that ripened it
unfoldable pub order_of : List Entry → Posted → Option ℕ
order_of past p =
    if is_delayed p
    then option_and_then (λ place. option_and_then (λ moment. drawn_at (take place past) moment p) (moment_at past place)) (tick_from past p.ripe)
    else Some (next_draw (take p.place past))
