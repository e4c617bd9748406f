-- The moment that the history has come to.
use Rattle.std.specs.Prelude.{ℕ, Bool, false, nat_le, List, fold, Option}
use Rattle.std.specs.List.{position_from}
use Rattle.task_base.specs.declared.entry.Entry.{Entry}
use Rattle.task_base.specs.declared.entry.Kind.{Kind}
use Rattle.task_base.specs.declared.entry.Kind.TheVariants.{Tick}

-- the moment after an entry
abbrev pub now_after : ℕ → Kind → ℕ
now_after now (Tick moment) = moment
now_after now kind = now

-- the moment of the last tick, or 0 (`thread_pool.h` for delays; that moments come by ticks is this project's own)
unfoldable pub now_of : List Entry → ℕ
now_of past = fold (λ now e. now_after now e.kind) 0 past

-- the entry is a tick of this moment or a later one
abbrev pub is_tick_from : ℕ → Kind → Bool
is_tick_from moment (Tick now) = nat_le moment now
is_tick_from moment kind = false

-- the place of the first tick whose moment is at or past the given one
unfoldable pub tick_from : List Entry → ℕ → Option ℕ
tick_from past moment = position_from (λ e. is_tick_from moment e.kind) 0 past
