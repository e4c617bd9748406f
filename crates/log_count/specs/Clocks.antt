-- Clocks that are told by a situation: which moment a tick reads (this project's own rule).
use Rattle.std.specs.Prelude.{ℕ, ◌+◌, min, nat_lt, List, ◌++◌, filter, map}
use Rattle.std.specs.List.{filter_map}
use Rattle.std.specs.Option.{option_map_or}
use Rattle.list_laws.specs.Lists.{least}
use Rattle.task_base.specs.declared.limits.TheConstants.{LAST_MOMENT}
use Rattle.situation.specs.Situation.{Situation}

-- by a step: so much after the moment before, and at most the last moment of all
abbrev pub by_step : ℕ → Situation → ℕ
by_step step s = min (s.now + step) LAST_MOMENT

-- the moments ahead that are awaited: at which a task that may still start becomes ripe, or an open scope starts to count
abbrev pub awaited_in : Situation → List ℕ
awaited_in s = filter (λ m. nat_lt s.now m) (map (λ u. u.ripe) s.unripe ++ filter_map (λ x. x.scope) s.seats)

-- by jumps: to the next moment that is awaited, and at most the last moment of all; where none is, the moment before again
abbrev pub by_jumps : Situation → ℕ
by_jumps s = option_map_or (λ m. min m LAST_MOMENT) (least (λ a b. nat_lt a b) (awaited_in s)) s.now
