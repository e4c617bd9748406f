-- What the moments that are kept stand for.
use Rattle.std.specs.Prelude.{◌≡◌, ℕ, Bool, ◌==◌, ◌&&◌, List, map, nat_lt}
use Rattle.std.specs.List.{list_any}
use Rattle.task_base.specs.Plan.{Plan}
use Rattle.task_base.specs.declared.entry.Entry.{Entry}
use Rattle.task_model.specs.Seats.{all_seats}
use Rattle.task_model.specs.Time.{now_of}
use Rattle.simulation.specs.Awaited.{counts_from, ripe_moments}
use Rattle.simulation.specs.declared.awaited.Awaited.{Awaited}

-- it is one of these
abbrev pub is_among : ℕ → List ℕ → Bool
is_among m moments = list_any (λ x. x == m) moments

-- the moment of the last tick, the moments ahead of it at which tasks ripen, and for each seat that of its scope
pub record Awaits (script : Plan) (past : List Entry) (kept : Awaited) : Type 0 where
  pub moment : kept.moment ≡ now_of past
  pub ripe : (m : ℕ) → is_among m kept.ripe.keys ≡ (is_among m (ripe_moments past) && nat_lt (now_of past) m)
  pub counts : kept.counts.items ≡ map (counts_from script past) (all_seats script)
