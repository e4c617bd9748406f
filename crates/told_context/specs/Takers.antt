-- Which seats may take what waits (this project's own rule).
use Rattle.std.specs.Prelude.{◌≡◌, ℕ, ◌+◌, ◌-◌, ◌≤◌, if◌then◌else◌, nat_lt, List, [], ◌∷◌, length, take, Option, Some, None, option_and_then}
use Rattle.std.specs.List.{filter_map, range_with_len}
use Rattle.std.specs.Option.{option_map}
use Rattle.list_laws.specs.Lists.{keep}
use Rattle.task_base.specs.Entries.{entry_by}
use Rattle.task_base.specs.Plan.{Plan}
use Rattle.task_base.specs.declared.entry.Entry.{Entry}
use Rattle.task_base.specs.declared.entry.Kind.{Kind}
use Rattle.task_model.specs.Seats.{is_free}
use Rattle.task_model.specs.Sources.{best_of}
use Rattle.hist_model.specs.Allowed.{is_allowed}
use Rattle.hist_model.specs.Legal.{is_legal}
use Rattle.hist_model.specs.Laws.Ways.{way_to_take}
use Rattle.log_context.specs.declared.sought.TheConstants.{MOST_SEARCHED}
use Rattle.told_context.specs.declared.takers.TheConstants.{TAKERS_SHOWN}

-- what takes the best source of a seat, if it has one
abbrev pub way_to_best : Plan → List Entry → ℕ → Option Kind
way_to_best script past seat = option_and_then (λ c. way_to_take script past c.source) (best_of script past seat)

-- the entry by which a seat that is free takes its best source, where it may come after the past
unfoldable pub taken_by : Plan → List Entry → ℕ → Option Entry
taken_by script past seat =
    if is_free past seat then keep (is_allowed script past) (option_map (entry_by seat) (way_to_best script past seat)) else None

-- these entries of the seats of the script from this one on; none after a past that is not legal
unfoldable pub takers_from : Plan → List Entry → ℕ → List Entry
takers_from script past seat =
    if is_legal script past then filter_map (taken_by script past) (range_with_len seat (script.workers + 1 - seat)) else []

-- the first of these entries of the worker seats; none after a past that is too long
unfoldable pub takers_of : Plan → List Entry → List Entry
takers_of script past = if nat_lt MOST_SEARCHED (length past) then [] else take TAKERS_SHOWN (takers_from script past 1)

-- of the entries of the seats from this one on it is the first, and the others are of the seats after its own
pub record IsFirstOf (script : Plan) (past : List Entry) (seat : ℕ) (e : Entry) : Type 0 where
  pub within : e.seat ≤ script.workers
  pub parted : takers_from script past seat ≡ e ∷ takers_from script past (e.seat + 1)

-- the first entry of the seats from this one on, if there is one
abbrev pub IsFirst : Plan → List Entry → ℕ → Option Entry → Type 0
IsFirst script past seat None = takers_from script past seat ≡ []
IsFirst script past seat (Some e) = IsFirstOf script past seat e
