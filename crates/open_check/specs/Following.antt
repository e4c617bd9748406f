-- How a live core follows a log, by the calls of its entries.
use Rattle.std.specs.Prelude.{◌≡◌, true, false, List, [], ◌∷◌, ◌++◌, slice_get, take, Option, Some, None, Result, Ok, Err}
use Rattle.task_base.specs.Entries.{entry_by}
use Rattle.task_base.specs.Plan.{Plan}
use Rattle.task_base.specs.declared.entry.Entry.{Entry}
use Rattle.hist_model.specs.Allowed.{IsAllowed, is_allowed}
use Rattle.hist_model.specs.Legal.{first_illegal}
use Rattle.live_core.specs.Answers.{IsMadeBy, LacksFor}
use Rattle.live_core.specs.Calls.{call_of, fits, seat_of}
use Rattle.live_core.specs.StandsFor.{StandsFor}
use Rattle.live_core.specs.declared.live.LiveCore.{LiveCore}
use Rattle.live_core.specs.declared.unmade.Unmade.{Unmade}
use Rattle.live_core.specs.declared.unmade.Unmade.TheVariants.{Misuse, Full}
use Rattle.open_check.specs.declared.follow.Against.{Against}
use Rattle.open_check.specs.declared.follow.Against.TheVariants as against
use Rattle.open_check.specs.declared.follow.Stop.{Stop}

-- the call that the entry is of is one of its seat
abbrev pub IsOwnCall : Entry → Type 0
IsOwnCall e = seat_of (call_of e.seat e.kind) ≡ e.seat

-- why the call of the entry makes none: it does not fit, or lacks what it asks for. There is always room
abbrev pub IsUnmade : Plan → List Entry → Entry → Unmade → Type 0
IsUnmade plan past e Misuse = fits plan past (call_of e.seat e.kind) ≡ false
IsUnmade plan past e Full = ⊥
IsUnmade plan past e why = LacksFor plan past (call_of e.seat e.kind) why

-- this is against the entry after the past: its call is the driver's, and it another seat's; its call makes another entry, which may come;
-- or its call makes none
abbrev pub IsAgainst : Plan → List Entry → Entry → Against → Type 0
IsAgainst plan past e against.OtherSeat = IsOwnCall e → ⊥
IsAgainst plan past e (against.Made next) = IsOwnCall e × IsMadeBy plan past (call_of e.seat e.kind) next × IsAllowed plan past (entry_by e.seat next)
IsAgainst plan past e (against.Unmade why) = IsOwnCall e × IsUnmade plan past e why

-- where no entry was made in its place, the core stands for the past as before
abbrev pub Stays : Plan → List Entry → LiveCore → Against → Type 0
Stays plan past after (against.Made next) = Unit {0}
Stays plan past after other = StandsFor plan past after

-- the entry may come, and the core stands for the past with it; or it may not, and this is against it
abbrev pub Follows : Plan → List Entry → Entry → LiveCore → Option Against → Type 0
Follows plan past e after None = (is_allowed plan past e ≡ true) × StandsFor plan (past ++ e ∷ []) after
Follows plan past e after (Some stop) = (is_allowed plan past e ≡ false) × IsAgainst plan past e stop × Stays plan past after stop

-- the entry at a place is the first of the log that may not come, and this is against it
pub record IsStopped (plan : Plan) (log : List Entry) (after : LiveCore) (stop : Stop) : Type 0 where
  pub first : first_illegal plan log ≡ Some stop.place
  pub entry : Entry
  pub there : slice_get log stop.place ≡ Some entry
  pub is : IsAgainst plan (take stop.place log) entry stop.against
  pub stays : Stays plan (take stop.place log) after stop.against

-- each entry of the log may come, and the core stands for it; or one may not
abbrev pub AreFollowed : Plan → List Entry → LiveCore → Result (Unit {0}) Stop → Type 0
AreFollowed plan log after (Ok done) = (first_illegal plan log ≡ None) × StandsFor plan log after
AreFollowed plan log after (Err stop) = IsStopped plan log after stop
