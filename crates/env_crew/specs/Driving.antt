-- What the driver does at its desk, and what becomes of the desks that it serves while it waits.
use Rattle.std.specs.Prelude.{◌≡◌, ℕ, ◌+◌, ◌<◌, true, List, [], ◌∷◌, length, slice_get, Option, Some}
use Rattle.task_base.specs.declared.script.Action.{Action}
use Rattle.task_base.specs.declared.entry.Entry.{Entry}
use Rattle.task_base.specs.declared.entry.Kind.{Kind}
use Rattle.task_model.specs.Seats.{is_free}
use Rattle.hist_model.specs.Open.{IsClosed}
use Rattle.hist_model.specs.Moments.{moments_of, ticks_of}
use Rattle.hist_model.specs.Laws.Agenda.{agenda, agenda_from}
use Rattle.env_io.specs.Readings.{BeginsWith}
use Rattle.env_core.specs.Calls.{IsWantedNext}
use Rattle.env_crew.specs.Desk.{DeskView, IsLater, as_seen, mine}
use Rattle.env_crew.specs.Serving.{IsFree}

-- the desk is the driver's, and the script wants an entry of this kind of it next
abbrev pub IsWanted : DeskView → Kind → Type 0
IsWanted d kind = IsWantedNext (as_seen d) d.seat kind

-- the plan is closed, these actions of it are left to the driver, and the first of them has made these entries
unfoldable pub AreLeft : DeskView → List Action → List Entry → Type 0
AreLeft d actions made = IsClosed d.script × (agenda d.script (mine d) ≡ agenda_from actions made)

-- the ticks are the moments of as many first readings, where those are told
abbrev pub HasMomentsOf : (ℕ → Option ℕ) → List Entry → Type 0
HasMomentsOf told log = (readings : List ℕ) → BeginsWith told readings → length readings ≡ length (ticks_of log) → ticks_of log ≡ moments_of readings

-- of a clock that told these readings at the start: the ticks among the driver's entries are their moments, and what it tells
-- now comes behind those
pub record KeepsTime (told now : ℕ → Option ℕ) (log : List Entry) : Type 0 where
  pub moments : HasMomentsOf told log
  pub behind : (k : ℕ) → now k ≡ told (length (ticks_of log) + k)

-- the driver has done this action, with a clock that told these readings before, and those now: the next one begins, the driver
-- runs and holds nothing, and it keeps the clock's time
pub record HasDone (action : Action) (old new : DeskView) (told_then told_now : ℕ → Option ℕ) : Type 0 where
  pub later : IsLater old new
  pub next : (rest : List Action) → AreLeft old (action ∷ rest) [] → AreLeft new rest []
  pub rests : is_free (mine new) 0 ≡ true
  pub time : (told : ℕ → Option ℕ) → KeepsTime told told_then (mine old) → KeepsTime told told_now (mine new)

-- each of the desks is a worker's that runs nothing
abbrev pub AllFree : {D : Type 0} → (D → DeskView) → List D → Type 0
AllFree {D} desk desks = (i : ℕ) (d : D) → slice_get desks i ≡ Some d → IsFree (desk d)

-- the same desks in the same order, now or later
pub record SameDesks {D : Type 0} (desk : D → DeskView) (old new : List D) : Type 0 where
  pub as_many : length new ≡ length old
  pub each : (i : ℕ) (a b : D) → slice_get old i ≡ Some a → slice_get new i ≡ Some b → IsLater (desk a) (desk b)

-- each of the desks has taken the turn since, once at least
abbrev pub AllServed : {D : Type 0} → (D → DeskView) → List D → List D → Type 0
AllServed {D} desk old new = (i : ℕ) (a b : D) → slice_get old i ≡ Some a → slice_get new i ≡ Some b → (desk a).turns < (desk b).turns
