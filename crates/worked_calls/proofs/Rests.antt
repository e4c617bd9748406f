-- Seats that rest, sleep, and are woken.
-- Cited by `desk_calls.rt`.
use Rattle.std.proofs.Common.{◌≡◌, ℕ, false, List, ◌++◌, refl, subst, ap, ◌∙◌, append_assoc, arith}
use Rattle.task_base.specs.declared.entry.Entry.{Entry}
use Rattle.task_base.specs.declared.entry.Kind.{Kind}
use Rattle.task_base.specs.declared.entry.Kind.TheVariants as kinds
use Rattle.hist_model.specs.Views.{own_entries}
use Rattle.env_core.specs.Calls.{HasNothing}
use Rattle.env_crew.specs.Calls.{HasIdled}
use Rattle.env_crew.specs.Desk.{DeskView, Holds, IsLater, as_seen, mine, view_at, with_own}
use Rattle.env_crew.specs.Driving.{IsWanted}
use Rattle.env_crew.specs.Serving.{IsFree}
use Rattle.worked_calls.proofs.Seated.{later_entered, own_entered}

-- the seat's entries stay where nothing was entered
mine_kept : (old new : DeskView) (past : List Entry) → Holds old past new → as_seen new ≡ view_at old past
    → own_entries new.seat new.seen ≡ own_entries old.seat old.seen
mine_kept old new past holds kept = rw (holds.seat_is, ap (λ v. v.history) kept) holds.own

-- A worker that found nothing.

pub nothing_later : (old new : DeskView) (past : List Entry) → Holds old past new → HasNothing (view_at old past) (as_seen new) old.seat → IsLater old new
nothing_later old new past holds found = record {
  script_is = holds.script_is;
  seat_is = holds.seat_is;
  origin_is = holds.origin_is;
  grows = (holds.begins.0, ap (λ v. v.history) found.kept ∙ holds.begins.1);
  turned = omega (arith, holds.turned);
  loads_is = holds.loads_is;
  last_is = holds.last_is;
  told_on = holds.told_on;
}

pub nothing_free : (old new : DeskView) (past : List Entry) → Holds old past new → HasNothing (view_at old past) (as_seen new) old.seat
    → IsFree old → IsFree new
nothing_free old new past holds found was = record {
  worker = rw holds.seat_is was.worker;
  known = rw (holds.seat_is, holds.script_is) was.known;
  free = rw (mine_kept old new past holds found.kept) (rw holds.seat_is was.free);
}

-- A desk that slept.

-- it is as free as it was
pub slept_free : (old new : DeskView) → new ≡ record old { rests = false } → IsFree old → IsFree new
slept_free old new is was = rw is was

-- what is later than it is later than before its sleep
pub slept_later : (old slept new : DeskView) → slept ≡ record old { rests = false } → IsLater slept new → IsLater old new
slept_later old slept new is later =
    let on : IsLater (record old { rests = false }) new = subst (λ (d : DeskView). IsLater d new) is later in record {
      script_is = on.script_is;
      seat_is = on.seat_is;
      origin_is = on.origin_is;
      grows = on.grows;
      turned = on.turned;
      loads_is = on.loads_is;
      last_is = on.last_is;
      told_on = on.told_on;
    }

-- The driver that saw the pool idle.

pub idled_later : (old new : DeskView) (past : List Entry) → Holds old past new → HasIdled old.seat (view_at old past) (as_seen new) → IsLater old new
idled_later old new past holds idled = later_entered holds kinds.Idle idled.enters

pub idled_own : (old new : DeskView) (past : List Entry) → Holds old past new → HasIdled old.seat (view_at old past) (as_seen new)
    → mine new ≡ with_own old kinds.Idle
idled_own old new past holds idled = own_entered holds kinds.Idle idled.enters

-- The driver, which rested and slept.

-- the script wants the same of it next
pub rested_wanted : (old rested slept : DeskView) (past : List Entry) (kind : Kind) → Holds old past rested → as_seen rested ≡ view_at old past
    → slept ≡ record rested { rests = false } → IsWanted old kind → IsWanted slept kind
rested_wanted old rested slept past kind holds kept is was =
    let same : own_entries rested.seat rested.seen ≡ own_entries old.seat old.seen = mine_kept old rested past holds kept in
    let own : own_entries 0 rested.seen ≡ own_entries 0 old.seen
    = subst (λ (k : ℕ). own_entries k rested.seen ≡ own_entries k old.seen) was.driver (rw holds.seat_is at same) in
    rw is (record { driver = holds.seat_is ∙ was.driver; wanted = rw (holds.script_is, own) was.wanted })

-- it is later by what came then
pub rested_later : (old rested slept new : DeskView) (past : List Entry) → Holds old past rested → as_seen rested ≡ view_at old past
    → slept ≡ record rested { rests = false } → IsLater slept new → IsLater old new
rested_later old rested slept new past holds kept is later =
    let on : IsLater rested new = slept_later rested slept new is later in record {
      script_is = on.script_is ∙ holds.script_is;
      seat_is = on.seat_is ∙ holds.seat_is;
      origin_is = on.origin_is ∙ holds.origin_is;
      grows = (
        holds.begins.0 ++ on.grows.0,
        on.grows.1 ∙ ap (λ s. s ++ on.grows.0) (ap (λ v. v.history) kept ∙ holds.begins.1) ∙ append_assoc old.seen holds.begins.0 on.grows.0,
      );
      turned = omega (arith, holds.turned, on.turned);
      loads_is = on.loads_is ∙ holds.loads_is;
      last_is = on.last_is ∙ holds.last_is;
      told_on = λ told. on.told_on (holds.told_on told);
    }

-- and has made this entry
pub rested_own : (old rested slept new : DeskView) (past : List Entry) (kind : Kind) → Holds old past rested → as_seen rested ≡ view_at old past
    → slept ≡ record rested { rests = false } → mine new ≡ with_own slept kind → mine new ≡ with_own old kind
rested_own old rested slept new past kind holds kept is own = own ∙ rw (is, mine_kept old rested past holds kept, holds.seat_is) refl
