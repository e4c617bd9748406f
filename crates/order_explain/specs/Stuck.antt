-- What stands against an event after the beginning of an order.
use Rattle.std.specs.Prelude.{◌≡◌, true, false, Contains, List, Some}
use Rattle.task_base.specs.Plan.{Plan}
use Rattle.hist_model.specs.Allowed.{is_allowed}
use Rattle.hist_model.specs.Open.{IsOpen}
use Rattle.order_model.specs.declared.event.Event.{Event}
use Rattle.order_model.specs.Orders.{entries_of, is_before, may_precede}
use Rattle.next_entry.specs.Causes.{Explains}
use Rattle.next_entry.specs.declared.cause.Explanation.{Explanation}
use Rattle.next_entry.specs.declared.cause.Explanation.TheVariants as explanations
use Rattle.next_entry.specs.declared.open_cause.OpenTold.{OpenTold}
use Rattle.next_entry.specs.declared.open_cause.OpenTold.TheVariants as open_told
use Rattle.open_explain.specs.Told.{Bars}
use Rattle.order_explain.specs.declared.stuck.Stuck.{Stuck}
use Rattle.order_explain.specs.declared.stuck.Stuck.TheVariants.{Waits, Barred, OpenBarred, Free}

-- what is said of the last entry of a log, whose entries before it are legal (this project's own)
abbrev pub stuck_told : Explanation → Stuck
stuck_told (explanations.Barred place cause) = Barred cause
stuck_told told = Free

-- the same of a log of an open plan
abbrev pub stuck_open : OpenTold → Stuck
stuck_open (open_told.Barred place cause) = OpenBarred cause
stuck_open told = Free

-- what is said of the event is so, after these events and with those left: one of those left came before it by the times; or none did,
-- the rules don't allow its entry there, and the cause, of a script or of an open plan, holds; or none did, and they allow it (this project's
-- own rule)
abbrev pub IsStuck : Plan → List Event → List Event → Event → Stuck → Type 0
IsStuck script events rest e (Waits other) = Contains rest other × (is_before other e ≡ true)
IsStuck script events rest e (Barred cause) =
    (may_precede e rest ≡ true) × (is_allowed script (entries_of events) e.entry ≡ false)
    × Explains cause script (entries_of events) e.entry.seat (Some e.entry.kind)
IsStuck script events rest e (OpenBarred cause) =
    IsOpen script × (may_precede e rest ≡ true) × (is_allowed script (entries_of events) e.entry ≡ false)
    × Bars cause script (entries_of events) e.entry
IsStuck script events rest e Free = (may_precede e rest ≡ true) × (is_allowed script (entries_of events) e.entry ≡ true)
