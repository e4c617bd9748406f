-- What stands against an event, as lines of plain words.
use Rattle.std.specs.Prelude.{ℕ, List, ◌++◌, codes}
use Rattle.explain_text.specs.OpenPlain.{open_cause_line}
use Rattle.explain_text.specs.Plain.{cause_line}
use Rattle.order_model.specs.declared.event.Event.{Event}
use Rattle.event_text.specs.EventText.{event_line}
use Rattle.order_explain.specs.declared.stuck.Stuck.{Stuck}
use Rattle.order_explain.specs.declared.stuck.Stuck.TheVariants.{Waits, Barred, OpenBarred, Free}

-- what stands against an event of a seat after so many others (this project's own words)
abbrev pub against_line : ℕ → ℕ → Stuck → List ℕ
against_line place seat (Waits other) = codes "  by its times this came before it: " ++ event_line other
against_line place seat (Barred cause) = codes "  " ++ cause_line place seat cause
against_line place seat (OpenBarred cause) = codes "  " ++ open_cause_line place seat cause
against_line place seat Free = codes "  it may come\n"

-- what a seat saw next, and what stands against it: two lines (this project's own words)
abbrev pub stuck_text : ℕ → Event → Stuck → List ℕ
stuck_text place e stuck = codes "saw: " ++ event_line e ++ against_line place e.entry.seat stuck
