-- The driver's place in a script, and how its entries move it on.
use Rattle.std.specs.Prelude.{ℕ, ◌+◌, ◌==◌, if◌then◌else◌, List, ◌∷◌, length, slice_get}
use Rattle.std.specs.Option.{option_map_or}
use Rattle.list_laws.specs.Lists.{count}
use Rattle.task_base.specs.declared.entry.Entry.{Entry}
use Rattle.task_base.specs.declared.script.Action.{Action}
use Rattle.task_base.specs.declared.script.Action.TheVariants as actions
use Rattle.hist_model.specs.Script.{is_joined, is_main_end}
use Rattle.env_core.specs.declared.agenda.Agenda.{Agenda}
use Rattle.env_core.specs.declared.agenda.Shift.{Shift}
use Rattle.env_core.specs.declared.agenda.Shift.TheVariants as shifts

-- how many entries complete an action: all that it makes, of a pump those at which a main task ends, and of a join its reply
abbrev pub entries_of : Action → ℕ
entries_of (actions.Tick count) = count
entries_of (actions.Pump count) = count
entries_of (actions.Cancel job) = 2
entries_of actions.Shutdown = 2
entries_of action = 1

-- of the entries that the first of some actions has made, how many count towards these
abbrev pub counted : List Action → List Entry → ℕ
counted (actions.Pump n ∷ rest) made = count (λ e. is_main_end e.kind) made
counted (actions.Join job ∷ rest) made = count (λ e. is_joined e.kind) made
counted actions made = length made

-- the place behind a complete action
abbrev pub passed : Agenda → Agenda
passed a = record { place = a.place + 1; made = 0 }

-- the place after one more entry of an action that counts
abbrev pub behind_one : Agenda → Action → Agenda
behind_one a action = if a.made + 1 == entries_of action then passed a else record a { made = a.made + 1 }

-- the place after one more entry that counts
abbrev pub moved_on : List Action → Agenda → Agenda
moved_on actions a = option_map_or (behind_one a) (slice_get actions a.place) a

-- the place after an entry that completes an action at once
abbrev pub passed_on : List Action → Agenda → Agenda
passed_on actions a = option_map_or (λ action. passed a) (slice_get actions a.place) a

-- the place after an entry that so shifts it
abbrev pub shifted : Shift → List Action → Agenda → Agenda
shifted shifts.Stays actions a = a
shifted shifts.Counts actions a = moved_on actions a
shifted shifts.Completes actions a = passed_on actions a
