-- What the driver has left to do, and how one more entry of its own moves it on (this project's own rules).
use Rattle.std.specs.Prelude.{◌+◌, ◌==◌, Bool, true, ◌&&◌, ◌||◌, nat_le, if◌then◌else◌, List, [], ◌∷◌, ◌++◌, length, Option, Some, None}
use Rattle.std.specs.Option.{option_map_or}
use Rattle.task_base.specs.Plan.{Plan}
use Rattle.task_base.specs.declared.entry.Entry.{Entry}
use Rattle.task_base.specs.declared.entry.Kind.{Kind}
use Rattle.task_base.specs.declared.script.Action.{Action}
use Rattle.task_base.specs.declared.script.Action.TheVariants as actions
use Rattle.list_laws.specs.Lists.{count}
use Rattle.hist_model.specs.Script.{behind_action, is_joined, is_main_none, is_main_end, Current}

-- the actions whose parts are not complete, and the entries that the first of them has made
pub record Agenda : Type 0 where
  pub actions : List Action
  pub made : List Entry

-- each action takes its part from the front of the entries
abbrev pub agenda_from : List Action → List Entry → Agenda
agenda_from [] own = record { actions = []; made = own }
agenda_from (action ∷ rest) own = option_map_or (λ left. agenda_from rest left) (behind_action action own) (record { actions = action ∷ rest; made = own })

-- what the driver has left to do, by its own entries
unfoldable pub agenda : Plan → List Entry → Agenda
agenda script own = agenda_from script.actions own

-- the first of some actions, with the entries that it has made
abbrev pub first_of : List Action → List Entry → Option Current
first_of [] made = None
first_of (action ∷ rest) made = Some (record { action = action; made = made })

-- the action that an agenda begins with
abbrev pub current_of : Agenda → Option Current
current_of a = first_of a.actions a.made

-- whether one more entry of this kind completes an action that has made these entries: a tick has its count of
-- entries; a pump ends where there is no main task or where the count of main tasks has ended; a join ends where the job
-- is joined; a cancel and a shutdown make two entries, and each other action one
abbrev pub completes : Action → List Entry → Kind → Bool
completes (actions.Tick count) made kind = length made + 1 == count
completes (actions.Pump n) made kind = is_main_none kind || (is_main_end kind && nat_le n (count (λ e. is_main_end e.kind) made + 1))
completes (actions.Join job) made kind = is_joined kind
completes (actions.Cancel job) made kind = length made + 1 == 2
completes actions.Shutdown made kind = length made + 1 == 2
completes action made kind = true

-- one more entry of an action that is not complete: it completes the action, and the next one begins, or the action has
-- made one more
abbrev pub next_agenda : List Action → List Entry → Entry → Agenda
next_agenda [] made e = record { actions = []; made = made ++ e ∷ [] }
next_agenda (action ∷ rest) made e =
    if completes action made e.kind then agenda_from rest [] else record { actions = action ∷ rest; made = made ++ e ∷ [] }

-- the agenda after one more entry of the driver
abbrev pub agenda_after : Agenda → Entry → Agenda
agenda_after a e = next_agenda a.actions a.made e
