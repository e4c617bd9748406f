-- What holds of a run's ledger at each moment, and which entry may be put into it.
use Rattle.std.specs.Prelude.{◌≡◌, ◌+◌, ◌≤◌, ℕ, List, [], ◌∷◌, ◌++◌, drop, length}
use Rattle.task_base.specs.Plan.{Plan}
use Rattle.task_base.specs.Rows.{Listed}
use Rattle.task_base.specs.declared.entry.Entry.{Entry}
use Rattle.task_base.specs.declared.entry.Kind.{Kind}
use Rattle.script_model.specs.Bound.{events_bound_of}
use Rattle.script_model.specs.Laws.Sound.{IsSound}
use Rattle.hist_model.specs.Allowed.{IsAllowed}
use Rattle.hist_model.specs.Laws.Agenda.{agenda}
use Rattle.hist_model.specs.Legal.{IsLegal}
use Rattle.hist_model.specs.Views.{own_entries}
use Rattle.env_core.specs.Agenda.{counted, shifted}
use Rattle.env_core.specs.Views.{EnvView}
use Rattle.env_core.specs.declared.agenda.Agenda.{Agenda}
use Rattle.env_core.specs.declared.agenda.Shift.{Shift}

-- so many actions of the script are complete, and the next one has made so many entries that count
pub record IsDriverAt (script : Plan) (past : List Entry) (a : Agenda) : Type 0 where
  pub within : a.place ≤ length script.actions
  pub actions_are : (agenda script (own_entries 0 past)).actions ≡ drop a.place script.actions
  pub made_is : counted (agenda script (own_entries 0 past)).actions (agenda script (own_entries 0 past)).made ≡ a.made

-- the script is one that was read, the history is legal, and the driver's place is known
pub record IsUnderWay (view : EnvView) (a : Agenda) : Type 0 where
  pub plan : IsSound view.script
  pub legal : IsLegal view.script view.history
  pub driver : IsDriverAt view.script view.history a

-- so it is of what the ledger has, where there is room for each entry that may come and for no more: what a call took beside
-- its entries would show
pub record IsKept (script : Plan) (log : Listed Entry) (a : Agenda) : Type 0 where
  pub run : IsUnderWay (record { script = script; history = log.items }) a
  pub room : events_bound_of script ≡ length log.items + log.spare

-- the rules allow this entry of the seat, which so shifts the driver's place
pub record MayEnter (view : EnvView) (seat : ℕ) (kind : Kind) (shift : Shift) : Type 0 where
  pub allowed : IsSound view.script → IsAllowed view.script view.history (record { seat = seat; kind = kind })
  pub place : (a : Agenda) → IsUnderWay view a
      → IsDriverAt view.script (view.history ++ (record { seat = seat; kind = kind }) ∷ []) (shifted shift view.script.actions a)
