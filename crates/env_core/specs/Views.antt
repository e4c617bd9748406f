-- What contracts see of the environment, and what a call does to it.
use Rattle.std.specs.Prelude.{◌≡◌, ℕ, ◌+◌, ◌-◌, ◌≤◌, List, [], ◌∷◌, ◌++◌, length}
use Rattle.task_base.specs.Plan.{Plan}
use Rattle.task_base.specs.declared.entry.Entry.{Entry}
use Rattle.task_base.specs.declared.entry.Kind.{Kind}
use Rattle.task_base.specs.declared.limits.TheConstants.{MOST_EVENTS}
use Rattle.script_model.specs.Bound.{events_bound_of}
use Rattle.hist_model.specs.Allowed.{IsAllowed}
use Rattle.hist_model.specs.Legal.{IsLegal}

-- the script that is run, and the entries so far
pub record EnvView : Type 0 where
  pub script : Plan
  pub history : List Entry

-- the entries that still fit: at the start there is room for as many as the script's bound
unfoldable pub spare_of : EnvView → ℕ
spare_of view = events_bound_of view.script - length view.history

-- the call added this entry of the seat, which the rules allow, and nothing else; one entry less fits than before
pub record Enters (before after : EnvView) (seat : ℕ) (kind : Kind) : Type 0 where
  pub entered : after ≡ record before { history = before.history ++ (record { seat = seat; kind = kind }) ∷ [] }
  pub allowed : IsAllowed before.script before.history (record { seat = seat; kind = kind })
  pub legal : IsLegal after.script after.history
  pub bounded : length after.history ≤ MOST_EVENTS
  pub room : spare_of after + 1 ≡ spare_of before
