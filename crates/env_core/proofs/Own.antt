-- What an entry by which a seat takes gives it: the assignment or the pass is the seat's own.
-- Cited by `Env::job_step`, `Env::job_take`, `Env::main_take`, `Env::take`, `Taking`.
use Rattle.std.proofs.Common.{◌≡◌, ℕ, List, [], ◌∷◌, ◌++◌, refl, ◌∙◌, Option, Some}
use Rattle.list_laws.proofs.Values.{eqb-same}
use Rattle.task_base.specs.declared.entry.Entry.{Entry}
use Rattle.task_base.specs.declared.entry.Kind.{Kind}
use Rattle.task_base.specs.declared.step.Step.{Step}
use Rattle.task_model.specs.Seats.{Running, Holding, running, running_after, holding, holding_after, steps_of}
use Rattle.task_model.proofs.Growth.{running_push, holding_push}
use Rattle.hist_model.proofs.Laws.Own.{running_own, holding_own}
use Rattle.hist_model.specs.Views.{own_entries, IsSeatsAssignment, IsSeatsPass}
use Rattle.env_core.specs.Views.{EnvView, Enters}

-- an assignment whose task the entry takes
pub assignment_is_own : (before after : EnvView) (seat : ℕ) (kind : Kind) (now : Running) (whole : List Step) → Enters before after seat kind
    → ((old : Option Running) → running_after old kind ≡ Some now) → whole ≡ steps_of before.script now.task
    → IsSeatsAssignment after.script (own_entries seat after.history) seat now.task now.home now.found whole
assignment_is_own before after seat kind now whole enters takes whole_is = rw enters.entered (record {
  now = now;
  runs = runs;
  task_is = refl;
  home_is = refl;
  found_is = refl;
  whole_is = whole_is;
})
  where
    e : Entry
    e = record { seat = seat; kind = kind }

    runs : running (own_entries seat (before.history ++ e ∷ [])) seat ≡ Some now
    runs = running_own (before.history ++ e ∷ []) seat ∙ running_push before.history e seat ∙ rw (eqb-same seat) (takes (running before.history seat))

-- a pass for the item that the entry gives
pub pass_is_own : (before after : EnvView) (seat : ℕ) (kind : Kind) (now : Holding) → Enters before after seat kind
    → ((old : Option Holding) → holding_after old kind ≡ Some now) → IsSeatsPass (own_entries seat after.history) seat now.job now.id now.item
pass_is_own before after seat kind now enters gives = rw enters.entered holds
  where
    e : Entry
    e = record { seat = seat; kind = kind }

    holds : holding (own_entries seat (before.history ++ e ∷ [])) seat ≡ Some now
    holds = holding_own (before.history ++ e ∷ []) seat ∙ holding_push before.history e seat ∙ rw (eqb-same seat) (gives (holding before.history seat))
