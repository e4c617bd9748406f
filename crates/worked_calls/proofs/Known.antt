-- What a test knows behind its calls, and what that allows.
-- Cited by `end`, `end_main`, `end`, `Scopes`.
use Rattle.std.proofs.Common.{◌≡◌, ℕ, Bool, List, [], length, refl, sym, ap, ◌∙◌, false, true, Some}
use Rattle.std.specs.Prelude.{filter}
use Rattle.list_laws.proofs.Values.{some-injective}
use Rattle.task_base.specs.Plan.{Plan}
use Rattle.task_base.specs.Steps.{is_act}
use Rattle.task_base.specs.declared.entry.Kind.{Kind}
use Rattle.task_base.specs.declared.step.Step.{Step}
use Rattle.task_model.specs.Seats.{Running, running}
use Rattle.task_body.specs.Bodies.{AssignmentView}
use Rattle.task_body.specs.declared.act.Act.{Act}
use Rattle.env_core.specs.Calls.{CanEnd, CanEndMain, EntersAct, entry_of}
use Rattle.env_core.specs.Views.{EnvView}
use Rattle.worked_calls.specs.Known.{IsLast, IsLastMain, IsWork, with_entry}

-- a step of an assignment leaves what it is for
pub still : (script : Plan) (task : ℕ) (old new : AssignmentView) → IsWork script task old → new ≡ record old { value = new.value; rest = new.rest }
    → IsWork script task new
still script task old new work same = rw same (record {
  task_is = work.task_is;
  home_is = work.home_is;
  found_is = work.found_is;
  whole_is = work.whole_is;
})

-- a worker whose task has no step left may end it
pub can_end : (view : EnvView) (seat task : ℕ) (work : AssignmentView) → IsWork view.script task work → work.rest ≡ [] → IsLast view seat task
    → CanEnd view seat work
can_end view seat task work is none last = record {
  known = last.known;
  seats = record {
    now = record { task = task; home = 0; found = 0; is_main = false };
    runs = last.runs;
    task_is = is.task_is;
    home_is = is.home_is;
    found_is = is.found_is;
    whole_is = is.whole_is;
  };
  is_pool = refl;
  none_left = none;
  all_entered = last.all_entered ∙ sym (ap (λ (s : List Step). length (filter is_act s)) is.whole_is);
}

-- a driver whose main task has no step left may end it
pub can_end_main : (view : EnvView) (task : ℕ) (work : AssignmentView) → IsWork view.script task work → work.rest ≡ [] → IsLastMain view task
    → CanEndMain view 0 work
can_end_main view task work is none last = record {
  seats = record {
    now = record { task = task; home = 0; found = 0; is_main = true };
    runs = last.runs;
    task_is = is.task_is;
    home_is = is.home_is;
    found_is = is.found_is;
    whole_is = is.whole_is;
  };
  is_main = refl;
  none_left = none;
  all_entered = last.all_entered ∙ sym (ap (λ (s : List Step). length (filter is_act s)) is.whole_is);
}

-- the entry of an act is of the task that the seat runs
pub enters_act : (before after : EnvView) (seat : ℕ) (act : Act) (ok : Bool) (kind : Kind) (now : Running) → running before.history seat ≡ Some now
    → entry_of now.task act ok ≡ Some kind → EntersAct before after seat act ok → after ≡ with_entry before seat kind
enters_act before after seat act ok kind now runs told acted =
    let same : acted.now ≡ now = some-injective (sym acted.runs ∙ runs) in
    let kind_is : acted.kind ≡ kind = some-injective (sym acted.kind_is ∙ ap (λ (r : Running). entry_of r.task act ok) same ∙ told) in
    acted.enters.entered ∙ ap (λ k. with_entry before seat k) kind_is
