-- What a seat does next that runs a task: its next act step, or its end.
-- Cited by `act_of`, `step_of_task`.
use Rattle.std.proofs.Common.{◌≡◌, ◌≢◌, ℕ, ◌≤◌, Bool, List, refl, sym, ap, subst, ◌∙◌, Some, None}
use Rattle.std.proofs.lemmas.Option.{none-some, same_Some}
use Rattle.std.specs.Prelude.{Ok}
use Rattle.task_base.specs.declared.entry.Entry.{Entry}
use Rattle.task_base.specs.declared.entry.Kind.{Kind}
use Rattle.task_base.specs.declared.step.Step.{Step}
use Rattle.task_base.specs.declared.step.Step.TheVariants as steps
use Rattle.task_model.specs.Seats.{Running, holding}
use Rattle.hist_model.specs.Legal.{IsLegal}
use Rattle.hist_model.specs.Views.{IsSeatsAssignment, own_entries}
use Rattle.hist_model.proofs.Laws.OneThing.{legal_does_one_thing}
use Rattle.hist_model.proofs.Laws.Own.{running_own}
use Rattle.hist_model.proofs.Laws.Whole.Rest.{none_of}
use Rattle.task_body.specs.Bodies.{AssignmentView}
use Rattle.task_body.specs.declared.act.Act.{Act}
use Rattle.task_body.specs.declared.act.Act.TheVariants as acts
use Rattle.env_core.specs.Calls.{CanEnd, CanEndMain, EntersAct, IsNextAct, entry_of}
use Rattle.env_core.specs.Views.{EnvView, Enters}
use Rattle.env_step.specs.Hands.{IsAtTask}
use Rattle.env_step.specs.declared.hand.AtTask.{AtTask}
use Rattle.env_step.specs.declared.hand.Hand.TheVariants.{Task}
use Rattle.env_step.proofs.UnderWay.{GoesTo, all_entered, at_acted, driver_runs_main, next_told, runs_it, worker_runs_pool}
use Rattle.env_step.specs.Steps.{IsOfReading, IsStep}

-- the act that is told of a task is its next one, where one is left
pub next_is_told : {view : EnvView} {seat : ℕ} {work : AssignmentView} (next : Act) → IsAtTask view seat work next → seat ≤ view.script.workers
    → (next ≡ acts.Finished → ⊥) → IsNextAct view seat next
next_is_told (acts.Did k) at known goes_on = absurd (at.due.stops k refl)
next_is_told acts.Finished at known goes_on = absurd (goes_on refl)
next_is_told (acts.Post task runner delay) at known goes_on =
    record { known = known; step = steps.Post task runner delay; is_next = next_told at; is_act = refl }
next_is_told (acts.Main task queue delay) at known goes_on =
    record { known = known; step = steps.Main task queue delay; is_next = next_told at; is_act = refl }
next_is_told (acts.Enter scope) at known goes_on = record { known = known; step = steps.Block scope; is_next = next_told at; is_act = refl }
next_is_told acts.Leave at known goes_on = record { known = known; step = steps.Unblock; is_next = next_told at; is_act = refl }

-- where none is left a worker may end its task
pub can_end : {view : EnvView} {seat : ℕ} {work : AssignmentView} {next : Act} → IsAtTask view seat work next → IsLegal view.script view.history
    → seat ≤ view.script.workers → next ≡ acts.Finished → 1 ≤ seat → CanEnd view seat work
can_end {view} {seat} at legal known ended worker = record {
  known = known;
  seats = at.seats;
  is_pool = worker_runs_pool view.script view.history seat at.seats.now legal worker (runs_it at);
  none_left = at.due.ends ended;
  all_entered = all_entered at ended;
}

-- and the driver its main task
pub can_end_main : {view : EnvView} {seat : ℕ} {work : AssignmentView} {next : Act} → IsAtTask view seat work next → IsLegal view.script view.history
    → next ≡ acts.Finished → seat ≡ 0 → CanEndMain view seat work
can_end_main {view} {seat} at legal ended driver = record {
  seats = at.seats;
  is_main = driver_runs_main view.script view.history seat at.seats.now legal driver (runs_it at);
  none_left = at.due.ends ended;
  all_entered = all_entered at ended;
}

-- the entry of an act is that of the seat's task
pub entered_is : {before after : EnvView} {seat task home value : ℕ} {whole : List Step} {act : Act} {ok : Bool}
    → IsSeatsAssignment before.script (own_entries seat before.history) seat task home value whole
    → (entered : EntersAct before after seat act ok) → entry_of task act ok ≡ Some entered.kind
entered_is {before = before} {seat = seat} {act = act} {ok = ok} seats entered =
    let same : entered.now ≡ seats.now = same_Some entered.now seats.now (sym entered.runs ∙ sym (running_own before.history seat) ∙ seats.runs) in
    ap (λ t. entry_of t act ok) (seats.task_is ∙ ap (λ (w : Running). w.task) (sym same)) ∙ entered.kind_is

-- the entry of an act is no tick
no_tick : (past : List Entry) (reading t : ℕ) (act : Act) (ok : Bool) (kind : Kind) → entry_of t act ok ≡ Some kind → IsOfReading past reading kind
no_tick past reading t (acts.Post task runner delay) ok kind is = subst (IsOfReading past reading) (same_Some _ kind is) tt
no_tick past reading t (acts.Main task queue delay) ok kind is = subst (IsOfReading past reading) (same_Some _ kind is) tt
no_tick past reading t (acts.Enter scope) ok kind is = subst (IsOfReading past reading) (same_Some _ kind is) tt
no_tick past reading t acts.Leave ok kind is = subst (IsOfReading past reading) (same_Some _ kind is) tt
no_tick past reading t act ok kind is = absurd (none-some kind is)

-- who runs a task holds no item
pub holds_nothing : {view : EnvView} {seat : ℕ} {work : AssignmentView} {next : Act} → IsAtTask view seat work next → IsLegal view.script view.history
    → holding view.history seat ≡ None
holds_nothing {view} {seat} at legal = none_of (holding view.history seat)
    (λ h holds. (legal_does_one_thing view.script view.history legal).one_thing seat at.seats.now h (runs_it at) holds)

-- behind its act a task goes on to the next one
pub acted : {before after : EnvView} {seat : ℕ} {work : AssignmentView} {act : Act} {ok : Bool} (kind : Kind) (behind : AtTask)
    → IsAtTask before seat work act → EntersAct before after seat act ok → act ≢ acts.Finished → entry_of work.task act ok ≡ Some kind
    → GoesTo work behind.work behind.next
    → (reading : ℕ) → IsStep before after seat reading (Task behind) (Ok kind)
acted {before} {after} {seat} {work} {act} {ok} kind behind at entered more is goes reading =
    let same : entered.kind ≡ kind = same_Some entered.kind kind (sym (entered_is at.seats entered) ∙ is) in
    record {
      in_hand = at_acted behind.work behind.next at entered more goes;
      steps = (subst (Enters before after seat) same entered.enters, no_tick before.history reading work.task act ok kind is);
    }
