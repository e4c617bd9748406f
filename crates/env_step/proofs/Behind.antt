-- What a seat has in hand behind a step, and what is known of the step.
-- Cited by `Hands::step`, 7 functions of `driver`, `step_with`, `step_of_item`, `end`, `step_of_worker`.
use Rattle.std.proofs.Common.{◌≡◌, ℕ, ◌≤◌, true, List, refl, sym, ap, ◌∙◌, Option, Some, None}
use Rattle.std.specs.Prelude.{Result, Ok, Err, slice_set}
use Rattle.task_base.specs.declared.entry.Kind.{Kind}
use Rattle.task_base.specs.declared.entry.Kind.TheVariants as kinds
use Rattle.task_model.specs.Seats.{Holding, Running, holding, holding_after, is_free, running, running_after}
use Rattle.hist_model.specs.Legal.{IsLegal}
use Rattle.hist_model.specs.Open.{IsClosed}
use Rattle.hist_model.specs.Views.{own_entries}
use Rattle.hist_model.proofs.Laws.OneThing.{legal_does_one_thing}
use Rattle.hist_model.proofs.Laws.Own.{holding_own, running_own}
use Rattle.hist_model.proofs.Laws.Whole.Rest.{none_of}
use Rattle.task_body.specs.Passes.{PassView}
use Rattle.env_core.specs.Jobs.{HasGoneOn, HasLeft, IsHeld, held_by}
use Rattle.env_core.specs.Views.{EnvView, Enters}
use Rattle.env_step.specs.Hands.{AreInHand}
use Rattle.env_step.specs.declared.hand.Hand.{Hand}
use Rattle.env_step.specs.declared.hand.Hand.TheVariants.{Free, Item}
use Rattle.env_step.proofs.InHand.{all_in_hand, all_same, free_stays, holds_now, runs_now, script_is}
use Rattle.env_step.specs.Steps.{IsOfReading, IsStep, Steps, WaitsFor}
use Rattle.env_step.specs.declared.wait.Wait.{Wait}
use Rattle.env_step.proofs.Nothing.{nothing_comes, waits_free}

-- a seat is free by its own entries where it is by all, and the other way round
pub free_own : (view : EnvView) (seat : ℕ) → is_free view.history seat ≡ true → is_free (own_entries seat view.history) seat ≡ true
free_own view seat free = rw (running_own view.history seat, holding_own view.history seat) free

pub free_all : (view : EnvView) (seat : ℕ) → is_free (own_entries seat view.history) seat ≡ true → is_free view.history seat ≡ true
free_all view seat free = rw (running_own view.history seat, holding_own view.history seat) at free

-- the seat waits for this, and nothing changed
pub waits_so : {before after : EnvView} {seat : ℕ} (reading : ℕ) (wait : Wait) → IsClosed before.script → after ≡ before
    → WaitsFor wait before.script before.history seat → IsStep before after seat reading Free (Err wait)
waits_so {before} {after} {seat} reading wait closed kept waits =
    let free = waits_free before.script before.history seat closed wait waits in
    record {
      in_hand = rw kept (free_own before seat free);
      steps = (kept, nothing_comes before.script before.history seat closed wait waits, waits);
    }

-- the seat, which is free, has made an entry that takes nothing
pub takes_nothing : {before after : EnvView} {seat : ℕ} {kind : Kind} (reading : ℕ) → is_free before.history seat ≡ true
    → ((now : Option Running) → running_after now kind ≡ now) → ((now : Option Holding) → holding_after now kind ≡ now)
    → IsOfReading before.history reading kind → Enters before after seat kind → IsStep before after seat reading Free (Ok kind)
takes_nothing {before} {after} {seat} reading free runs holds read enters =
    record { in_hand = free_stays enters runs holds (free_own before seat free); steps = (enters, read) }

-- a seat that has gone into a job has its item in hand
pub goes_in : {before after : EnvView} {seat : ℕ} (reading : ℕ) (pass : PassView) → seat ≤ before.script.workers
    → Enters before after seat (kinds.JobTake pass.job pass.id pass.item)
    → IsStep before after seat reading (Item pass) (Ok (kinds.JobTake pass.job pass.id pass.item))
goes_in reading pass known enters =
    record { in_hand = record { known = rw (script_is enters) known; holds = holds_now enters }; steps = (enters, tt) }

-- a seat that goes on has its next item in hand
pub goes_on : {before after : EnvView} {seat value : ℕ} (reading : ℕ) (pass next : PassView) → IsHeld before seat pass
    → HasGoneOn before after seat pass value next
    → IsStep before after seat reading (Item next) (Ok (kinds.JobStep pass.job pass.id pass.item value (Some next.item)))
goes_on {before} {after} {seat} reading pass next held on = record {
  in_hand = record {
    known = rw (script_is on.enters) held.known;
    holds = holds_now on.enters ∙ ap (λ (p : PassView). Some (record { job = p.job; id = p.id; item = next.item })) (sym on.next_is);
  };
  steps = (on.enters, tt);
}

-- a seat that has left a job is free
pub leaves_job : {before after : EnvView} {seat value : ℕ} (reading : ℕ) (pass : PassView) → IsLegal before.script before.history
    → IsHeld before seat pass → HasLeft before after seat pass value
    → IsStep before after seat reading Free (Ok (kinds.JobStep pass.job pass.id pass.item value None))
leaves_job {before} {after} {seat} reading pass legal held left = record {
  in_hand = rw (runs_now left.enters ∙ running_own before.history seat ∙ nothing, holds_now left.enters) refl;
  steps = (left.enters, tt);
}
  where
    nothing : running before.history seat ≡ None
    nothing = none_of (running before.history seat) (λ w runs.
        (legal_does_one_thing before.script before.history legal).one_thing seat w (held_by pass) runs (sym (holding_own before.history seat) ∙ held.holds))

-- behind the end of its task a seat that holds nothing is free
pub free_behind_end : {before after : EnvView} {seat : ℕ} {kind : Kind} → Enters before after seat kind
    → ((now : Option Running) → running_after now kind ≡ None) → ((now : Option Holding) → holding_after now kind ≡ now)
    → holding before.history seat ≡ None → is_free (own_entries seat after.history) seat ≡ true
free_behind_end {before} {after} {seat} enters ends keeps nothing = rw (
  runs_now enters ∙ ends (running (own_entries seat before.history) seat),
  holds_now enters ∙ keeps (holding (own_entries seat before.history) seat) ∙ holding_own before.history seat ∙ nothing,
) refl

-- behind a step of a seat all have in hand what is at their places, with what that seat has now
pub all_behind : {before after : EnvView} {seat reading : ℕ} {answer : Result Kind Wait} (hands : List Hand) (hand : Hand) → AreInHand before hands
    → seat ≤ before.script.workers → IsStep before after seat reading hand answer → AreInHand after (slice_set hands seat hand)
all_behind {before} {after} {seat} {reading} {answer} hands hand are known step = by_answer answer step.steps
  where
    by_answer : (a : Result Kind Wait) → Steps before after seat reading a → AreInHand after (slice_set hands seat hand)
    by_answer (Ok kind) steps = all_in_hand hands hand are known steps.0 step.in_hand
    by_answer (Err wait) steps = rw steps.0 (all_same hands hand are known (rw steps.0 at step.in_hand))
