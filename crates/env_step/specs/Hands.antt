-- What a seat has in hand.
use Rattle.std.specs.Prelude.{◌≡◌, ◌≢◌, ℕ, ◌+◌, Bool, true, false, List, [], ◌∷◌, ◌++◌, filter, length, slice_get, Some}
use Rattle.task_base.specs.Steps.{is_act}
use Rattle.task_base.specs.declared.step.Step.{Step}
use Rattle.task_base.specs.declared.step.Step.TheVariants as steps
use Rattle.task_model.specs.Seats.{acts_done, is_free}
use Rattle.hist_model.specs.Legal.{IsLegal}
use Rattle.hist_model.specs.Open.{IsClosed}
use Rattle.hist_model.specs.Views.{own_entries, IsSeatsAssignment}
use Rattle.task_body.specs.Bodies.{AssignmentView}
use Rattle.task_body.specs.declared.act.Act.{Act}
use Rattle.task_body.specs.declared.act.Act.TheVariants as acts
use Rattle.env_core.specs.Jobs.{IsHeld}
use Rattle.env_core.specs.Views.{EnvView}
use Rattle.env_step.specs.declared.hand.Hand.{Hand}
use Rattle.env_step.specs.declared.hand.Hand.TheVariants.{Free, Task, Item}

-- the act step that an act tells, if it tells one
abbrev pub told_by : Act → List Step
told_by (acts.Did count) = []
told_by (acts.Post task runner delay) = steps.Post task runner delay ∷ []
told_by (acts.Main task queue delay) = steps.Main task queue delay ∷ []
told_by (acts.Enter scope) = steps.Block scope ∷ []
told_by acts.Leave = steps.Unblock ∷ []
told_by acts.Finished = []

-- of the act steps of all these steps so many were entered, this act is the next one, and those of the rest come behind it;
-- where there is none, no step is left
pub record IsDue (whole rest : List Step) (next : Act) (n : ℕ) : Type 0 where
  pub done : List Step
  pub parted : filter is_act whole ≡ done ++ told_by next ++ filter is_act rest
  pub count : length done ≡ n
  pub stops : (k : ℕ) → next ≢ acts.Did k
  pub ends : next ≡ acts.Finished → rest ≡ []

-- the seat runs the task of this assignment, of which this act is due
pub record IsAtTask (view : EnvView) (seat : ℕ) (work : AssignmentView) (next : Act) : Type 0 where
  pub seats : IsSeatsAssignment view.script (own_entries seat view.history) seat work.task work.home work.found work.whole
  pub due : IsDue work.whole work.rest next (acts_done (own_entries seat view.history) seat)

-- nothing is in hand
abbrev pub is_empty : Hand → Bool
is_empty Free = true
is_empty hand = false

-- the seat has this in hand
abbrev pub IsInHand : EnvView → ℕ → Hand → Type 0
IsInHand view seat Free = is_free (own_entries seat view.history) seat ≡ true
IsInHand view seat (Task at) = IsAtTask view seat at.work at.next
IsInHand view seat (Item pass) = IsHeld view seat pass

-- the plan is closed, the history is legal, and each seat has in hand what is at its place
pub record AreInHand (view : EnvView) (hands : List Hand) : Type 0 where
  pub closed : IsClosed view.script
  pub legal : IsLegal view.script view.history
  pub all : length hands ≡ view.script.workers + 1
  pub each : (seat : ℕ) (hand : Hand) → slice_get hands seat ≡ Some hand → IsInHand view seat hand
