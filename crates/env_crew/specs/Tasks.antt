-- A task that a seat has taken, while its steps are done.
use Rattle.std.specs.Prelude.{◌≡◌, ℕ, ◌≤◌, true, List, [], ◌++◌, filter, length}
use Rattle.std.specs.List.{AllByRecursion}
use Rattle.task_base.specs.Steps.{is_act}
use Rattle.task_base.specs.declared.entry.Entry.{Entry}
use Rattle.task_base.specs.declared.step.Step.{Step}
use Rattle.task_base.specs.Entries.{is_acting}
use Rattle.task_model.specs.Seats.{acts_done}
use Rattle.hist_model.specs.Views.{IsSeatsAssignment}
use Rattle.task_body.specs.Bodies.{AssignmentView}
use Rattle.env_crew.specs.Desk.{DeskView, IsLater, mine}

-- of the act steps of all these steps so many were entered, and those of the rest were not
pub record Parted (whole rest : List Step) (n : ℕ) : Type 0 where
  pub done : List Step
  pub parted : filter is_act whole ≡ done ++ filter is_act rest
  pub count : length done ≡ n

-- the seat runs the task of this assignment, and has entered the act steps of the steps that are done, and no others
pub record IsUnderWay (d : DeskView) (work : AssignmentView) : Type 0 where
  pub known : d.seat ≤ d.script.workers
  pub seats : IsSeatsAssignment d.script (mine d) d.seat work.task work.home work.found work.whole
  pub entered : Parted work.whole work.rest (acts_done (mine d) d.seat)

-- the same desk, now or later; what the seat entered meanwhile are act steps
pub record HasDoneActs (old new : DeskView) : Type 0 where
  pub later : IsLater old new
  pub made : List Entry
  pub grows : mine new ≡ mine old ++ made
  pub acts : AllByRecursion (λ e. is_acting e.kind ≡ true) made

-- the seat runs this task, of which no step is left; since then, when it was this one, the seat entered its act steps alone
pub record HasDoneSteps (old new : DeskView) (begun work : AssignmentView) : Type 0 where
  pub under_way : IsUnderWay new work
  pub none_left : work.rest ≡ []
  pub same : work ≡ record begun { value = work.value; rest = [] }
  pub acts : HasDoneActs old new
