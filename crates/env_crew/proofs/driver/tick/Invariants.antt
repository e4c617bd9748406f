use Rattle.std.proofs.Common.{◌≡◌, ℕ, true, List, ◌∷◌, [], length, Option}
use Rattle.task_base.specs.declared.entry.Entry.{Entry}
use Rattle.task_base.specs.declared.script.Action.{Action}
use Rattle.task_base.specs.declared.script.Action.TheVariants as actions
use Rattle.task_model.specs.Seats.{is_free}
use Rattle.env_crew.specs.Desk.{DeskView, IsLater, mine}
use Rattle.env_crew.specs.Driving.{AreLeft, KeepsTime}
use Rattle.env_crew.proofs.driver.tick.Given as goal

-- the driver has made these ticks, as many as were counted
pub record Ticking (start now : DeskView) (count counter : ℕ) (told_then told_now : ℕ → Option ℕ) : Type 0 where
  pub later : IsLater start now
  pub made : List Entry
  pub counted : length made ≡ counter
  pub at : (rest : List Action) → AreLeft start (actions.Tick count ∷ rest) [] → AreLeft now (actions.Tick count ∷ rest) made
  pub rests : is_free (mine now) 0 ≡ true
  pub time : (told : ℕ → Option ℕ) → KeepsTime told told_then (mine start) → KeepsTime told told_now (mine now)

abbrev pub invariant-loop : goal.invariant-loop
invariant-loop g l =
    Ticking (g.D.Desk.desk l.fn.desk) (g.D.Desk.desk l.desk) l.count l.counter (g.C.Clock.readings l.fn.clock) (g.C.Clock.readings l.clock)
