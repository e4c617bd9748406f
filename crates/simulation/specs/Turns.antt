-- What draws bring while seats do their steps.
use Rattle.std.specs.Prelude.{◌≡◌, ◌≤◌, ℕ, true, None}
use Rattle.std.specs.List.{AllByRecursion}
use Rattle.task_base.specs.Plan.{Plan}
use Rattle.env_core.specs.Views.{EnvView}
use Rattle.simulation.specs.Draw.{Drawing}
use Rattle.simulation.specs.Schedule.{made_by}

-- the workers that are left are the plan's
abbrev pub AreKnown : Plan → Drawing → Type 0
AreKnown script d = AllByRecursion (λ seat. seat ≤ script.workers) d.workers

-- nobody who is left may make an entry with this reading
pub record NobodyMay (view : EnvView) (reading : ℕ) (d : Drawing) : Type 0 where
  pub driver : d.driver ≡ true → made_by view.script view.history reading 0 ≡ None
  pub workers : AllByRecursion (λ seat. made_by view.script view.history reading seat ≡ None) d.workers
