-- What holds of the environment's parts at each moment.
use Rattle.std.specs.Prelude.{List, Option}
use Rattle.task_base.specs.declared.step.Step.{Step}
use Rattle.script_model.specs.Laws.Sound.{IsSound}
use Rattle.hist_model.specs.Legal.{IsLegal}
use Rattle.pool_core.specs.StandsFor.{StandsFor}
use Rattle.pool_core.specs.declared.pool.Pool.{Pool}
use Rattle.sequence_manager.specs.StandsFor.{StandsFor as MainStandsFor}
use Rattle.sequence_manager.specs.declared.manager.Manager.{Manager}
use Rattle.env_core.specs.Drawer.{AreBodies}
use Rattle.env_core.specs.Views.{EnvView}

-- the script is one that was read; the history is legal, the pool and the main queues stand for it, and the drawer has the
-- bodies of what may still be taken
pub record Holds {X : Type 0} (bodies : List (Option X)) (whole rest : X → List Step) (view : EnvView) (pool : Pool) (manager : Manager) : Type 0 where
  pub plan : IsSound view.script
  pub legal : IsLegal view.script view.history
  pub stands : StandsFor view.script view.history pool
  pub main : MainStandsFor view.script view.history manager
  pub drawer : AreBodies bodies whole rest view.script view.history
