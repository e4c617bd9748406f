use Rattle.env_core.proofs.Bodies.{bodies_at_start}
use Rattle.env_core.proofs.Queues.{main_script}
use Rattle.env_core.specs.Calls.{AreFresh}
use Rattle.env_core.specs.Holds.{Holds}
use Rattle.env_core.specs.Views.{EnvView}
use Rattle.hist_model.proofs.Laws.Legal.{nothing_is_legal}
use Rattle.pool_core.specs.StandsFor.{StandsFor}
use Rattle.pool_core.specs.declared.pool.Pool.{Pool}
use Rattle.script_model.specs.Laws.Sound.{IsSound}
use Rattle.sequence_manager.specs.StandsFor.{StandsFor as MainStandsFor}
use Rattle.sequence_manager.specs.declared.manager.Manager.{Manager}
use Rattle.std.proofs.Common.{List, Option, Some, [], map, ◌≡◌}
use Rattle.task_base.specs.Plan.{Plan}
use Rattle.task_base.specs.declared.step.Step.{Step}
use Rattle.env_core.proofs.env.Env.open.Goals as goal

-- everything holds at the start, with a body for each task
holds_at_start : {X : Type 0} (bodies : List X) (drawer : List (Option X)) (whole rest : X → List Step) (script : Plan) (view : EnvView) (pool : Pool)
    (manager : Manager) → IsSound script → AreFresh bodies whole rest script → drawer ≡ map Some bodies → view ≡ record { script = script; history = [] }
    → StandsFor script [] pool → MainStandsFor script [] manager → Holds drawer whole rest view pool manager
holds_at_start bodies drawer whole rest script view pool manager plan fresh held empty stands main = record {
  plan = rw empty plan;
  legal = rw empty (nothing_is_legal script);
  stands = rw empty stands;
  main = rw empty main;
  drawer = rw (empty, held) (bodies_at_start bodies whole rest script fresh);
}

pub new-requires-2 : goal.new-requires-2
new-requires-2 g c = main_script c.args.script c.requires.plan

pub invariant_of-result : goal.invariant_of-result
invariant_of-result g c = holds_at_start c.args.bodies.items c.in_ok-bodies.bodies.items (λ body. g.B.TaskBody.whole body.value)
    (λ body. g.B.TaskBody.rest body.value) c.args.script c.in_ok-ledger.ledger c.in_ok-pool.pool c.in_ok-main.main c.requires.plan c.requires.bodies
    c.in_ok-bodies.ensures c.in_ok-ledger.ensures c.in_ok-pool.ensures c.in_ok-main.ensures
