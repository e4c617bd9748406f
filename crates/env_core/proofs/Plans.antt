-- What a script gives in a legal history: what its actions and steps are, and who runs and holds what.
-- Cited by `Acts`, `Declared`, `Scopes`, `Wanted`, `env_step`.
use Rattle.hist_model.proofs.Laws.Consistent.{legal_is_consistent}
use Rattle.pool_laws.specs.Runs.{RunsAs}
use Rattle.hist_model.specs.Legal.{IsLegal}
use Rattle.list_laws.proofs.Elements.{AllByRecursion-filter, slice_get_all}
use Rattle.script_model.specs.Laws.Sound.{AreDeclarationsSound, IsStepSound, IsStepWithin}
use Rattle.std.proofs.Common.{Bool, List, None, Option, Some, [], refl, subst, ℕ, ◌≡◌}
use Rattle.std.specs.List.{AllByRecursion}
use Rattle.std.specs.Option.{IfSome, option_map_or}
use Rattle.std.specs.Prelude.{filter, slice_get}
use Rattle.task_base.specs.Plan.{Plan}
use Rattle.task_base.specs.Steps.{is_act}
use Rattle.task_base.specs.declared.entry.Entry.{Entry}
use Rattle.task_base.specs.declared.step.Step.{Step}
use Rattle.task_model.specs.Seats.{Running, running, steps_of}
use Rattle.task_base.specs.declared.step.Step.TheVariants as steps

-- what holds of each step holds of each act step
pub act_is : (P : Step → Type 0) (xs : List Step) (n : ℕ) (step : Step) → AllByRecursion P xs → slice_get (filter is_act xs) n ≡ Some step → P step
act_is P xs n step all is = subst (λ o. IfSome o P) is (slice_get_all P (filter is_act xs) n (AllByRecursion-filter P is_act xs all))

-- the steps of a task are within their ranges, and sound
pub steps_are : (script : Plan) (t : ℕ) → AreDeclarationsSound script
    → AllByRecursion IsStepWithin (steps_of script t) × AllByRecursion (IsStepSound script t) (steps_of script t)
steps_are script t sound = at (slice_get script.tasks t) refl
  where
    at : (o : Option (List Step)) → slice_get script.tasks t ≡ o → AllByRecursion IsStepWithin (option_map_or (λ steps. steps) o [])
        × AllByRecursion (IsStepSound script t) (option_map_or (λ steps. steps) o [])
    at None is = (tt, tt)
    at (Some xs) is = let s = sound.tasks_sound t xs is in (s.steps_within, s.steps_sound)

-- a worker runs the tasks of the pool, and the driver the main tasks
pub runs_as : (script : Plan) (past : List Entry) (seat : ℕ) (w : Running) (main : Bool) → IsLegal script past → running past seat ≡ Some w
    → w.is_main ≡ main → RunsAs script past seat w main
runs_as script past seat w main legal runs side = (legal_is_consistent script past legal main).runs seat w runs side
