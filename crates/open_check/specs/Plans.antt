-- Which scripts are those of an open plan (this project's own rule).
use Rattle.std.specs.Prelude.{◌≡◌, ℕ, List, [], ◌∷◌, ◌++◌, codes, decimal, Option, Some}
use Rattle.std.specs.Option.{option_map}
use Rattle.task_base.specs.Plan.{Plan}
use Rattle.task_base.specs.declared.script.Action.{Action}
use Rattle.live_core.specs.Opening.{guest_runner}
use Rattle.plan_text.specs.ActionLine.{action_line}
use Rattle.open_check.specs.declared.plan.BadPlan.{BadPlan}
use Rattle.open_check.specs.declared.plan.BadPlan.TheVariants as plans
use Rattle.open_check.specs.declared.plan.PlanFault.{PlanFault}
use Rattle.open_check.specs.declared.plan.PlanFault.TheVariants.{Bad, Memory}

-- why a script that was read from this text is not that of an open plan: it has actions, or a runner that is bound to the last seat
abbrev pub fault_by : Plan → List ℕ → List Action → Option BadPlan
fault_by script text (action ∷ actions) = Some (plans.Action (action_line text))
fault_by script text [] = option_map (λ runner. plans.GuestRunner runner) (guest_runner script)

abbrev pub plan_fault : Plan → List ℕ → Option BadPlan
plan_fault script text = fault_by script text script.actions

-- the fault is why no open plan was made of a script that was read from this text
abbrev pub IsNoPlan : Plan → List ℕ → PlanFault → Type 0
IsNoPlan script text (Bad bad) = plan_fault script text ≡ Some bad
IsNoPlan script text (Memory error) = Unit {0}

-- what is told of it, without a line feed
abbrev pub plan_note : BadPlan → List ℕ
plan_note (plans.Action line) = (codes "bad plan: line " ++ decimal line) ++ codes " is an action"
plan_note (plans.GuestRunner runner) = (codes "bad plan: runner " ++ decimal runner) ++ codes " is bound to the last seat"
