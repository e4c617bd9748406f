-- How far the scripts of two tasks are done, of which the first one is in a scope.
use Rattle.std.specs.Prelude.{true}
use Rattle.task_base.specs.Plan.{Plan}
use Rattle.task_base.specs.declared.entry.Kind.TheVariants as kinds
use Rattle.task_base.specs.declared.step.Scope.{Scope}
use Rattle.task_base.specs.declared.step.Scope.TheVariants as scopes
use Rattle.env_core.specs.Views.{EnvView}
use Rattle.worked_calls.specs.Known.{at_start, with_entry}
use Rattle.worked_calls.specs.Plans.{may_plan, will_plan}

-- the script whose first task opens this scope
abbrev pub plan_of : Scope → Plan
plan_of scopes.Will = will_plan
plan_of scopes.May = may_plan

-- both tasks are posted, and a worker has taken the first one
abbrev pub taken : Scope → EnvView
taken scope =
    with_entry (with_entry (with_entry (at_start (plan_of scope)) 0 (kinds.Post 0 0 0 true)) 0 (kinds.Post 1 0 0 true)) 1 (kinds.Take 0 0 0)

-- it is in its scope
abbrev pub entered : Scope → EnvView
entered scope = with_entry (taken scope) 1 (kinds.Enter 0 scope)

-- the scope counts: at once, or from 5 on
abbrev pub counted : Scope → EnvView
counted scopes.Will = entered scopes.Will
counted scopes.May = with_entry (with_entry (entered scopes.May) 0 (kinds.Tick 4)) 0 (kinds.Tick 5)

-- another worker did the second task
abbrev pub short_done : Scope → EnvView
short_done scope = with_entry (with_entry (counted scope) 2 (kinds.Take 1 0 0)) 2 (kinds.End 1 2)

-- and the first one the first
abbrev pub both_done : Scope → EnvView
both_done scope = with_entry (with_entry (short_done scope) 1 (kinds.Leave 0)) 1 (kinds.End 0 1)
