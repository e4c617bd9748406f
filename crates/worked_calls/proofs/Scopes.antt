-- What the scripts of two tasks, of which the first one is in a scope, allow on their way.
-- Cited by 6 functions of `one_env`.
use Rattle.std.proofs.Common.{◌≡◌, Bool, true, false, Some, refl, ap, ◌∙◌, arith}
use Rattle.task_base.specs.declared.entry.Kind.TheVariants as kinds
use Rattle.task_base.specs.declared.step.Scope.{Scope}
use Rattle.task_base.specs.declared.step.Scope.TheVariants as scopes
use Rattle.task_base.specs.declared.step.Step.TheVariants as steps
use Rattle.task_model.specs.Seats.{Running, acts_done, holding, running}
use Rattle.hist_model.specs.Script.{current, is_wanted}
use Rattle.task_body.specs.declared.act.Act.TheVariants as acts
use Rattle.env_core.specs.Calls.{EntersAct, IsFreeWorker, IsNextAct, IsWantedNext}
use Rattle.env_core.specs.Views.{EnvView}
use Rattle.worked_calls.proofs.Known.{enters_act}
use Rattle.worked_calls.specs.Known.{IsLast, at_start, with_entry}
use Rattle.worked_calls.specs.Scopes.{both_done, counted, entered, plan_of, short_done, taken}

-- the first task, which the first worker runs
abbrev first_task : Running
first_task = record { task = 0; home = 0; found = 0; is_main = false }

pub posts_first : (scope : Scope) (ok : Bool) → IsWantedNext (at_start (plan_of scope)) 0 (kinds.Post 0 0 0 ok)
unfolding is_wanted current
posts_first scopes.Will ok = record { driver = refl; wanted = refl }
posts_first scopes.May ok = record { driver = refl; wanted = refl }

pub posts_second : (scope : Scope) (ok : Bool) → IsWantedNext (with_entry (at_start (plan_of scope)) 0 (kinds.Post 0 0 0 true)) 0 (kinds.Post 1 0 0 ok)
unfolding is_wanted current
posts_second scopes.Will ok = record { driver = refl; wanted = refl }
posts_second scopes.May ok = record { driver = refl; wanted = refl }

pub takes_first : (scope : Scope)
    → IsFreeWorker (with_entry (with_entry (at_start (plan_of scope)) 0 (kinds.Post 0 0 0 true)) 0 (kinds.Post 1 0 0 true)) 1
unfolding holding running
takes_first scopes.Will = record { worker = omega arith; known = omega arith; free = refl }
takes_first scopes.May = record { worker = omega arith; known = omega arith; free = refl }

pub opens_scope : (scope : Scope) → IsNextAct (taken scope) 1 (acts.Enter scope)
unfolding running acts_done
opens_scope scopes.Will = record { known = omega arith; step = steps.Block scopes.Will; is_next = refl; is_act = refl }
opens_scope scopes.May = record { known = omega arith; step = steps.Block scopes.May; is_next = refl; is_act = refl }

runs_before : (scope : Scope) → running (taken scope).history 1 ≡ Some first_task
unfolding running
runs_before scopes.Will = refl
runs_before scopes.May = refl

pub scope_opened : (scope : Scope) (before after : EnvView) (ok : Bool) → before ≡ taken scope → EntersAct before after 1 (acts.Enter scope) ok
    → after ≡ entered scope
scope_opened scope before after ok is acted =
    enters_act before after 1 (acts.Enter scope) ok (kinds.Enter 0 scope) first_task (rw is (runs_before scope)) refl acted
    ∙ ap (λ v. with_entry v 1 (kinds.Enter 0 scope)) is

pub takes_second : (scope : Scope) → IsFreeWorker (counted scope) 2
unfolding holding running
takes_second scopes.Will = record { worker = omega arith; known = omega arith; free = refl }
takes_second scopes.May = record { worker = omega arith; known = omega arith; free = refl }

pub ends_second : (scope : Scope) → IsLast (with_entry (counted scope) 2 (kinds.Take 1 0 0)) 2 1
unfolding running acts_done
ends_second scopes.Will = record { known = omega arith; runs = refl; all_entered = refl }
ends_second scopes.May = record { known = omega arith; runs = refl; all_entered = refl }

pub closes_scope : (scope : Scope) → IsNextAct (short_done scope) 1 acts.Leave
unfolding running acts_done
closes_scope scopes.Will = record { known = omega arith; step = steps.Unblock; is_next = refl; is_act = refl }
closes_scope scopes.May = record { known = omega arith; step = steps.Unblock; is_next = refl; is_act = refl }

runs_after : (scope : Scope) → running (short_done scope).history 1 ≡ Some first_task
unfolding running
runs_after scopes.Will = refl
runs_after scopes.May = refl

pub scope_closed : (scope : Scope) (before after : EnvView) (ok : Bool) → before ≡ short_done scope → EntersAct before after 1 acts.Leave ok
    → after ≡ with_entry (short_done scope) 1 (kinds.Leave 0)
scope_closed scope before after ok is acted =
    enters_act before after 1 acts.Leave ok (kinds.Leave 0) first_task (rw is (runs_after scope)) refl acted ∙ ap (λ v. with_entry v 1 (kinds.Leave 0)) is

pub ends_first : (scope : Scope) → IsLast (with_entry (short_done scope) 1 (kinds.Leave 0)) 1 0
unfolding running acts_done
ends_first scopes.Will = record { known = omega arith; runs = refl; all_entered = refl }
ends_first scopes.May = record { known = omega arith; runs = refl; all_entered = refl }

pub comes_idle : (scope : Scope) → IsWantedNext (both_done scope) 0 kinds.Idle
unfolding is_wanted current
comes_idle scopes.Will = record { driver = refl; wanted = refl }
comes_idle scopes.May = record { driver = refl; wanted = refl }
