-- A scope that a task opens, and that it closes, keep what the pool stands for.
-- Cited by `Pool::enter`, `Pool::leave`.
use Rattle.pool_core.proofs.Works.GroupGrowth.{groups_at_enter, groups_at_leave}
use Rattle.pool_core.proofs.Calls.Kept.{stands_kept}
use Rattle.pool_core.proofs.Pasts.{past_at_enter, past_at_leave}
use Rattle.pool_core.proofs.Tracking.{tracked_kept}
use Rattle.pool_core.specs.Calls.{RunsClosed, RunsOpen, after_enter, after_leave}
use Rattle.pool_core.specs.Groups.{group_at, with_group_at}
use Rattle.pool_core.specs.StandsFor.{StandsFor}
use Rattle.pool_core.specs.declared.pool.Pool.{Pool}
use Rattle.std.proofs.Common.{List, None, Some, refl, sym, ℕ, ◌∙◌}
use Rattle.task_base.specs.Plan.{Plan}
use Rattle.task_base.specs.declared.entry.Entry.{Entry}
use Rattle.task_base.specs.declared.step.Scope.{Scope}
use Rattle.task_model.specs.Capacity.{OpenScope}
use Rattle.task_model.specs.Seats.{Running}
use Rattle.thread_group.specs.Group.{with_scope}
use Rattle.task_base.specs.declared.entry.Kind.TheVariants as kinds

-- a task opens a scope, and closes it
pub stands_at_enter : {script : Plan} {past : List Entry} {pool : Pool} {seat : ℕ} {w : Running} (scope : Scope) → RunsClosed script past pool seat w
    → StandsFor script (after_enter past seat w.task scope) (record pool {
      groups = (let group = group_at pool.groups seat in
          with_group_at pool.groups seat (with_scope group seat (Some (record { scope = scope; since = group.moment }))));
    })
stands_at_enter {script = script} {past = past} {pool = pool} {seat = seat} {w = w} scope can =
    let e : Entry = record { seat = seat; kind = kinds.Enter w.task scope } in
    let stands = can.stands in
    stands_kept script past pool e _ pool.tracker stands refl
    (past_at_enter script past seat scope w stands.past_fits can.runs can.is_pool)
    (groups_at_enter script past pool.groups seat scope w stands.script_fits stands.past_fits stands.groups can.runs can.is_pool)
    (stands.tracker ∙ sym (tracked_kept script past e refl))

pub stands_at_leave : {script : Plan} {past : List Entry} {pool : Pool} {seat : ℕ} {w : Running} {opened : OpenScope} → RunsOpen script past pool seat w opened
    → StandsFor script (after_leave past seat w.task)
    (record pool { groups = with_group_at pool.groups seat (with_scope (group_at pool.groups seat) seat None) })
stands_at_leave {script = script} {past = past} {pool = pool} {seat = seat} {w = w} can =
    let e : Entry = record { seat = seat; kind = kinds.Leave w.task } in
    let stands = can.stands in
    stands_kept script past pool e _ pool.tracker stands refl
    (past_at_leave script past seat w stands.past_fits)
    (groups_at_leave script past pool.groups seat w stands.script_fits stands.past_fits stands.groups can.runs can.is_pool)
    (stands.tracker ∙ sym (tracked_kept script past e refl))
