use Rattle.std.proofs.Common.{◌≡◌, take}
use Rattle.std.specs.Option.{option_map}
use Rattle.task_model.specs.Capacity.{open_scope}
use Rattle.task_model.specs.Time.{now_of}
use Rattle.log_context.specs.Work.{opened}
use Rattle.log_context.proofs.scopes.scope_of.Given as goal

abbrev pub invariant-loop-entry : goal.invariant-loop-entry
invariant-loop-entry l = record {
  found_is : option_map opened l.found ≡ open_scope (take l.entry-index l.past) l.task;
  moment_is : l.moment ≡ now_of (take l.entry-index l.past);
}
