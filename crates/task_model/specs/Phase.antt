-- How far shutdown has come.
use Rattle.std.specs.Prelude.{Bool, true, false, List, fold}
use Rattle.task_base.specs.declared.entry.Entry.{Entry}
use Rattle.task_base.specs.declared.entry.Kind.{Kind}
use Rattle.task_base.specs.declared.entry.Kind.TheVariants as kinds
use Rattle.task_traits.specs.declared.phase.Phase.{Phase}
use Rattle.task_traits.specs.declared.phase.Phase.TheVariants.{Running, Started, Done}

-- the phase once shutdown was started
abbrev pub started_from : Phase → Phase
started_from Running = Started
started_from Started = Started
started_from Done = Done

-- shutdown was started and is not done
abbrev pub is_started : Phase → Bool
is_started Running = false
is_started Started = true
is_started Done = false

-- the phase after an entry
abbrev pub phase_after : Phase → Kind → Phase
phase_after now kinds.Shutdown = started_from now
phase_after now kinds.Done = Done
phase_after now kind = now

-- done where a done stands in the past, else started where a shutdown does, else running (this project's own
-- three phases)
unfoldable pub phase_of : List Entry → Phase
phase_of past = fold (λ now e. phase_after now e.kind) Running past
