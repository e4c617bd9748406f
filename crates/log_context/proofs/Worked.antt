-- What is said of entries that may not come, worked out by hand and checked by computing.
use Rattle.std.proofs.Common.{◌≡◌, true, false, List, [], ◌∷◌, ◌++◌, refl}
use Rattle.std.specs.Prelude.{Some, None}
use Rattle.task_base.specs.Plan.{Plan}
use Rattle.task_base.specs.Entries.{entry_by as by}
use Rattle.task_base.specs.declared.entry.Entry.{Entry}
use Rattle.task_base.specs.declared.entry.Kind.TheVariants as kinds
use Rattle.task_base.specs.declared.policy.Policy.TheVariants as policies
use Rattle.task_base.specs.declared.step.Scope.TheVariants as scopes
use Rattle.task_base.specs.declared.script.FenceAt.TheVariants as fences
use Rattle.task_base.specs.declared.script.Runner.{Runner}
use Rattle.task_base.specs.declared.script.RunnerKind.{RunnerKind}
use Rattle.task_base.specs.declared.script.RunnerKind.TheVariants as runners
use Rattle.task_traits.specs.declared.traits.Behaviour.TheVariants as behaviours
use Rattle.task_traits.specs.declared.traits.Priority.{Priority}
use Rattle.task_traits.specs.declared.traits.Priority.TheVariants as priorities
use Rattle.task_model.specs.Capacity.{best_capacity, best_load, capacity, load, open_scope, priority_of, taken_with}
use Rattle.task_model.specs.Past.{fold_past}
use Rattle.task_model.specs.Phase.{phase_of}
use Rattle.task_model.specs.Policies.{policy_of}
use Rattle.task_model.specs.Posts.{is_ended, is_taken, posts}
use Rattle.task_model.specs.Seats.{holding, running}
use Rattle.task_model.specs.Time.{now_of, tick_from}
use Rattle.log_context.specs.Context.{context_of, told_of}
use Rattle.log_context.specs.Seen.{last_marked}
use Rattle.log_context.specs.Sought.{known_in}
use Rattle.log_context.specs.declared.context.Waits.TheVariants as waits
use Rattle.log_context.specs.declared.fact.Fact.TheVariants.{Behaves, Limits, Priorities, Room, Single, Stands, Unposted}
use Rattle.log_context.specs.declared.fact.Limit.TheVariants as limit_kinds
use Rattle.log_context.specs.declared.fact.Role.TheVariants as roles

abbrev runner_of : RunnerKind → Priority → Runner
runner_of kind priority = record {
  kind = kind;
  traits = record { priority = priority; behaviour = behaviours.SkipOnShutdown; may_block = false };
}

-- a runner whose tasks shutdown waits for
abbrev blocking : Runner
blocking = record {
  kind = runners.Sequenced;
  traits = record { priority = priorities.UserVisible; behaviour = behaviours.BlockShutdown; may_block = false };
}

-- three workers; a sequenced runner, a parallel best-effort one, one of seat 3 alone, and one of block tasks
abbrev script : Plan
script = record {
  workers = 3;
  foreground = 2;
  foreground_best = 1;
  background = 0;
  threshold = 10;
  runners = runner_of runners.Sequenced priorities.UserVisible ∷ runner_of runners.Parallel priorities.BestEffort
      ∷ runner_of (runners.Single 3) priorities.UserBlocking ∷ blocking ∷ [];
  queues = record { class = 0; voters = 1 } ∷ [];
  tasks = [] ∷ [] ∷ [] ∷ [] ∷ [];
  jobs = [];
  actions = [];
  is_open = false;
}

-- two tasks of the sequence, which were held back first
abbrev held : List Entry
held = by 0 (kinds.Policy policies.Nothing) ∷ by 0 (kinds.Post 0 0 0 true) ∷ by 0 (kinds.Post 1 0 0 true) ∷ []

abbrev freed : List Entry
freed = held ++ by 0 (kinds.Policy policies.All) ∷ []

abbrev one_runs : List Entry
one_runs = freed ++ by 1 (kinds.Take 0 0 0) ∷ []

abbrev ended : List Entry
ended = one_runs ++ by 1 (kinds.End 0 5) ∷ []

-- the policy holds it back
held_back : told_of script held (by 1 (kinds.Take 0 0 0)) None
    ≡ Stands roles.Itself 3 (by 1 (kinds.Take 0 0 0)) ∷ Stands roles.Posted 1 (by 0 (kinds.Post 0 0 0 true))
    ∷ Stands roles.Policy 0 (by 0 (kinds.Policy policies.Nothing)) ∷ []
unfolding last_marked fold_past policy_of phase_of priority_of posts now_of tick_from
held_back = refl

-- an earlier task of the sequence is due
task_due : told_of script freed (by 1 (kinds.Take 1 0 0)) (Some (kinds.Take 0 0 0))
    ≡ Stands roles.Itself 4 (by 1 (kinds.Take 1 0 0)) ∷ Stands roles.Posted 2 (by 0 (kinds.Post 1 0 0 true))
    ∷ Stands roles.Due 1 (by 0 (kinds.Post 0 0 0 true)) ∷ []
unfolding last_marked fold_past policy_of phase_of priority_of posts now_of tick_from
task_due = refl

-- the sequence runs on another seat
sequence_runs : told_of script one_runs (by 2 (kinds.Take 1 0 0)) None
    ≡ Stands roles.Itself 5 (by 2 (kinds.Take 1 0 0)) ∷ Stands roles.Posted 2 (by 0 (kinds.Post 1 0 0 true))
    ∷ Stands roles.Runs 4 (by 1 (kinds.Take 0 0 0)) ∷ []
unfolding last_marked fold_past policy_of phase_of priority_of posts now_of tick_from
sequence_runs = refl

-- another value is in the cell
value_left : told_of script ended (by 1 (kinds.Take 1 0 0)) (Some (kinds.Take 1 0 5))
    ≡ Stands roles.Itself 6 (by 1 (kinds.Take 1 0 0)) ∷ Stands roles.Posted 2 (by 0 (kinds.Post 1 0 0 true))
    ∷ Stands roles.Left 5 (by 1 (kinds.End 0 5)) ∷ []
unfolding last_marked fold_past policy_of phase_of priority_of posts now_of tick_from
value_left = refl

-- a task is taken once more
taken_twice : told_of script ended (by 2 (kinds.Take 0 0 0)) None
    ≡ Stands roles.Itself 6 (by 2 (kinds.Take 0 0 0)) ∷ Stands roles.Taken 4 (by 1 (kinds.Take 0 0 0))
    ∷ Stands roles.Posted 1 (by 0 (kinds.Post 0 0 0 true)) ∷ []
unfolding last_marked fold_past policy_of phase_of priority_of posts now_of tick_from
taken_twice = refl

-- a task ends on a seat that has not taken it
another_seat : told_of script one_runs (by 2 (kinds.End 0 5)) None
    ≡ Stands roles.Itself 5 (by 2 (kinds.End 0 5)) ∷ Stands roles.Elsewhere 4 (by 1 (kinds.Take 0 0 0)) ∷ []
unfolding last_marked fold_past policy_of phase_of priority_of posts now_of tick_from
another_seat = refl

-- a task ends twice
ended_twice : told_of script ended (by 2 (kinds.End 0 5)) None
    ≡ Stands roles.Itself 6 (by 2 (kinds.End 0 5)) ∷ Stands roles.Ended 5 (by 1 (kinds.End 0 5)) ∷ []
unfolding last_marked fold_past policy_of phase_of priority_of posts now_of tick_from
ended_twice = refl

-- no entry posts the task, and its runner is another seat's
never_posted : told_of script ended (by 1 (kinds.Take 3 2 0)) None
    ≡ Stands roles.Itself 6 (by 1 (kinds.Take 3 2 0)) ∷ Unposted 3 ∷ Single 2 3 ∷ []
unfolding last_marked fold_past policy_of phase_of priority_of posts now_of tick_from
never_posted = refl

-- a best-effort task while one of a higher priority waits; and one that was refused, though shutdown has not started
by_priority : told_of script (freed ++ by 0 (kinds.Post 2 1 0 true) ∷ []) (by 1 (kinds.Take 2 1 0)) (Some (kinds.Take 0 0 0))
    ≡ Stands roles.Itself 5 (by 1 (kinds.Take 2 1 0)) ∷ Stands roles.Posted 4 (by 0 (kinds.Post 2 1 0 true))
    ∷ Priorities 1 priorities.BestEffort 0 priorities.UserVisible ∷ []
unfolding last_marked fold_past policy_of phase_of priority_of posts now_of tick_from
by_priority = refl

refused : told_of script (freed ++ by 0 kinds.Shutdown ∷ []) (by 0 (kinds.Post 2 1 0 true)) (Some (kinds.Post 2 1 0 false))
    ≡ Stands roles.Itself 5 (by 0 (kinds.Post 2 1 0 true)) ∷ Stands roles.Shutdown 4 (by 0 kinds.Shutdown)
    ∷ Behaves 1 behaviours.SkipOnShutdown ∷ []
unfolding last_marked fold_past policy_of phase_of priority_of posts now_of tick_from
refused = refl

-- a delayed task before its moment
unripe : told_of script (by 0 (kinds.Post 0 0 7 true) ∷ by 0 (kinds.Tick 6) ∷ []) (by 1 (kinds.Take 0 0 0)) None
    ≡ Stands roles.Itself 2 (by 1 (kinds.Take 0 0 0)) ∷ Stands roles.Posted 0 (by 0 (kinds.Post 0 0 7 true))
    ∷ Stands roles.Moment 1 (by 0 (kinds.Tick 6)) ∷ []
unfolding last_marked fold_past policy_of phase_of priority_of posts now_of tick_from
unripe = refl

-- a main task of a queue with a fence, and with a voter that is off
fenced : told_of script (by 0 (kinds.Fence 0 fences.Start) ∷ by 0 (kinds.Main 0 0 0 true) ∷ by 0 (kinds.Vote 0 0 false) ∷ [])
    (by 0 (kinds.MainTake 0 0 0)) None
    ≡ Stands roles.Itself 3 (by 0 (kinds.MainTake 0 0 0)) ∷ Stands roles.Posted 1 (by 0 (kinds.Main 0 0 0 true))
    ∷ Stands roles.Off 2 (by 0 (kinds.Vote 0 0 false)) ∷ Stands roles.Fence 0 (by 0 (kinds.Fence 0 fences.Start)) ∷ []
unfolding last_marked fold_past policy_of phase_of priority_of posts now_of tick_from
fenced = refl

-- the driver is not idle while a task runs, and another one waits
not_idle : context_of script one_runs (by 0 kinds.Idle) None waits.Idle
    ≡ Stands roles.Itself 5 (by 0 kinds.Idle) ∷ Stands roles.Waiting 2 (by 0 (kinds.Post 1 0 0 true)) ∷ Stands roles.Works 4 (by 1 (kinds.Take 0 0 0)) ∷ []
unfolding last_marked fold_past policy_of phase_of priority_of posts now_of tick_from known_in is_taken
not_idle = refl

-- a task is delayed, and so does not wait yet
not_ripe : context_of script (by 0 (kinds.Post 0 0 7 true) ∷ by 0 (kinds.Post 1 1 0 true) ∷ []) (by 0 kinds.Idle) None waits.Idle
    ≡ Stands roles.Itself 2 (by 0 kinds.Idle) ∷ Stands roles.Waiting 1 (by 0 (kinds.Post 1 1 0 true)) ∷ []
unfolding last_marked fold_past policy_of phase_of priority_of posts now_of tick_from known_in is_taken
not_ripe = refl

-- a best-effort task, while another one runs
abbrev best_running : List Entry
best_running = by 0 (kinds.Post 0 1 0 true) ∷ by 0 (kinds.Post 2 1 0 true) ∷ by 1 (kinds.Take 0 1 0) ∷ []

no_room : context_of script best_running (by 2 (kinds.Take 2 1 0)) None waits.Room
    ≡ Stands roles.Itself 3 (by 2 (kinds.Take 2 1 0)) ∷ Stands roles.Posted 1 (by 0 (kinds.Post 2 1 0 true))
    ∷ Room limit_kinds.Foreground 1 2 ∷ Room limit_kinds.BestEffort 1 1 ∷ Limits 2 1 0 ∷ Stands roles.Works 2 (by 1 (kinds.Take 0 1 0)) ∷ []
unfolding last_marked fold_past policy_of phase_of priority_of posts now_of tick_from load capacity best_load best_capacity running holding taken_with open_scope
no_room = refl

-- with a scope that will block one more may run
more_room : context_of script (best_running ++ by 1 (kinds.Enter 0 scopes.Will) ∷ []) (by 2 (kinds.Take 2 1 1)) None waits.Room
    ≡ Stands roles.Itself 4 (by 2 (kinds.Take 2 1 1)) ∷ Stands roles.Posted 1 (by 0 (kinds.Post 2 1 0 true))
    ∷ Room limit_kinds.Foreground 1 3 ∷ Room limit_kinds.BestEffort 1 2 ∷ Limits 2 1 0 ∷ Stands roles.Works 2 (by 1 (kinds.Take 0 1 0)) ∷ []
unfolding last_marked fold_past policy_of phase_of priority_of posts now_of tick_from load capacity best_load best_capacity running holding taken_with open_scope
more_room = refl

-- a skip task that runs blocks the end of shutdown, and so does a block task that waits; a skip task that waits does not
abbrev stopping : List Entry
stopping = by 0 (kinds.Post 0 0 0 true) ∷ by 0 (kinds.Post 1 0 0 true) ∷ by 0 (kinds.Post 2 3 0 true) ∷ by 1 (kinds.Take 0 0 0)
    ∷ by 0 kinds.Shutdown ∷ []

blocked : context_of script stopping (by 0 kinds.Done) None waits.Shutdown
    ≡ Stands roles.Itself 5 (by 0 kinds.Done) ∷ Stands roles.Blocks 0 (by 0 (kinds.Post 0 0 0 true)) ∷ Stands roles.Blocks 2 (by 0 (kinds.Post 2 3 0 true))
    ∷ Stands roles.Works 3 (by 1 (kinds.Take 0 0 0)) ∷ []
unfolding last_marked fold_past policy_of phase_of priority_of posts now_of tick_from known_in is_taken is_ended
blocked = refl
