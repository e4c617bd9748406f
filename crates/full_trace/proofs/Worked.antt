-- A trace that was written out by hand, checked against the definitions.
use Rattle.std.proofs.Common.{◌≡◌, ℕ, true, false, Some, List, [], ◌∷◌, ◌++◌, refl}
use Rattle.std.specs.Prelude.{codes}
use Rattle.std.specs.Fmt.{digits}
use Rattle.json.specs.Print.{escape_byte}
use Rattle.task_traits.specs.declared.traits.Priority.TheVariants.{UserVisible, BestEffort}
use Rattle.task_traits.specs.declared.traits.Behaviour.TheVariants.{SkipOnShutdown, BlockShutdown}
use Rattle.task_base.specs.Plan.{Plan}
use Rattle.task_base.specs.declared.entry.Entry.{Entry}
use Rattle.task_base.specs.declared.entry.Kind.TheVariants as kinds
use Rattle.task_base.specs.declared.policy.Policy.TheVariants.{Foreground}
use Rattle.task_base.specs.declared.script.RunnerKind.TheVariants.{Sequenced}
use Rattle.task_base.specs.declared.step.Scope.TheVariants.{May}
use Rattle.task_base.specs.Entries.{entry_by as by}
use Rattle.full_trace.specs.Data.{trace_text}
use Rattle.full_trace.specs.Shown.{course_after, events_at, trace_of}

-- a script of one worker, a runner, a main queue and a job
script : Plan
script = record {
  workers = 1;
  foreground = 4;
  foreground_best = 2;
  background = 0;
  threshold = 1000000;
  runners = record { kind = Sequenced; traits = record { priority = UserVisible; behaviour = SkipOnShutdown; may_block = true } } ∷ [];
  queues = record { class = 3; voters = 1 } ∷ [];
  tasks = [] ∷ [] ∷ [];
  jobs = record { priority = BestEffort; behaviour = BlockShutdown; items = 2; cap = 1; steps = [] } ∷ [];
  actions = [];
  is_open = false;
}

-- the text of the trace of a log of it
unfoldable written : List Entry → List ℕ
unfolding script trace_of trace_text course_after events_at digits escape_byte
written log = trace_text (trace_of script log)

-- what stands before the events of the entries
unfoldable front : List ℕ
front = codes "{\"traceEvents\":[{\"name\":\"process_name\",\"ph\":\"M\",\"pid\":0,\"tid\":0,\"ts\":0,\"args\":{\"name\":\"taskenv\"}},"
    ++ codes "{\"name\":\"thread_name\",\"ph\":\"M\",\"pid\":0,\"tid\":0,\"ts\":0,\"args\":{\"name\":\"driver\"}},"
    ++ codes "{\"name\":\"thread_name\",\"ph\":\"M\",\"pid\":0,\"tid\":1,\"ts\":0,\"args\":{\"name\":\"worker 1\"}}"

-- no entry
no_entry : written [] ≡ front ++ codes "]}\n"
unfolding written front
no_entry = refl

-- a task: its post, from which a flow goes to its take, the scope that it opens and closes, and its end
task_runs : written (by 0 (kinds.Post 0 0 0 true) ∷ by 1 (kinds.Take 0 0 7) ∷ by 1 (kinds.Enter 0 May) ∷ by 1 (kinds.Leave 0) ∷ by 1 (kinds.End 0 12) ∷ [])
    ≡ front
    ++ codes ",{\"name\":\"post 0\",\"ph\":\"X\",\"dur\":0,\"pid\":0,\"tid\":0,\"ts\":0,\"args\":{\"runner\":0,\"delay\":0,\"reply\":\"ok\"}}"
    ++ codes ",{\"name\":\"post\",\"ph\":\"s\",\"cat\":\"post\",\"id\":0,\"pid\":0,\"tid\":0,\"ts\":0,\"args\":{}}"
    ++ codes ",{\"name\":\"tasks of the pool\",\"ph\":\"C\",\"pid\":0,\"tid\":0,\"ts\":0,\"args\":{\"running\":0,\"waiting\":1}}"
    ++ codes ",{\"name\":\"task 0\",\"ph\":\"B\",\"pid\":0,\"tid\":1,\"ts\":1,"
    ++ codes "\"args\":{\"runner\":0,\"priority\":\"user_visible\",\"behaviour\":\"skip\",\"found\":7}}"
    ++ codes ",{\"name\":\"post\",\"ph\":\"f\",\"cat\":\"post\",\"id\":0,\"bp\":\"e\",\"pid\":0,\"tid\":1,\"ts\":1,\"args\":{}}"
    ++ codes ",{\"name\":\"tasks of the pool\",\"ph\":\"C\",\"pid\":0,\"tid\":1,\"ts\":1,\"args\":{\"running\":1,\"waiting\":0}}"
    ++ codes ",{\"name\":\"scope\",\"ph\":\"B\",\"pid\":0,\"tid\":1,\"ts\":2,\"args\":{\"scope\":\"may\"}}"
    ++ codes ",{\"name\":\"scope\",\"ph\":\"E\",\"pid\":0,\"tid\":1,\"ts\":3,\"args\":{}}"
    ++ codes ",{\"name\":\"task 0\",\"ph\":\"E\",\"pid\":0,\"tid\":1,\"ts\":4,\"args\":{\"left\":12}}"
    ++ codes ",{\"name\":\"tasks of the pool\",\"ph\":\"C\",\"pid\":0,\"tid\":1,\"ts\":4,\"args\":{\"running\":0,\"waiting\":0}}]}\n"
unfolding written front
task_runs = refl

-- a refused post has no flow and waits for nothing; a runner's new priority is that of the next take; a policy is a mark
new_priority : written (by 0 (kinds.Reprio 0 BestEffort) ∷ by 0 (kinds.Policy Foreground) ∷ by 1 (kinds.Take 1 0 0) ∷ by 0 (kinds.Post 0 0 5 false) ∷ [])
    ≡ front
    ++ codes ",{\"name\":\"reprio\",\"ph\":\"i\",\"s\":\"g\",\"pid\":0,\"tid\":0,\"ts\":0,\"args\":{\"runner\":0,\"priority\":\"best_effort\"}}"
    ++ codes ",{\"name\":\"policy\",\"ph\":\"i\",\"s\":\"g\",\"pid\":0,\"tid\":0,\"ts\":1,\"args\":{\"policy\":\"foreground\"}}"
    ++ codes ",{\"name\":\"task 1\",\"ph\":\"B\",\"pid\":0,\"tid\":1,\"ts\":2,"
    ++ codes "\"args\":{\"runner\":0,\"priority\":\"best_effort\",\"behaviour\":\"skip\",\"found\":0}}"
    ++ codes ",{\"name\":\"post\",\"ph\":\"f\",\"cat\":\"post\",\"id\":1,\"bp\":\"e\",\"pid\":0,\"tid\":1,\"ts\":2,\"args\":{}}"
    ++ codes ",{\"name\":\"tasks of the pool\",\"ph\":\"C\",\"pid\":0,\"tid\":1,\"ts\":2,\"args\":{\"running\":1,\"waiting\":0}}"
    ++ codes ",{\"name\":\"post 0\",\"ph\":\"X\",\"dur\":0,\"pid\":0,\"tid\":0,\"ts\":3,\"args\":{\"runner\":0,\"delay\":5,\"reply\":\"no\"}}]}\n"
unfolding written front
new_priority = refl

-- a main task, and two items of a job, of which the second begins where the first one ends
main_and_job : written (by 0 (kinds.MainTake 1 0 3) ∷ by 0 (kinds.MainEnd 1 4) ∷ by 1 (kinds.JobTake 0 2 0) ∷ by 1 (kinds.JobStep 0 2 0 9 (Some 1)) ∷ [])
    ≡ front
    ++ codes ",{\"name\":\"task 1\",\"ph\":\"B\",\"pid\":0,\"tid\":0,\"ts\":0,\"args\":{\"queue\":0,\"found\":3}}"
    ++ codes ",{\"name\":\"post\",\"ph\":\"f\",\"cat\":\"post\",\"id\":1,\"bp\":\"e\",\"pid\":0,\"tid\":0,\"ts\":0,\"args\":{}}"
    ++ codes ",{\"name\":\"task 1\",\"ph\":\"E\",\"pid\":0,\"tid\":0,\"ts\":1,\"args\":{\"left\":4}}"
    ++ codes ",{\"name\":\"job 0 item 0\",\"ph\":\"B\",\"pid\":0,\"tid\":1,\"ts\":2,\"args\":{\"id\":2,\"priority\":\"best_effort\",\"behaviour\":\"block\"}}"
    ++ codes ",{\"name\":\"job 0 item 0\",\"ph\":\"E\",\"pid\":0,\"tid\":1,\"ts\":3,\"args\":{\"value\":9}}"
    ++ codes ",{\"name\":\"job 0 item 1\",\"ph\":\"B\",\"pid\":0,\"tid\":1,\"ts\":3,"
    ++ codes "\"args\":{\"id\":2,\"priority\":\"best_effort\",\"behaviour\":\"block\"}}]}\n"
unfolding written front
main_and_job = refl
