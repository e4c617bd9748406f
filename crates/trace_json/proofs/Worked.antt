-- Traces that were written out by hand, checked against the definitions.
use Rattle.std.proofs.Common.{◌≡◌, ℕ, true, Some, None, List, [], ◌∷◌, ◌++◌, refl}
use Rattle.std.specs.Prelude.{codes}
use Rattle.std.specs.Fmt.{digits}
use Rattle.task_base.specs.declared.entry.Entry.{Entry}
use Rattle.task_base.specs.declared.entry.Kind.TheVariants as kinds
use Rattle.task_base.specs.Entries.{entry_by as by}
use Rattle.trace_json.specs.Trace.{trace_of}
use Rattle.trace_json.specs.Text.{trace_text}

-- the text of the trace of a log, with all that this takes open
unfoldable written : List Entry → List ℕ
unfolding trace_of trace_text digits
written log = trace_text (trace_of log)

-- one task on one runner: posted by seat 0, run by seat 1
first_run : written (by 0 (kinds.Post 0 0 0 true) ∷ by 1 (kinds.Take 0 0 0) ∷ by 1 (kinds.End 0 5) ∷ by 0 kinds.Idle ∷ [])
    ≡ codes "{\"traceEvents\":[{\"name\":\"task 0\",\"ph\":\"B\",\"pid\":0,\"tid\":1,\"ts\":1},"
    ++ codes "{\"name\":\"task 0\",\"ph\":\"E\",\"pid\":0,\"tid\":1,\"ts\":2}]}\n"
unfolding written
first_run = refl

-- a job makes way for a task, and goes on behind it; at one of its steps an item ends and the next one begins
job_yields : written (by 0 (kinds.JobPost 0 true) ∷ by 1 (kinds.JobTake 0 0 0) ∷ by 0 (kinds.Post 0 0 0 true) ∷ by 1 (kinds.JobStep 0 0 0 1 None)
    ∷ by 1 (kinds.Take 0 0 0) ∷ by 1 (kinds.End 0 1) ∷ by 1 (kinds.JobTake 0 0 1) ∷ by 1 (kinds.JobStep 0 0 1 2 (Some 2)) ∷ by 1 (kinds.JobStep 0 0 2 3 None)
    ∷ by 0 kinds.Idle ∷ [])
    ≡ codes "{\"traceEvents\":[{\"name\":\"job 0 item 0\",\"ph\":\"B\",\"pid\":0,\"tid\":1,\"ts\":1},"
    ++ codes "{\"name\":\"job 0 item 0\",\"ph\":\"E\",\"pid\":0,\"tid\":1,\"ts\":3},"
    ++ codes "{\"name\":\"task 0\",\"ph\":\"B\",\"pid\":0,\"tid\":1,\"ts\":4},{\"name\":\"task 0\",\"ph\":\"E\",\"pid\":0,\"tid\":1,\"ts\":5},"
    ++ codes "{\"name\":\"job 0 item 1\",\"ph\":\"B\",\"pid\":0,\"tid\":1,\"ts\":6},"
    ++ codes "{\"name\":\"job 0 item 1\",\"ph\":\"E\",\"pid\":0,\"tid\":1,\"ts\":7},"
    ++ codes "{\"name\":\"job 0 item 2\",\"ph\":\"B\",\"pid\":0,\"tid\":1,\"ts\":7},"
    ++ codes "{\"name\":\"job 0 item 2\",\"ph\":\"E\",\"pid\":0,\"tid\":1,\"ts\":8}]}\n"
unfolding written
job_yields = refl

-- a main task is a span of the driver, and the number of a task may have several digits
main_task : written (by 0 (kinds.Main 120 1 0 true) ∷ by 0 (kinds.MainTake 120 1 0) ∷ by 0 (kinds.MainEnd 120 4) ∷ by 0 kinds.MainNone ∷ [])
    ≡ codes "{\"traceEvents\":[{\"name\":\"task 120\",\"ph\":\"B\",\"pid\":0,\"tid\":0,\"ts\":1},"
    ++ codes "{\"name\":\"task 120\",\"ph\":\"E\",\"pid\":0,\"tid\":0,\"ts\":2}]}\n"
unfolding written
main_task = refl

-- a log without tasks and items has no events, and a task that has not ended is open
no_span : written (by 0 kinds.Shutdown ∷ by 0 kinds.Done ∷ []) ≡ codes "{\"traceEvents\":[]}\n"
unfolding written
no_span = refl

open_span : written (by 0 (kinds.Post 0 0 0 true) ∷ by 2 (kinds.Take 0 0 0) ∷ [])
    ≡ codes "{\"traceEvents\":[{\"name\":\"task 0\",\"ph\":\"B\",\"pid\":0,\"tid\":2,\"ts\":1}]}\n"
unfolding written
open_span = refl
