use Rattle.std.proofs.Common.{◌≡◌, ◌≤◌, ℕ, List, take}
use Rattle.task_base.specs.Plan.{Plan}
use Rattle.task_base.specs.declared.entry.Entry.{Entry}
use Rattle.full_trace.specs.declared.event.Event.{Event}
use Rattle.full_trace.specs.Shown.{Standing, declared, trace_of}
use Rattle.full_trace.proofs.Events.{course_of}
use Rattle.full_trace.proofs.shown.trace_of.Given as goal

-- the events and the course are those of the entries up to the place, and its numbers are no larger
pub record IsSoFar (script : Plan) (log : List Entry) (place : ℕ) (events : List Event) (course : Standing) : Type 0 where
  pub events_are : events ≡ trace_of script (take place log)
  pub course_is : course ≡ course_of (declared script) (take place log)
  pub running : course.running ≤ place
  pub waiting : course.waiting ≤ place

abbrev pub invariant-loop-place : goal.invariant-loop-place
invariant-loop-place l = IsSoFar l.script l.log l.place l.events.items l.course
