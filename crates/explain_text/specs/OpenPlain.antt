-- Why a log of an open plan is illegal, as a line of plain words (this project's own).
use Rattle.std.specs.Prelude.{ℕ, List, [], ◌++◌, slice_get, codes, Option, Some, None}
use Rattle.std.specs.Option.{option_map_or}
use Rattle.task_base.specs.Entries.{entry_by}
use Rattle.task_base.specs.declared.entry.Entry.{Entry}
use Rattle.log_model.specs.LogText.{line_of}
use Rattle.next_entry.specs.declared.cause.Cause.{Cause}
use Rattle.next_entry.specs.declared.cause.Cause.TheVariants as closed
use Rattle.next_entry.specs.declared.open_cause.OpenCause.{OpenCause}
use Rattle.next_entry.specs.declared.open_cause.OpenCause.TheVariants as causes
use Rattle.next_entry.specs.declared.open_cause.OpenTold.{OpenTold}
use Rattle.next_entry.specs.declared.open_cause.OpenTold.TheVariants as told
use Rattle.next_entry.specs.declared.open_cause.Part.{Part}
use Rattle.next_entry.specs.declared.open_cause.Part.TheVariants as parts
use Rattle.explain_text.specs.Plain.{around, at_work_after, cause_line, seat_of}

-- the cause of a script's log that says the same, where there is one
abbrev pub told_as : OpenCause → Option Cause
told_as causes.NoSeat = Some closed.NoSeat
told_as causes.OnlyDriver = Some closed.OnlyDriver
told_as (causes.Best next edge) = Some (closed.Best next edge)
told_as (causes.NoSource bar) = Some (closed.NoSource bar)
told_as (causes.NotIdle running ready) = Some (closed.NotIdle running ready)
told_as (causes.Inside job seats) = Some (closed.Inside job seats)
told_as (causes.Blocked count) = Some (closed.Blocked count)
told_as (causes.Makes next) = None
told_as causes.Over = None
told_as (causes.Unfit part) = None

-- the task or the job that a part names
abbrev pub part_number : Part → Option ℕ
part_number (parts.PostedBefore task) = Some task
part_number (parts.OfStep task) = Some task
part_number (parts.Runs task) = Some task
part_number (parts.Holds job) = Some job
part_number (parts.IsMain task) = Some task
part_number (parts.IsPool task) = Some task
part_number (parts.ScopeOpen task) = Some task
part_number (parts.NoScope task) = Some task
part_number (parts.MayNotBlock task) = Some task
part_number (parts.JobPostedBefore job) = Some job
part_number (parts.JobUnposted job) = Some job
part_number (parts.NotCancelled job) = Some job
part_number part = None

-- the words before it; all words, where there is none
abbrev pub part_before : Part → List ℕ
part_before parts.Undeclared = codes "it names what is not declared, or a number out of its range"
part_before (parts.PostedBefore task) = codes "task "
part_before (parts.OfStep task) = codes "a step posts task "
part_before parts.NoPoster = codes "it runs no task"
part_before parts.DriverTakes = codes "the driver takes nothing of the pool"
part_before parts.GuestTakes = codes "it is the guest's, which takes nothing"
part_before (parts.Runs task) = codes "it runs task "
part_before (parts.Holds job) = codes "it is inside job "
part_before parts.RunsNothing = codes "it runs no task"
part_before parts.HoldsNothing = codes "it holds no item"
part_before (parts.IsMain task) = codes "it runs task "
part_before (parts.IsPool task) = codes "it runs task "
part_before (parts.ScopeOpen task) = codes "a blocking scope of task "
part_before (parts.NoScope task) = codes "no blocking scope of task "
part_before (parts.MayNotBlock task) = codes "task "
part_before parts.IsDone = codes "shutdown is done"
part_before (parts.JobPostedBefore job) = codes "job "
part_before (parts.JobUnposted job) = codes "job "
part_before (parts.NotCancelled job) = codes "job "
part_before parts.StartedBefore = codes "shutdown was started before"
part_before parts.NotStarted = codes "shutdown was not started"

-- the words after it
abbrev pub part_after : Part → List ℕ
part_after (parts.PostedBefore task) = codes " was posted before"
part_after (parts.OfStep task) = codes ", and it runs no task with such a step"
part_after (parts.IsMain task) = codes ", a main task"
part_after (parts.IsPool task) = codes ", which is no main task"
part_after (parts.ScopeOpen task) = codes " is open"
part_after (parts.NoScope task) = codes " is open"
part_after (parts.MayNotBlock task) = codes " may not block"
part_after (parts.JobPostedBefore job) = codes " was posted before"
part_after (parts.JobUnposted job) = codes " was not posted"
part_after (parts.NotCancelled job) = codes " was not cancelled"
part_after part = []

-- words, or words around a number
abbrev pub said : List ℕ → Option ℕ → List ℕ → List ℕ
said before number after = option_map_or (λ n. around before n after) number before

-- why a seat may not make the call of an entry
abbrev pub part_words : Part → List ℕ
part_words part = said (part_before part) (part_number part) (part_after part)

-- the line of a cause that no script's log has
abbrev pub own_line : ℕ → ℕ → OpenCause → List ℕ
own_line place seat (causes.Makes next) = around (codes "seat ") seat (codes " may make in its place: ") ++ line_of place (entry_by seat next)
own_line place seat causes.Over = around (codes "shutdown is done, and nothing is left for seat ") seat (codes "\n")
own_line place seat (causes.Unfit part) = around (codes "seat ") seat (codes " may not make this: ") ++ part_words part ++ codes "\n"
own_line place seat cause = []

-- the cause, and the entry that it names, of an entry of the seat at the place
abbrev pub open_cause_line : ℕ → ℕ → OpenCause → List ℕ
open_cause_line place seat cause = option_map_or (cause_line place seat) (told_as cause) (own_line place seat cause)

-- what is said of a log of an open plan; of a legal one nothing
abbrev pub open_text : List Entry → OpenTold → List ℕ
open_text log told.Legal = []
open_text log (told.Barred place cause) = open_cause_line place (seat_of (slice_get log place)) cause
open_text log (told.AtWork place busy) = at_work_after (codes "unfinished: still at work") busy.items
