-- Why a log is illegal, as a line of plain words (this project's own).
use Rattle.std.specs.Prelude.{ℕ, ◌-◌, nat_lt, if◌then◌else◌, List, [], ◌++◌, flat_map, length, slice_get, take, codes, decimal, Option, Some, None}
use Rattle.task_base.specs.declared.entry.Entry.{Entry}
use Rattle.task_base.specs.declared.entry.Kind.{Kind}
use Rattle.task_base.specs.Entries.{entry_by}
use Rattle.log_model.specs.LogText.{line_of}
use Rattle.next_entry.specs.Causes.{named_by}
use Rattle.next_entry.specs.declared.cause.Bar.{Bar}
use Rattle.next_entry.specs.declared.cause.Bar.TheVariants as bars
use Rattle.next_entry.specs.declared.cause.Busy.{Busy}
use Rattle.next_entry.specs.declared.cause.Cause.{Cause}
use Rattle.next_entry.specs.declared.cause.Cause.TheVariants as causes
use Rattle.next_entry.specs.declared.cause.Edge.{Edge}
use Rattle.next_entry.specs.declared.cause.Edge.TheVariants as edges
use Rattle.next_entry.specs.declared.cause.Explanation.{Explanation}
use Rattle.next_entry.specs.declared.cause.Explanation.TheVariants as explanations
use Rattle.next_entry.specs.declared.cause.Work.{Work}
use Rattle.next_entry.specs.declared.cause.Work.TheVariants as works

-- words around a number
abbrev pub around : List ℕ → ℕ → List ℕ → List ℕ
around words number rest = words ++ decimal number ++ rest

-- what the best source has over another
abbrev pub edge_words : Edge → List ℕ
edge_words edges.Same = codes " is taken by: "
edge_words edges.Priority = codes " (by priority) is taken by: "
edge_words edges.Inside = codes " (by fewer inside) is taken by: "
edge_words edges.Key = codes " (by key) is taken by: "
edge_words edges.Barred = codes " (the other is barred) is taken by: "
edge_words edges.Unready = codes " (the other is not ready) is taken by: "

-- what is against the take of the source that an entry takes
abbrev pub bar_words : Bar → List ℕ
bar_words bars.Unaccepted = codes "; this was not accepted"
bar_words bars.Taken = codes "; this was taken before"
bar_words bars.Cancelled = codes "; this job is cancelled"
bar_words bars.Forbidden = codes "; shutdown forbids this"
bar_words bars.Unripe = codes "; this is not ripe yet"
bar_words bars.Busy = codes "; this sequence runs"
bar_words bars.Claimed = codes "; all items of this are claimed"
bar_words bars.Full = codes "; this job is full"
bar_words bars.OtherSeat = codes "; this is another seat's runner"
bar_words bars.Held = codes "; the policy holds this back"
bar_words bars.Limit = codes "; the limits leave no room"

-- what stands against an entry of the seat
abbrev pub cause_words : ℕ → Cause → List ℕ
cause_words seat causes.NoSeat = around (codes "there is no seat ") seat []
cause_words seat causes.OnlyDriver = around (codes "the driver alone makes such an entry, and not seat ") seat []
cause_words seat causes.RunsNothing = around (codes "no task runs, and no item is held, on seat ") seat []
cause_words seat (causes.Runs task next) = around (codes "seat ") seat (around (codes " runs task ") task (codes ", and may go on by: "))
cause_words seat (causes.Holds job next) = around (codes "seat ") seat (around (codes " is inside job ") job (codes ", and may go on by: "))
cause_words seat (causes.Wants next) = codes "the script wants of the driver: "
cause_words seat (causes.Best next edge) = around (codes "the best source of seat ") seat (edge_words edge)
cause_words seat (causes.NoSource bar) = around (codes "nothing may be taken by seat ") seat (bar_words bar)
cause_words seat causes.Finished = around (codes "the script is finished, and nothing is left for seat ") seat []
cause_words seat (causes.NotIdle running ready) =
    around (codes "the pool is not idle; at work: ") running (if ready then codes "; something may be taken" else [])
cause_words seat (causes.Inside job seats) = around (codes "the driver waits for job ") job (around (codes "; seats inside: ") seats [])
cause_words seat (causes.Blocked count) = around (codes "the driver waits until shutdown is done; what blocks it: ") count []

-- the line of the entry that would be allowed at the place, if one is named, or else the end of this line
abbrev pub next_line : ℕ → ℕ → Option Kind → List ℕ
next_line place seat None = codes "\n"
next_line place seat (Some next) = line_of place (entry_by seat next)

-- the cause, and the entry that it names
abbrev pub cause_line : ℕ → ℕ → Cause → List ℕ
cause_line place seat cause = cause_words seat cause ++ next_line place seat (named_by cause)

-- the seat of an entry
abbrev pub seat_of : Option Entry → ℕ
seat_of None = 0
seat_of (Some e) = e.seat

-- what a seat runs or holds
abbrev pub work_words : Work → List ℕ
work_words (works.Task task) = codes " runs task " ++ decimal task
work_words (works.Item job) = codes " is inside job " ++ decimal job

-- a seat, and what it runs or holds
abbrev pub busy_words : Busy → List ℕ
busy_words busy = around (codes "; seat ") busy.seat (work_words busy.work)

-- how many seats are left, and the end of the line
abbrev pub more_words : ℕ → List ℕ
more_words count = if nat_lt 0 count then around (codes "; and ") count (codes " more\n") else codes "\n"

-- these words, the first four seats that run or hold something, and how many more there are
abbrev pub at_work_after : List ℕ → List Busy → List ℕ
at_work_after words busy = words ++ flat_map busy_words (take 4 busy) ++ more_words (length busy - 4)

-- what is said of a log; of a legal one nothing
abbrev pub told_text : List Entry → Explanation → List ℕ
told_text log explanations.Legal = []
told_text log (explanations.Barred place cause) = cause_line place (seat_of (slice_get log place)) cause
told_text log (explanations.Unfinished place seat cause) = codes "unfinished: " ++ cause_line place seat cause
told_text log (explanations.AtWork place busy) = at_work_after (codes "unfinished: the script is finished") busy.items
