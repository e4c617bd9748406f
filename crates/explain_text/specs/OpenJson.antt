-- The same as one compact JSON object (this project's own form; RFC 8259).
use Rattle.std.specs.Prelude.{ℕ, List, [], ◌++◌, slice_get, codes}
use Rattle.std.specs.Option.{option_map_or}
use Rattle.task_base.specs.Entries.{entry_by}
use Rattle.task_base.specs.declared.entry.Entry.{Entry}
use Rattle.next_entry.specs.declared.cause.Cause.{Cause}
use Rattle.next_entry.specs.declared.open_cause.OpenCause.{OpenCause}
use Rattle.next_entry.specs.declared.open_cause.OpenCause.TheVariants as causes
use Rattle.next_entry.specs.declared.open_cause.OpenTold.{OpenTold}
use Rattle.next_entry.specs.declared.open_cause.OpenTold.TheVariants as told
use Rattle.next_entry.specs.declared.open_cause.Part.{Part}
use Rattle.next_entry.specs.declared.open_cause.Part.TheVariants as parts
use Rattle.explain_text.specs.Json.{at_work_object, cause_object, entry_key, object_of}
use Rattle.explain_text.specs.OpenPlain.{part_number, told_as}
use Rattle.explain_text.specs.Plain.{around, seat_of}

-- the word of a part, as a key
abbrev pub part_key : Part → List ℕ
part_key parts.Undeclared = codes ",\"part\":\"undeclared\""
part_key (parts.PostedBefore task) = codes ",\"part\":\"posted_before\""
part_key (parts.OfStep task) = codes ",\"part\":\"of_step\""
part_key parts.NoPoster = codes ",\"part\":\"no_poster\""
part_key parts.DriverTakes = codes ",\"part\":\"driver_takes\""
part_key parts.GuestTakes = codes ",\"part\":\"guest_takes\""
part_key (parts.Runs task) = codes ",\"part\":\"runs\""
part_key (parts.Holds job) = codes ",\"part\":\"holds\""
part_key parts.RunsNothing = codes ",\"part\":\"runs_nothing\""
part_key parts.HoldsNothing = codes ",\"part\":\"holds_nothing\""
part_key (parts.IsMain task) = codes ",\"part\":\"is_main\""
part_key (parts.IsPool task) = codes ",\"part\":\"is_pool\""
part_key (parts.ScopeOpen task) = codes ",\"part\":\"scope_open\""
part_key (parts.NoScope task) = codes ",\"part\":\"no_scope\""
part_key (parts.MayNotBlock task) = codes ",\"part\":\"may_not_block\""
part_key parts.IsDone = codes ",\"part\":\"is_done\""
part_key (parts.JobPostedBefore job) = codes ",\"part\":\"job_posted_before\""
part_key (parts.JobUnposted job) = codes ",\"part\":\"job_unposted\""
part_key (parts.NotCancelled job) = codes ",\"part\":\"not_cancelled\""
part_key parts.StartedBefore = codes ",\"part\":\"started_before\""
part_key parts.NotStarted = codes ",\"part\":\"not_started\""

-- what the number of a part is of
abbrev pub number_key : Part → List ℕ
number_key (parts.Holds job) = codes ",\"job\":"
number_key (parts.JobPostedBefore job) = codes ",\"job\":"
number_key (parts.JobUnposted job) = codes ",\"job\":"
number_key (parts.NotCancelled job) = codes ",\"job\":"
number_key part = codes ",\"task\":"

-- a part, and the task or the job that it names
abbrev pub part_keys : Part → List ℕ
part_keys part = part_key part ++ option_map_or (λ n. around (number_key part) n []) (part_number part) []

-- the word of a cause that no script's log has
abbrev pub own_name : OpenCause → List ℕ
own_name (causes.Makes next) = codes "makes"
own_name causes.Over = codes "over"
own_name (causes.Unfit part) = codes "unfit"
own_name cause = []

-- what it names beside its seat
abbrev pub own_keys : ℕ → ℕ → OpenCause → List ℕ
own_keys place seat (causes.Makes next) = entry_key place (entry_by seat next)
own_keys place seat (causes.Unfit part) = part_keys part
own_keys place seat cause = []

-- its object
abbrev pub own_object : ℕ → ℕ → ℕ → OpenCause → List ℕ
own_object line place seat cause = object_of line (own_name cause) (around (codes ",\"seat\":") seat (own_keys place seat cause))

-- the object of a cause that holds of a seat at a place
abbrev pub open_cause_object : ℕ → ℕ → ℕ → OpenCause → List ℕ
open_cause_object line place seat cause =
    option_map_or (λ (same : Cause). cause_object line place seat same []) (told_as cause) (own_object line place seat cause)

-- what is said of a log of an open plan that is wrong at this line; of a legal one nothing
abbrev pub open_json : ℕ → List Entry → OpenTold → List ℕ
open_json line log told.Legal = []
open_json line log (told.Barred place cause) = open_cause_object line place (seat_of (slice_get log place)) cause
open_json line log (told.AtWork place busy) = at_work_object line busy.items
