-- Entries that are the same but for which item of a job it is.
use Rattle.std.specs.Prelude.{List, map}
use Rattle.std.specs.Option.{option_map}
use Rattle.task_base.specs.declared.entry.Entry.{Entry}
use Rattle.task_base.specs.declared.entry.JobReply.TheVariants.{Finished}
use Rattle.task_base.specs.declared.entry.Kind.{Kind}
use Rattle.task_base.specs.declared.entry.Kind.TheVariants as kinds

-- the kind, with what tells one item of a job from another left out: its number, the number inside the job, its value, and the
-- sum of the values. That a step goes on to a next item stays
abbrev pub without_items : Kind → Kind
without_items (kinds.JobTake job id item) = kinds.JobTake job 0 0
without_items (kinds.JobStep job id item value next) = kinds.JobStep job 0 0 0 (option_map (λ n. 0) next)
without_items (kinds.Joined job (Finished sum)) = kinds.Joined job (Finished 0)
without_items kind = kind

-- the entry, with the same left out
abbrev pub told_entry : Entry → Entry
told_entry e = record { seat = e.seat; kind = without_items e.kind }

-- the entries, with the same left out
abbrev pub told_entries : List Entry → List Entry
told_entries log = map told_entry log
