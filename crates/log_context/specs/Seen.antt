-- The last entry of a past that is what is looked for.
use Rattle.std.specs.Prelude.{if◌then◌else◌, List, length, Option, Some, None}
use Rattle.std.specs.Option.{option_map}
use Rattle.task_base.specs.declared.entry.Entry.{Entry}
use Rattle.task_model.specs.Past.{fold_past}
use Rattle.log_context.specs.Marks.{is_marked}
use Rattle.log_context.specs.declared.fact.Fact.{Fact}
use Rattle.log_context.specs.declared.fact.Fact.TheVariants as facts
use Rattle.log_context.specs.declared.fact.Role.{Role}
use Rattle.log_context.specs.declared.mark.Mark.{Mark}
use Rattle.log_context.specs.declared.seen.Seen.{Seen}

-- what was seen last, after one more entry
abbrev pub seen_after : Mark → List Entry → Option Seen → Entry → Option Seen
seen_after mark before now e = if is_marked mark e then Some (record { place = length before; entry = e }) else now

-- the last entry that is what is looked for, and its place
unfoldable pub last_marked : Mark → List Entry → Option Seen
last_marked mark past = fold_past (seen_after mark) None past

-- an entry is this to the one that may not come
abbrev pub stands_as : Role → Option Seen → Option Fact
stands_as role seen = option_map (λ s. facts.Stands role s.place s.entry) seen

-- the last entry that is what is looked for is this to the one that may not come
abbrev pub tells : Role → Mark → List Entry → Option Fact
tells role mark past = stands_as role (last_marked mark past)
