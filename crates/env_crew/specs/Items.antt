-- The items of a job that a seat inside ends, one after the other.
use Rattle.std.specs.Prelude.{◌≡◌, Bool, true, false, List, ◌++◌}
use Rattle.std.specs.List.{AllByRecursion}
use Rattle.task_base.specs.declared.entry.Entry.{Entry}
use Rattle.task_base.specs.declared.entry.Kind.{Kind}
use Rattle.task_base.specs.declared.entry.Kind.TheVariants as kinds
use Rattle.env_crew.specs.Desk.{DeskView, IsLater, mine}

-- the entry of the end of an item
abbrev pub is_step : Kind → Bool
is_step (kinds.JobStep job id item value next) = true
is_step kind = false

-- the same desk, now or later; what the seat entered meanwhile are ends of items
pub record HasDoneItems (old new : DeskView) : Type 0 where
  pub later : IsLater old new
  pub made : List Entry
  pub grows : mine new ≡ mine old ++ made
  pub steps : AllByRecursion (λ e. is_step e.kind ≡ true) made
