-- Which work counts toward which limit.
use Rattle.std.specs.Prelude.{ℕ, Bool, true, false, nat_le}
use Rattle.task_base.specs.Groups.{group_of}
use Rattle.task_base.specs.Plan.{Plan}
use Rattle.task_traits.specs.declared.traits.Priority.{Priority}
use Rattle.list_laws.specs.Lists.{holds_of}
use Rattle.task_model.specs.Capacity.{is_in, is_best_in}
use Rattle.situation.specs.Situation.{Situation}
use Rattle.log_count.specs.Parts.{scope_in}

-- work of a priority counts with work of the first one, in its group: of all of that, or of the best-effort work alone
abbrev pub counts_with : Plan → Priority → Bool → Priority → Bool
counts_with script priority true = is_best_in script (group_of script priority)
counts_with script priority false = is_in script (group_of script priority)

-- the open scope of a seat's task counts by now
abbrev pub scope_counts_in : Situation → ℕ → Bool
scope_counts_in s seat = holds_of (λ from. nat_le from s.now) (scope_in s seat)
