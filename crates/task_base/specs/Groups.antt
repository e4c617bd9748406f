-- Which thread group does which work, and when a blocking scope has come to count.
use Rattle.std.specs.Prelude.{ℕ, ◌==◌, Bool, true, false, ◌&&◌, nat_lt, nat_le, if◌then◌else◌}
use Rattle.task_traits.specs.declared.traits.Priority.{Priority}
use Rattle.task_traits.specs.declared.traits.Priority.TheVariants.{BestEffort, UserVisible, UserBlocking}
use Rattle.task_base.specs.Plan.{Plan}
use Rattle.task_base.specs.declared.step.Scope.{Scope}
use Rattle.task_base.specs.declared.step.Scope.TheVariants.{May, Will}

-- the importance of a priority, as a number (`task_traits.h`)
abbrev pub importance : Priority → ℕ
importance BestEffort = 0
importance UserVisible = 1
importance UserBlocking = 2

-- work of this priority is best-effort work
abbrev pub is_best_effort : Priority → Bool
is_best_effort priority = importance priority == 0

-- the two thread groups of the pool (the notion of `thread_pool.h`; the rules on them are this project's own)
pub data Group : Type 0 where
  Foreground : Group
  Background : Group

-- best-effort work belongs to the background group where the script has one; all other work to the foreground group
abbrev pub group_of : Plan → Priority → Group
group_of script priority = if is_best_effort priority && nat_lt 0 script.background then Background else Foreground

-- the two groups are the same
abbrev pub same_group : Group → Group → Bool
same_group Foreground Foreground = true
same_group Background Background = true
same_group Foreground Background = false
same_group Background Foreground = false

-- a scope that will block counts at once, one that may block once it has been open for the threshold (this
-- project's own rule)
abbrev pub has_come : Scope → ℕ → ℕ → Bool
has_come Will due now = true
has_come May due now = nat_le due now
