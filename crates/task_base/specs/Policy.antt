-- Which work a policy holds back.
use Rattle.std.specs.Prelude.{Bool, true, false}
use Rattle.task_traits.specs.declared.phase.Phase.{Phase}
use Rattle.task_traits.specs.declared.phase.Phase.TheVariants.{Running, Started, Done}
use Rattle.task_traits.specs.declared.traits.Priority.{Priority}
use Rattle.task_traits.specs.declared.traits.Priority.TheVariants.{BestEffort, UserVisible, UserBlocking}
use Rattle.task_base.specs.declared.policy.Policy.{Policy}
use Rattle.task_base.specs.declared.policy.Policy.TheVariants.{All, Foreground, Nothing}

-- a policy in force holds back pool work of the priority: `Foreground` best-effort work, `Nothing` all of it
-- (this project's own rule)
abbrev pub holds_back : Policy → Priority → Bool
holds_back All priority = false
holds_back Foreground BestEffort = true
holds_back Foreground UserVisible = false
holds_back Foreground UserBlocking = false
holds_back Nothing priority = true

-- the policy holds back work of the priority in this phase: it is in force until shutdown starts (this
-- project's own rule)
abbrev pub is_held_back : Phase → Policy → Priority → Bool
is_held_back Running policy priority = holds_back policy priority
is_held_back Started policy priority = false
is_held_back Done policy priority = false
