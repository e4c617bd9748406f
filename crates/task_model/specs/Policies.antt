-- Which policy is in force.
use Rattle.std.specs.Prelude.{Bool, List, fold}
use Rattle.task_base.specs.declared.entry.Entry.{Entry}
use Rattle.task_base.specs.declared.entry.Kind.{Kind}
use Rattle.task_base.specs.declared.entry.Kind.TheVariants as kinds
use Rattle.task_base.specs.declared.policy.Policy.{Policy}
use Rattle.task_base.specs.declared.policy.Policy.TheVariants.{All}
use Rattle.task_base.specs.Policy.{is_held_back}
use Rattle.task_traits.specs.declared.traits.Priority.{Priority}
use Rattle.task_model.specs.Phase.{phase_of}

-- the policy after an entry
abbrev pub policy_after : Policy → Kind → Policy
policy_after now (kinds.Policy policy) = policy
policy_after now kind = now

-- the policy that was set last, at first `all` (this project's own rule)
unfoldable pub policy_of : List Entry → Policy
policy_of past = fold (λ now e. policy_after now e.kind) All past

-- the policy holds back work of the priority; from the start of shutdown on it has no effect
abbrev pub is_held : List Entry → Priority → Bool
is_held past priority = is_held_back (phase_of past) (policy_of past) priority
