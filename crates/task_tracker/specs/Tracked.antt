-- What contracts see of the tracker.
use Rattle.std.specs.Prelude.{ℕ, ◌+◌, Bool, not, ◌&&◌}
use Rattle.task_traits.specs.Behaviour.{forbids}
use Rattle.task_traits.specs.declared.phase.Phase.{Phase}
use Rattle.task_traits.specs.declared.traits.Behaviour.{Behaviour}
use Rattle.task_traits.specs.declared.traits.Behaviour.TheVariants.{ContinueOnShutdown, SkipOnShutdown, BlockShutdown}
use Rattle.task_traits.specs.declared.traits.Priority.{Priority}
use Rattle.task_base.specs.Policy.{is_held_back}
use Rattle.task_base.specs.declared.policy.Policy.{Policy}

-- the phase and the policy; the accepted block tasks without an end and block jobs that are not over; the
-- running skip tasks and workers inside skip jobs
pub record Tracked : Type 0 where
  pub phase : Phase
  pub policy : Policy
  pub block_items : ℕ
  pub skip_items : ℕ

-- how many pieces of work shutdown waits for
abbrev pub blocker_count : Tracked → ℕ
blocker_count t = t.block_items + t.skip_items

-- what a task or job of the behaviour adds to the block items, from when it is accepted until it is over
abbrev pub block_share : Behaviour → ℕ
block_share ContinueOnShutdown = 0
block_share SkipOnShutdown = 0
block_share BlockShutdown = 1

-- what a task or worker of the behaviour adds to the skip items, while it runs
abbrev pub skip_share : Behaviour → ℕ
skip_share ContinueOnShutdown = 0
skip_share SkipOnShutdown = 1
skip_share BlockShutdown = 0

-- work of the priority and the effective behaviour may start: neither the phase nor the policy is against it
abbrev pub may_start : Tracked → Priority → Behaviour → Bool
may_start t priority effective = not (forbids t.phase effective) && not (is_held_back t.phase t.policy priority)
