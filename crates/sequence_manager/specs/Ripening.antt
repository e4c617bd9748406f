-- How delayed main tasks ripen in the course of a tick.
use Rattle.std.specs.Prelude.{◌≡◌, ℕ, ◌+◌, ◌<◌, true, nat_le, if◌then◌else◌, List, [], ◌∷◌, ◌++◌, length, drop, Option, Some, None, slice_get}
use Rattle.std.specs.Option.{option_map}
use Rattle.std.specs.List.{AllByRecursion}
use Rattle.task_base.specs.Plan.{Plan}
use Rattle.task_base.specs.declared.entry.Entry.{Entry}
use Rattle.task_base.specs.declared.script.Lane.TheVariants.{Delayed}
use Rattle.list_laws.specs.Lists.{keep}
use Rattle.delayed_manager.specs.Delayed.{is_ripe, ripens_before, with_held}
use Rattle.delayed_manager.specs.declared.ripening.Ripening.{Ripening}
use Rattle.task_model.specs.Orders.{next_draw}
use Rattle.queue_laws.specs.Orders.{Ordered, main_arrivals, numbered_from}
use Rattle.task_model.specs.Posts.{Posted}
use Rattle.sequence_manager.specs.Calls.{CanTick}
use Rattle.sequence_manager.specs.Queues.{unripe}
use Rattle.sequence_manager.specs.StandsFor.{ArePartsOf}
use Rattle.sequence_manager.specs.State.{CanPush, pushed, queue_at, with_queue}
use Rattle.sequence_manager.specs.declared.manager.Manager.{Manager}
use Rattle.sequence_manager.specs.declared.task_queue.TaskQueue.{TaskQueue}

-- the first of two delayed tasks of queues, by the order in which they ripen
abbrev pub sooner : Option (Ripening × ℕ) → Option Ripening → ℕ → Option (Ripening × ℕ)
sooner first None q = first
sooner None (Some other) q = Some (other, q)
sooner (Some first) (Some other) q = Some (if ripens_before other first.0 then (other, q) else first)

-- the delayed task of the queues from one on that ripens first, if it ripens before this one
abbrev pub soonest_from : Option (Ripening × ℕ) → ℕ → List TaskQueue → Option (Ripening × ℕ)
soonest_from first q [] = first
soonest_from first q (queue ∷ queues) = soonest_from (sooner first (slice_get queue.delayed.held 0) q) (q + 1) queues

-- the queue of the delayed task that ripens before all others, if that one is ripe by now
abbrev pub first_ripe : ℕ → List TaskQueue → Option ℕ
first_ripe now queues = option_map (λ first. first.1) (keep (λ first. is_ripe now first.0) (soonest_from None 0 queues))

-- the manager without the first delayed task of the queue
abbrev pub without_first : Manager → ℕ → Manager
without_first manager q = with_queue manager q (record (queue_at manager.queues q) {
  delayed = with_held (queue_at manager.queues q).delayed (drop 1 (queue_at manager.queues q).delayed.held);
})

-- the manager with the delayed task, the queue's first, at the end of the lane of delayed tasks
abbrev pub ripened : Manager → ℕ → ℕ → Manager
ripened manager q task = pushed (without_first manager q) q Delayed task

-- the queue's first delayed task is this one, and is ripe; it may go to the lane
pub record CanRipen (arrivals : List Ordered) (manager : Manager) (q : ℕ) (first : Ripening) : Type 0 where
  pub there : q < length manager.queues
  pub first_is : slice_get (queue_at manager.queues q).delayed.held 0 ≡ Some first
  pub ripe : is_ripe manager.moment first ≡ true
  pub can_push : CanPush arrivals (without_first manager q) q Delayed first.task

-- the main tasks that have orders, with those that have ripened at a tick behind the past
abbrev pub known : List Entry → List Posted → List Ordered
known past front = main_arrivals past ++ numbered_from (next_draw past) front

-- a manager that could read the clock has read it at a tick; of its delayed tasks those in front have got their orders,
-- and each part stands for what it did otherwise
pub record IsInTick (script : Plan) (past : List Entry) (moment : ℕ) (front rest : List Posted) (manager : Manager) : Type 0 where
  pub before : Manager
  pub can : CanTick script past before moment
  pub all : unripe past ≡ front ++ rest
  pub ripe : AllByRecursion (λ p. nat_le p.ripe moment ≡ true) front
  pub parts : ArePartsOf script past (known past front) rest (next_draw past + length front) manager
  pub moment_is : manager.moment ≡ moment
