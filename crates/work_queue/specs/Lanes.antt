-- What contracts see of the tasks of a main queue.
use Rattle.std.specs.Prelude.{ℕ, ◌<◌, nat_lt, Bool, List, [], ◌∷◌, ◌++◌, drop}
use Rattle.task_base.specs.declared.script.Lane.{Lane}
use Rattle.task_base.specs.declared.script.Lane.TheVariants.{Immediate, Delayed}
use Rattle.work_queue.specs.declared.queued.Queued.{Queued}

-- the tasks of each lane, in the order in which they came; and how many there is room for in all
pub record Lanes : Type 0 where
  pub immediate : List Queued
  pub delayed : List Queued
  pub room : ℕ

-- the tasks of one lane
abbrev pub lane_of : Lanes → Lane → List Queued
lane_of lanes Immediate = lanes.immediate
lane_of lanes Delayed = lanes.delayed

-- the tasks of both lanes
abbrev pub all_held : Lanes → List Queued
all_held lanes = lanes.immediate ++ lanes.delayed

-- other tasks in one lane; the other lane and the room stay
abbrev pub with_lane : Lanes → Lane → List Queued → Lanes
with_lane lanes Immediate held = record lanes { immediate = held }
with_lane lanes Delayed held = record lanes { delayed = held }

-- one more task at the end of a lane
abbrev pub pushed : Lanes → Lane → Queued → Lanes
pushed lanes lane queued = with_lane lanes lane (lane_of lanes lane ++ queued ∷ [])

-- a lane without its first task, if it has one
abbrev pub popped : Lanes → Lane → Lanes
popped lanes lane = with_lane lanes lane (drop 1 (lane_of lanes lane))

-- no task, and the same room
abbrev pub emptied : Lanes → Lanes
emptied lanes = record lanes { immediate = []; delayed = [] }

-- its order is below this one
abbrev pub IsBelow : ℕ → Queued → Type 0
IsBelow order queued = queued.order < order

-- the first came before the second
abbrev pub comes_before : Queued → Queued → Bool
comes_before a b = nat_lt a.order b.order
