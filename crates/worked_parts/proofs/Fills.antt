-- What a test keeps that pushes one task at each number, with the number as its order.
-- Cited by `lanes_beside_plain_lists`.
use Rattle.std.proofs.Common.{◌≡◌, ◌≤◌, ◌+◌, ℕ, List, [], ◌∷◌, ◌++◌, drop, length, arith, length-append}
use Rattle.std.specs.List.{AllByRecursion}
use Rattle.list_laws.proofs.Elements.{AllByRecursion-append, AllByRecursion-map}
use Rattle.task_base.specs.declared.script.Lane.{Lane}
use Rattle.task_base.specs.declared.script.Lane.TheVariants.{Immediate, Delayed}
use Rattle.work_queue.specs.declared.queued.Queued.{Queued}
use Rattle.work_queue.specs.Lanes.{IsBelow, Lanes, emptied, popped, pushed}

-- this room, and at most this many tasks, all of orders below it
pub record IsFilled (room count : ℕ) (lanes : Lanes) : Type 0 where
  pub room_is : lanes.room ≡ room
  pub few : length lanes.immediate + length lanes.delayed ≤ count
  pub immediate_below : AllByRecursion (IsBelow count) lanes.immediate
  pub delayed_below : AllByRecursion (IsBelow count) lanes.delayed

below_next : (count : ℕ) (held : List Queued) → AllByRecursion (IsBelow count) held → AllByRecursion (IsBelow (count + 1)) held
below_next count held = AllByRecursion-map (IsBelow count) (IsBelow (count + 1)) held (λ queued less. omega (arith, less))

below_pushed : (count : ℕ) (held : List Queued) (queued : Queued) → queued.order ≡ count → AllByRecursion (IsBelow count) held
    → AllByRecursion (IsBelow (count + 1)) (held ++ queued ∷ [])
below_pushed count held queued is below =
    AllByRecursion-append (IsBelow (count + 1)) held (queued ∷ []) (below_next count held below) (omega (arith, is), tt)

pub filled-pushed : (room count : ℕ) (lanes : Lanes) (lane : Lane) (queued : Queued) → queued.order ≡ count → IsFilled room count lanes
    → IsFilled room (count + 1) (pushed lanes lane queued)
filled-pushed room count lanes Immediate queued is filled = record {
  room_is = filled.room_is;
  few = let few = filled.few in omega (arith, few, length-append lanes.immediate (queued ∷ []));
  immediate_below = below_pushed count lanes.immediate queued is filled.immediate_below;
  delayed_below = below_next count lanes.delayed filled.delayed_below;
}
filled-pushed room count lanes Delayed queued is filled = record {
  room_is = filled.room_is;
  few = let few = filled.few in omega (arith, few, length-append lanes.delayed (queued ∷ []));
  immediate_below = below_next count lanes.immediate filled.immediate_below;
  delayed_below = below_pushed count lanes.delayed queued is filled.delayed_below;
}

below_rest : (count : ℕ) (held : List Queued) → AllByRecursion (IsBelow count) held → AllByRecursion (IsBelow count) (drop 1 held)
below_rest count [] below = tt
below_rest count (queued ∷ held) below = below.1

shorter : (held : List Queued) → length (drop 1 held) ≤ length held
shorter [] = omega arith
shorter (queued ∷ held) = omega arith

pub filled-popped : (room count : ℕ) (lanes : Lanes) (lane : Lane) → IsFilled room count lanes → IsFilled room count (popped lanes lane)
filled-popped room count lanes Immediate filled = record {
  room_is = filled.room_is;
  few = let few = filled.few in omega (arith, few, shorter lanes.immediate);
  immediate_below = below_rest count lanes.immediate filled.immediate_below;
  delayed_below = filled.delayed_below;
}
filled-popped room count lanes Delayed filled = record {
  room_is = filled.room_is;
  few = let few = filled.few in omega (arith, few, shorter lanes.delayed);
  immediate_below = filled.immediate_below;
  delayed_below = below_rest count lanes.delayed filled.delayed_below;
}

pub filled-emptied : (room count : ℕ) (lanes : Lanes) → IsFilled room count lanes → IsFilled room count (emptied lanes)
filled-emptied room count lanes filled = record { room_is = filled.room_is; few = omega arith; immediate_below = tt; delayed_below = tt }
