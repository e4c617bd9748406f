-- One event of the machine, part by part.
-- Cited by `Made`.
use Rattle.std.proofs.Common.{◌≡◌, ◌+◌, ◌<◌, ◌≤◌, length, List, [], ◌∷◌, ◌++◌, refl, sym, ap, ◌∙◌, Some, None, arith, length-append}
use Rattle.std.specs.Prelude.{slice_get}
use Rattle.std.proofs.lemmas.Option.{none-some, same_Some}
use Rattle.nested_loop.specs.Keeping.{KeepsManager}
use Rattle.nested_loop.specs.Nest.{after_event, asked_by, deferred_tasks, depth_of, left, nesting_of, next_event}
use Rattle.nested_loop.specs.Plan.{NestPlan}
use Rattle.nested_loop.specs.Room.{events_bound}
use Rattle.nested_loop.specs.Stands.{Made, Stands}
use Rattle.nested_loop.specs.declared.event.Event.{Event}
use Rattle.nested_loop.specs.declared.frame.Frame.{Frame}
use Rattle.nested_loop.specs.declared.machine.Machine.{Machine}
use Rattle.nested_loop.proofs.Comes.{at, nesting_of_push, past_grows}
use Rattle.nested_loop.proofs.Known.{next_within}

-- a list with a first element
pub with_first : (xs : List Frame) (x : Frame) → slice_get xs 0 ≡ Some x → xs ≡ x ∷ left xs
with_first [] x h = absurd (none-some x h)
with_first (y ∷ ys) x h = ap (λ z. z ∷ ys) (same_Some y x h)

pub without_first : (xs : List Frame) → slice_get xs 0 ≡ None → xs ≡ []
without_first [] h = refl
without_first (y ∷ ys) h = absurd (none-some y (sym h))

-- what is open, as the machine has it
pub is_open : (nest : NestPlan) (past : List Event) (machine : Machine) → Stands nest past machine
    → nesting_of nest past ≡ at machine.begun machine.frames.items
is_open nest past machine stands = ap (λ b. at b (nesting_of nest past).frames) (sym stands.begun) ∙ ap (at machine.begun) (sym stands.frames)

-- what the machine is asked for
pub asked : (nest : NestPlan) (past : List Event) (machine : Machine) → Stands nest past machine
    → next_event nest past ≡ asked_by nest past machine.begun machine.frames.items
unfolding next_event
asked nest past machine stands = ap (λ now. asked_by nest past now.begun now.frames) (is_open nest past machine stands)

-- what the machine has made, where its parts are those that the event leaves
pub record Parts (nest : NestPlan) (past : List Event) (event : Event) (before after : Machine) : Type 0 where
  pub next : asked_by nest past before.begun before.frames.items ≡ Some event
  pub waiting : KeepsManager nest (past ++ event ∷ []) after.waiting
  pub deferred : after.deferred.items ≡ deferred_tasks (past ++ event ∷ [])
  pub nesting : at after.begun after.frames.items ≡ after_event nest (at before.begun before.frames.items) event
  pub depth : after.depth ≡ depth_of (past ++ event ∷ [])
  pub frames_spare : before.frames.spare ≤ after.frames.spare + 1
  pub deferred_spare : before.deferred.spare ≤ after.deferred.spare + 1

pub made : (nest : NestPlan) (past : List Event) (event : Event) (before after : Machine) → Stands nest past before → Parts nest past event before after
    → Made nest past event after
made nest past event before after stands parts =
    let next = asked nest past before stands ∙ parts.next in
    let nesting = nesting_of_push nest past event ∙ ap (λ now. after_event nest now event) (is_open nest past before stands) ∙ sym parts.nesting in
    let frames_room = stands.frames_room in
    let deferred_room = stands.deferred_room in
    let frames_spare = parts.frames_spare in
    let deferred_spare = parts.deferred_spare in
    let more = length-append past (event ∷ []) in
    record {
      next = next;
      stands = record {
        sound = stands.sound;
        is_past = past_grows nest past event stands.is_past next;
        waiting = parts.waiting;
        deferred = parts.deferred;
        begun = sym (ap (λ now. now.begun) nesting);
        frames = sym (ap (λ now. now.frames) nesting);
        depth = parts.depth;
        frames_room = omega (arith, frames_room, frames_spare, more);
        deferred_room = omega (arith, deferred_room, deferred_spare, more);
      };
    }

-- where an event comes next, there is room for it
pub has_room : (nest : NestPlan) (past : List Event) (machine : Machine) (event : Event) → Stands nest past machine
    → asked_by nest past machine.begun machine.frames.items ≡ Some event → length past < events_bound nest
has_room nest past machine event stands h = next_within nest stands.sound past event stands.is_past (asked nest past machine stands ∙ h)
