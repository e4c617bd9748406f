use Rattle.std.proofs.Common.{◌≡◌, ◌<◌, ◌≤◌, true, false, sym, ap, ◌∙◌, subst}
use Rattle.nested_loop.specs.Nest.{is_nestable}
use Rattle.nested_loop.specs.Stands.{Made}
use Rattle.nested_loop.proofs.Made.{can_take, deferred_free, defers_front, frames_free, loop_depth, loop_room, quits_full}
use Rattle.nested_loop.proofs.Made.{quits_nested, quits_outermost, starts_nested, starts_outermost}
use Rattle.nested_loop.proofs.machine.Machine.step_loop.Goals as goal

pub quit-requires : goal.quit-requires
quit-requires c = loop_depth c.args.nest.now c.requires.0 c.args.self.now c.requires.1 c.args.bound c.args.ended c.requires.2

pub returns-then-ended-bound : goal.returns-then-ended-bound
returns-then-ended-bound c = λ past stands inside.
    subst (λ event. Made c.args.nest.now past event c.quit.new.self) (sym c.quit.ensures.event)
    (quits_full c.args.nest.now past c.args.self.now stands c.args.bound c.args.ended inside c.quit.new.self c.if-ended-bound.true
    c.quit.ensures.others c.quit.ensures.frames c.quit.ensures.spare)

pub next_outermost-requires : goal.next_outermost-requires
next_outermost-requires c = (
  c.args.nest.now,
  c.requires.0,
  c.requires.1,
  loop_room c.args.nest.now c.requires.0 c.args.self.now c.requires.1 c.args.bound c.args.ended c.requires.2,
)

pub start-requires : goal.start-requires
start-requires c =
    let room = loop_room c.args.nest.now c.requires.0 c.args.self.now c.requires.1 c.args.bound c.args.ended c.requires.2 in
    let taken = c.next_outermost.ensures c.args.nest.now c.requires.0 c.requires.1 room in
    subst (λ frames. 0 < frames.spare) (sym (ap (λ machine. machine.frames) taken.others))
    (frames_free c.args.nest.now c.requires.0 c.args.self.now c.requires.1 room)

pub quit-requires-in-None : goal.quit-requires-in-None
quit-requires-in-None c =
    let room = loop_room c.args.nest.now c.requires.0 c.args.self.now c.requires.1 c.args.bound c.args.ended c.requires.2 in
    let taken = c.next_outermost.ensures c.args.nest.now c.requires.0 c.requires.1 room in
    subst (λ depth. 1 ≤ depth) (sym (ap (λ machine. machine.depth) taken.others))
    (loop_depth c.args.nest.now c.requires.0 c.args.self.now c.requires.1 c.args.bound c.args.ended c.requires.2)

pub returns-in-Some : goal.returns-in-Some
returns-in-Some c = λ past stands inside.
    let room = loop_room c.args.nest.now past c.args.self.now stands c.args.bound c.args.ended inside in
    subst (λ event. Made c.args.nest.now past event c.start.new.self) (sym c.start.ensures.event)
    (starts_outermost c.args.nest.now past c.args.self.now stands c.args.bound c.args.ended inside c.in-Some.task c.next_outermost.new.self c.start.new.self
    c.if-ended-bound.false c.if-self-eq1.true (c.in-Some.ensures c.args.nest.now past stands room)
    c.start.ensures.others c.start.ensures.frames c.start.ensures.spare)

pub returns-in-None : goal.returns-in-None
returns-in-None c = λ past stands inside.
    let room = loop_room c.args.nest.now past c.args.self.now stands c.args.bound c.args.ended inside in
    subst (λ event. Made c.args.nest.now past event c.quit-in-None.new.self) (sym c.quit-in-None.ensures.event)
    (quits_outermost c.args.nest.now past c.args.self.now stands c.args.bound c.args.ended inside c.next_outermost.new.self c.quit-in-None.new.self
    c.if-ended-bound.false c.if-self-eq1.true (c.in-None.ensures c.args.nest.now past stands room)
    c.quit-in-None.ensures.others c.quit-in-None.ensures.frames c.quit-in-None.ensures.spare)

pub take-requires : goal.take-requires
take-requires c =
    let room = loop_room c.args.nest.now c.requires.0 c.args.self.now c.requires.1 c.args.bound c.args.ended c.requires.2 in
    (c.args.nest.now, c.requires.0, can_take c.args.nest.now c.requires.0 c.args.self.now c.requires.1 room)

pub quit-requires-in-None-take : goal.quit-requires-in-None-take
quit-requires-in-None-take c = loop_depth c.args.nest.now c.requires.0 c.args.self.now c.requires.1 c.args.bound c.args.ended c.requires.2

pub start-requires-in-Some-take : goal.start-requires-in-Some-take
start-requires-in-Some-take c =
    let room = loop_room c.args.nest.now c.requires.0 c.args.self.now c.requires.1 c.args.bound c.args.ended c.requires.2 in
    frames_free c.args.nest.now c.requires.0 c.args.self.now c.requires.1 room

pub push-requires : goal.push-requires
push-requires c =
    let room = loop_room c.args.nest.now c.requires.0 c.args.self.now c.requires.1 c.args.bound c.args.ended c.requires.2 in
    deferred_free c.args.nest.now c.requires.0 c.args.self.now c.requires.1 room

pub returns-in-None-take : goal.returns-in-None-take
returns-in-None-take c = λ past stands inside.
    let can = can_take c.args.nest.now past c.args.self.now stands
    (loop_room c.args.nest.now past c.args.self.now stands c.args.bound c.args.ended inside) in
    subst (λ event. Made c.args.nest.now past event c.quit-in-None-take.new.self) (sym c.quit-in-None-take.ensures.event)
    (quits_nested c.args.nest.now past c.args.self.now stands c.args.bound c.args.ended inside c.take.new.self c.quit-in-None-take.new.self
    c.if-ended-bound.false c.if-self-eq1.false (c.in-None-take.ensures.front c.args.nest.now past can)
    (c.in-None-take.ensures.taken c.args.nest.now past can)
    c.quit-in-None-take.ensures.others c.quit-in-None-take.ensures.frames c.quit-in-None-take.ensures.spare)

pub returns-in-Some-take : goal.returns-in-Some-take
returns-in-Some-take c = λ past stands inside.
    let can = can_take c.args.nest.now past c.args.self.now stands
    (loop_room c.args.nest.now past c.args.self.now stands c.args.bound c.args.ended inside) in
    let may : is_nestable c.args.nest.now c.in-Some-take.task ≡ true = sym c.is_nestable.ensures ∙ c.if-is_nestable.true in
    subst (λ event. Made c.args.nest.now past event c.start-in-Some-take.new.self) (sym c.start-in-Some-take.ensures.event)
    (starts_nested c.args.nest.now past c.args.self.now stands c.args.bound c.args.ended inside c.in-Some-take.task c.take.new.self
    c.start-in-Some-take.new.self c.if-ended-bound.false c.if-self-eq1.false (c.in-Some-take.ensures.front c.args.nest.now past can) may
    (c.in-Some-take.ensures.taken c.args.nest.now past can)
    c.start-in-Some-take.ensures.others c.start-in-Some-take.ensures.frames c.start-in-Some-take.ensures.spare)

pub returns-in-Some-2 : goal.returns-in-Some-2
returns-in-Some-2 c = λ past stands inside.
    let can = can_take c.args.nest.now past c.args.self.now stands
    (loop_room c.args.nest.now past c.args.self.now stands c.args.bound c.args.ended inside) in
    let not_may : is_nestable c.args.nest.now c.in-Some-take.task ≡ false = sym c.is_nestable.ensures ∙ c.if-is_nestable.false in
    defers_front c.args.nest.now past c.args.self.now stands c.args.bound c.args.ended inside c.in-Some-take.task c.take.new.self c.push.new.self
    c.if-ended-bound.false c.if-self-eq1.false (c.in-Some-take.ensures.front c.args.nest.now past can) not_may
    (c.in-Some-take.ensures.taken c.args.nest.now past can) c.push.ensures.items c.push.ensures.spare
