use Rattle.std.proofs.Common.{refl, arith}
use Rattle.nested_loop.specs.Nest.{deferred_tasks, depth_of, nesting_of}
use Rattle.nested_loop.proofs.machine.Machine.new.Goals as goal

pub returns : goal.returns
unfolding deferred_tasks depth_of nesting_of
returns c =
    let needed = c.requires.room in
    let frames = c.in_ok-frames.ensures.room in
    let deferred = c.in_ok-deferred.ensures.room in
    record {
      sound = c.requires.sound;
      is_past = record { each = tt };
      waiting = c.in_ok-waiting.ensures;
      deferred = c.in_ok-deferred.ensures.items;
      begun = refl;
      frames = c.in_ok-frames.ensures.items;
      depth = refl;
      frames_room = omega (arith, needed, frames);
      deferred_room = omega (arith, needed, deferred);
    }
