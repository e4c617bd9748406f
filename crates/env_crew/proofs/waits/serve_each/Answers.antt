use Rattle.std.proofs.Common.{refl, sym}
use Rattle.std.specs.Prelude.{slice_get}
use Rattle.env_crew.proofs.Spares.{desks_set, served_past}
use Rattle.env_crew.proofs.waits.serve_each.Goals.{in-Some, in_default}
use Rattle.env_crew.proofs.waits.serve_each.Goals as goal

pub loop-place-preserved : goal.loop-place-preserved
loop-place-preserved g c = elim c.match-at_mut.branch [
  | in-Some w ↦
      let i = w.spare-is in
      let here = sym {b = slice_get c.loop-place.spare.items c.loop-place.place} w.in-Some.ensures.item in
      rw i (desks_set g.D.Desk.desk c.args.spare.now.items c.loop-place.spare.items c.loop-place.place w.in-Some.desk.now w.serve.new.desk
      here w.serve.ensures.later w.serve.ensures.free w.serve.ensures.turned c.loop-place.invariant.0 c.loop-place.invariant.1 c.loop-place.invariant.2)
  | in_default w ↦
      let was = c.loop-place.invariant in
      let i = w.spare-is in
      rw i (was.0, was.1, served_past g.D.Desk.desk c.args.spare.now.items c.loop-place.spare.items c.loop-place.place (w.in_default.ensures.past_end.0 refl) was.2)
]
