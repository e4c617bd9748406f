use Rattle.std.proofs.Common.{refl}
use Rattle.hist_model.specs.Script.{current, is_wanted}
use Rattle.worked_calls.proofs.lives.refuse_last.Goals as goal

pub start_shutdown-requires : goal.start_shutdown-requires
unfolding is_wanted current
start_shutdown-requires g c = simp c.requires (record { driver = refl; wanted = refl })

pub try_done-requires : goal.try_done-requires
unfolding is_wanted current
try_done-requires g c = simp (c.start_shutdown.ensures.enters.entered, c.requires) (record { driver = refl; wanted = refl })

pub post-requires : goal.post-requires
unfolding is_wanted current
post-requires g c ok = simp (c.in-Ok.ensures.enters.entered, c.start_shutdown.ensures.enters.entered, c.requires)
    (record { driver = refl; wanted = refl })

pub assert_kept-requires : goal.assert_kept-requires
assert_kept-requires g c = simp (
  c.post.ensures.enters.entered,
  c.in-Ok.ensures.enters.entered,
  c.start_shutdown.ensures.enters.entered,
  c.requires,
) refl
