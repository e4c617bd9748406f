use Rattle.std.proofs.Common.{refl}
use Rattle.task_model.specs.Seats.{acts_done, running}
use Rattle.hist_model.specs.Script.{current, is_wanted}
use Rattle.worked_calls.proofs.lives.do_main.Goals as goal

pub main_post-requires : goal.main_post-requires
unfolding is_wanted current
main_post-requires g c ok = simp c.requires (record { driver = refl; wanted = refl })

pub assert_kept-requires : goal.assert_kept-requires
assert_kept-requires g c = simp (c.main_post.ensures.enters.entered, c.requires) refl

pub take_main-work-requires : goal.take_main-work-requires
unfolding is_wanted current running
take_main-work-requires g c = simp (c.main_post.ensures.enters.entered, c.requires) (record { driver = refl; wanted = refl })

pub assert_kept-requires-2 : goal.assert_kept-requires-2
assert_kept-requires-2 g c = simp (c.take_main-work.ensures.entered, c.main_post.ensures.enters.entered, c.requires) refl

pub end_main-requires-clause-last : goal.end_main-requires-clause-last
unfolding running acts_done
end_main-requires-clause-last g c = simp (c.take_main-work.ensures.entered, c.main_post.ensures.enters.entered, c.requires)
    (record { runs = refl; all_entered = refl })

pub assert_kept-requires-3 : goal.assert_kept-requires-3
assert_kept-requires-3 g c = simp (
  c.end_main.ensures,
  c.take_main-work.ensures.entered,
  c.main_post.ensures.enters.entered,
  c.requires,
) refl
