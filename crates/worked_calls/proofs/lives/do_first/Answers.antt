use Rattle.std.proofs.Common.{refl}
use Rattle.std.proofs.lemmas.Bool.{leb-true}
use Rattle.task_model.specs.Seats.{acts_done, holding, running}
use Rattle.hist_model.specs.Script.{current, is_wanted}
use Rattle.worked_calls.proofs.lives.do_first.Goals as goal

pub post-requires : goal.post-requires
unfolding is_wanted current
post-requires g c ok = simp c.requires (record { driver = refl; wanted = refl })

pub assert_kept-requires : goal.assert_kept-requires
assert_kept-requires g c = simp (c.post.ensures, c.requires) refl

pub take-work-requires : goal.take-work-requires
unfolding holding running
take-work-requires g c = simp (c.post.ensures, c.requires) (record { worker = leb-true 1 1 refl; known = leb-true 1 1 refl; free = refl })

pub assert_kept-requires-2 : goal.assert_kept-requires-2
assert_kept-requires-2 g c = simp (c.take-work.ensures.entered, c.post.ensures, c.requires) refl

pub end-requires-clause-last : goal.end-requires-clause-last
unfolding running acts_done
end-requires-clause-last g c = simp (c.take-work.ensures.entered, c.post.ensures, c.requires)
    (record { known = leb-true 1 1 refl; runs = refl; all_entered = refl })

pub returns : goal.returns
returns g c = simp (c.end.ensures, c.take-work.ensures.entered, c.post.ensures, c.requires) refl
