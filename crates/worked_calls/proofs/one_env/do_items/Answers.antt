use Rattle.std.proofs.Common.{refl, arith}
use Rattle.task_model.specs.Seats.{holding, running}
use Rattle.worked_calls.proofs.one_env.do_items.Goals as goal

pub take_item-pass-requires : goal.take_item-pass-requires
unfolding holding running
take_item-pass-requires g c = simp c.requires (record { worker = omega arith; known = omega arith; free = refl })

pub go_on-pass-requires : goal.go_on-pass-requires
unfolding holding
go_on-pass-requires g c = simp (c.take_item-pass.ensures.entered, c.take_item-pass.ensures.pass, c.requires)
    (record { held = record { known = omega arith; holds = refl }; value_is = refl })

pub leave-requires : goal.leave-requires
unfolding holding
leave-requires g c = simp (
  c.go_on-pass.ensures.entered,
  c.go_on-pass.ensures.pass,
  c.take_item-pass.ensures.entered,
  c.take_item-pass.ensures.pass,
  c.requires,
) (record { held = record { known = omega arith; holds = refl }; value_is = refl })

pub returns : goal.returns
returns g c = simp (
  c.leave.ensures,
  c.go_on-pass.ensures.entered,
  c.go_on-pass.ensures.pass,
  c.take_item-pass.ensures.entered,
  c.take_item-pass.ensures.pass,
  c.requires,
) refl
