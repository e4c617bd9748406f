use Rattle.std.proofs.Common.{[], ap, refl, ◌∙◌}
use Rattle.task_base.specs.declared.entry.Kind.TheVariants as kinds
use Rattle.hist_model.specs.Script.{current, is_wanted}
use Rattle.turn_table.specs.Seats.{SeatView}
use Rattle.worked_calls.proofs.Turns.{asks}
use Rattle.worked_calls.specs.Plans.{closing_plan}
use Rattle.worked_calls.proofs.fronts.post.Goals as goal

pub post-requires : goal.post-requires
unfolding is_wanted current
post-requires g c ok = asks c.turn-env.result.0 closing_plan c.args.first [] (kinds.Post 0 0 5 ok) (c.turn-env.ensures.basis ∙ c.requires.script)
    (ap (λ (s : SeatView). s.number) c.requires.first) (ap (λ (s : SeatView). s.mine) c.requires.first) c.turn-env.ensures.own refl
