use Rattle.std.proofs.Common.{false, true, refl, sym, ap, ◌∙◌}
use Rattle.std.specs.List.{list_all}
use Rattle.env_step.specs.Hands.{is_empty}
use Rattle.log_replay.proofs.Whole.{finished_told, whole_told}
use Rattle.log_replay.proofs.replay.Replay.is_whole.Goals as goal

pub returns-then-is_none : goal.returns-then-is_none
returns-then-is_none c =
    let finished = finished_told c.self.inside.env.script c.self.inside.env.history c.action.result c.is_none.result c.self.invariant.closed
    c.action.ensures.action c.is_none.ensures in
    rw (← c.self.view_is) (whole_told c.self.inside.env c.self.inside.hands c.self.invariant true c.all_free.result
    (sym c.if-is_none.true ∙ finished) c.all_free.ensures)

pub returns-else-is_none : goal.returns-else-is_none
returns-else-is_none c =
    let finished = finished_told c.self.inside.env.script c.self.inside.env.history c.action.result c.is_none.result c.self.invariant.closed
    c.action.ensures.action c.is_none.ensures in
    rw (← c.self.view_is) (c.if-is_none.false ∙ whole_told c.self.inside.env c.self.inside.hands c.self.invariant false
    (list_all is_empty c.self.inside.hands) (sym c.if-is_none.false ∙ finished) refl)
