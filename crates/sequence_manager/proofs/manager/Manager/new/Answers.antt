use Rattle.sequence_manager.proofs.AtStart.{stands_at}
use Rattle.std.proofs.lemmas.Result.{IfOk-weaker}
use Rattle.sequence_manager.proofs.manager.Manager.new.Goals as goal

pub returns : goal.returns
returns c = IfOk-weaker c.with_rooms.result _ _
    (λ manager. stands_at c.args.script.now c.in_ok-rooms.rooms.items c.as_slice.result.now manager c.requires c.in_ok-rooms.ensures c.as_slice.ensures.value)
    c.with_rooms.ensures
