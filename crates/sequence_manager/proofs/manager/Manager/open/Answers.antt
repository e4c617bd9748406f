use Rattle.sequence_manager.proofs.AtStart.{open_rooms, stands_at}
use Rattle.sequence_manager.specs.Postings.{room_of}
use Rattle.sequence_manager.specs.Queues.{IsTable}
use Rattle.std.proofs.Common.{ap, ap₂, length, replicate, ◌∙◌, ◌≡◌}
use Rattle.std.proofs.lemmas.Result.{IfOk-weaker}
use Rattle.task_base.specs.Plan.{Plan, opened}
use Rattle.sequence_manager.proofs.manager.Manager.open.Goals as goal

pub returns : goal.returns
returns c =
    let rooms : c.in_ok-rooms.rooms.items ≡ replicate (length c.args.script.now.queues) (length c.args.script.now.tasks) =
    c.in_ok-rooms.ensures.items_if_clones_equal (λ y is. is) ∙ ap₂ replicate c.len.ensures.count c.len-room.ensures.count
    ∙ ap (λ (s : Plan). replicate (length s.queues) (length s.tasks)) c.script.view_is in
    let table : IsTable (room_of (opened c.args.script.now)) (length c.args.script.now.queues) c.in_ok-rooms.rooms.items =
    rw rooms (open_rooms c.args.script.now) in
    IfOk-weaker c.with_rooms.result _ _
    (λ manager. stands_at (opened c.args.script.now) c.in_ok-rooms.rooms.items c.as_slice.result.now manager c.requires table c.as_slice.ensures.value)
    c.with_rooms.ensures
