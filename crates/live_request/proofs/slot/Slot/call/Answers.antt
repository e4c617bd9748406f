use Rattle.std.proofs.Common.{refl}
use Rattle.live_request.proofs.Answering.{slot_answered}
use Rattle.live_request.proofs.slot.Slot.call.Goals as goal

pub returns-in-Some : goal.returns-in-Some
returns-in-Some c = slot_answered c.args.request.now c.args.self.now _ c.in-Some.live c.call.new.self c.call.new.answer c.in-Some.is refl c.call.ensures
