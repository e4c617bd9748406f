use Rattle.nested_loop.proofs.Made.{can_take, takes_deferred, takes_front}
use Rattle.nested_loop.proofs.machine.Machine.next_outermost.Goals as goal

pub returns-in-Some : goal.returns-in-Some
returns-in-Some c = λ nest past stands room.
    takes_deferred nest past c.args.self.now stands c.in-Some.task c.take_first.new.self c.in-Some.ensures.first c.in-Some.ensures.items c.in-Some.ensures.spare

pub returns-in-None : goal.returns-in-None
returns-in-None c = λ nest past stands room.
    let can = can_take nest past c.args.self.now stands room in
    takes_front nest past c.args.self.now stands c.take.result c.take_first.new.self c.take.new.self c.in-None.ensures.first c.in-None.ensures.items
    c.in-None.ensures.spare (c.take.ensures.front nest past can) (c.take.ensures.taken nest past can)
