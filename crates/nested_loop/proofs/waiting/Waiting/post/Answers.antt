use Rattle.std.proofs.Common.{◌+◌, arith, refl}
use Rattle.nested_loop.specs.Waiting.{nest_script}
use Rattle.nested_loop.proofs.Kept.{can_post, keeps_post, place_fits}
use Rattle.nested_loop.proofs.waiting.Waiting.post.Goals as goal

pub post-requires : goal.post-requires
post-requires c =
    (nest_script c.requires.0, c.requires.2.keeps.entries, can_post c.requires.0 c.requires.1 c.args.self.now c.args.task c.args.queue c.requires.2)

pub overflow_add-self : goal.overflow_add-self
overflow_add-self c =
    let can = c.requires.2 in
    let fits = place_fits c.requires.0 c.requires.1 c.args.self.now can.sound can.is_past can.keeps in
    omega (arith, fits)

pub returns : goal.returns
returns c = λ nest past can.
    let main = can_post nest past c.args.self.now c.args.task c.args.queue can in
    keeps_post nest past c.args.self.now (record { queues = c.post.new.self; place = c.args.self.now.place + 1 }) c.args.task c.args.queue can c.post.result
    (c.post.ensures.reply (nest_script nest) can.keeps.entries main) (c.post.ensures.stands (nest_script nest) can.keeps.entries 0 main) refl
