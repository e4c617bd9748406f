use Rattle.env_core.proofs.Bodies.{bodies_at_main}
use Rattle.env_core.proofs.Entries.{can_main_post, holds_next, pool_still}
use Rattle.std.proofs.Common.{refl}
use Rattle.env_core.proofs.env.Env.enter_main_post.Goals as goal

pub post-ok-requires : goal.post-ok-requires
post-ok-requires g c =
    let can = can_main_post c.self.invariant c.args.seat c.len.result c.args.task c.args.queue c.args.delay c.args.shift c.len.ensures
    (rw c.self.view_is c.requires) in
    (_, _, can.0)

pub keep_if-requires : goal.keep_if-requires
keep_if-requires g c =
    let can = can_main_post c.self.invariant c.args.seat c.len.result c.args.task c.args.queue c.args.delay c.args.shift c.len.ensures
    (rw c.self.view_is c.requires) in
    rw c.self.invariant.drawer.all can.1

pub enter-requires : goal.enter-requires
enter-requires g c =
    let can = can_main_post c.self.invariant c.args.seat c.len.result c.args.task c.args.queue c.args.delay c.args.shift c.len.ensures
    (rw c.self.view_is c.requires) in
    rw (c.post-ok.ensures.reply _ _ can.0) (rw c.self.view_is c.requires)

pub invariant_of-self : goal.invariant_of-self
invariant_of-self g c =
    let can = can_main_post c.self.invariant c.args.seat c.len.result c.args.task c.args.queue c.args.delay c.args.shift c.len.ensures
    (rw c.self.view_is c.requires) in
    holds_next c.self.invariant c.enter.ensures (pool_still c.self.invariant _ refl) (c.post-ok.ensures.stands _ _ c.args.seat can.0)
    (rw c.keep_if.ensures (bodies_at_main _ _ _ _ _ _ _ _ _ _ c.self.invariant.drawer))

pub returns-clause-reply : goal.returns-clause-reply
returns-clause-reply g c =
    let can = can_main_post c.self.invariant c.args.seat c.len.result c.args.task c.args.queue c.args.delay c.args.shift c.len.ensures
    (rw c.self.view_is c.requires) in
    rw (← c.self.view_is) (c.post-ok.ensures.reply _ _ can.0)

pub returns-clause-enters : goal.returns-clause-enters
returns-clause-enters g c = rw (← c.self.view_is) c.enter.ensures
