use Rattle.std.proofs.Common.{ap, le-ltb, lt-ltb, not, sym}
use Rattle.sequence_manager.proofs.DelayedPosts.{can_add, others_differ, stands_at_delayed_post}
use Rattle.sequence_manager.proofs.Posts.{can_push, is_closed_as, stands_at_post, stands_at_refusal}
use Rattle.sequence_manager.proofs.manager.Manager.post.Goals as goal

pub returns-then-at-clause-reply : goal.returns-then-at-clause-reply
returns-then-at-clause-reply c = λ script past can. sym (ap not (is_closed_as can c.at.ensures c.if-at.true))

pub returns-then-at-clause-stands : goal.returns-then-at-clause-stands
returns-then-at-clause-stands c = λ script past seat can. stands_at_refusal seat c.args.task c.args.queue c.args.delay can.stands

pub add-requires-clause-room : goal.add-requires-clause-room
add-requires-clause-room c = can_add c.requires.2 c.at_mut.ensures.queue

pub add-requires-clause-differs : goal.add-requires-clause-differs
add-requires-clause-differs c = others_differ c.requires.2 c.at_mut.ensures.queue

pub push-requires : goal.push-requires
push-requires c = (_, can_push c.requires.2 (is_closed_as c.requires.2 c.at.ensures c.if-at.false) (le-ltb 0 c.args.delay c.if-delay-gt0.false))

pub returns-then-delay-gt0-clause-reply : goal.returns-then-delay-gt0-clause-reply
returns-then-delay-gt0-clause-reply c = λ script past can. sym (ap not (is_closed_as can c.at.ensures c.if-at.false))

pub returns-then-delay-gt0-clause-stands : goal.returns-then-delay-gt0-clause-stands
returns-then-delay-gt0-clause-stands c = λ script past seat can. stands_at_delayed_post seat can (is_closed_as can c.at.ensures c.if-at.false)
    (lt-ltb 0 c.args.delay c.if-delay-gt0.true) c.at_mut.ensures.queue (ap (λ d. record c.at_mut.result.now { delayed = d }) c.add.ensures)

pub returns-else-delay-gt0-clause-reply : goal.returns-else-delay-gt0-clause-reply
returns-else-delay-gt0-clause-reply c = λ script past can. sym (ap not (is_closed_as can c.at.ensures c.if-at.false))

pub returns-else-delay-gt0-clause-stands : goal.returns-else-delay-gt0-clause-stands
returns-else-delay-gt0-clause-stands c = λ script past seat can. stands_at_post seat can (is_closed_as can c.at.ensures c.if-at.false)
    (le-ltb 0 c.args.delay c.if-delay-gt0.false) c.push.ensures
