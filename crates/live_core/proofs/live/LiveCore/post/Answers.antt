use Rattle.std.proofs.Common.{refl, sym, ◌∙◌}
use Rattle.task_base.specs.declared.entry.Kind.TheVariants as kinds
use Rattle.live_core.proofs.Asks.{can_post, has_task, is_posting_it}
use Rattle.live_core.proofs.May.{post_may}
use Rattle.live_core.proofs.Moved.{pool_moved}
use Rattle.live_core.proofs.live.LiveCore.post.Goals as goal

pub unwrap-task-requires : goal.unwrap-task-requires
unwrap-task-requires c =
    let can = c.requires.2 in has_task can c.task_of.result (c.task_of.ensures _ _ can.stands.books)

pub post-ok-requires : goal.post-ok-requires
post-ok-requires c =
    let can = c.requires.2 in
    (_, _, can_post can c.entries.ensures (sym (c.task_of.ensures _ _ can.stands.books) ∙ c.unwrap-task.ensures))

pub returns : goal.returns
returns c = λ plan past can.
    let is = sym (c.task_of.ensures plan past can.stands.books) ∙ c.unwrap-task.ensures in
    let post = can_post can c.entries.ensures is in
    let ok = c.post-ok.result in
    let posting = is_posting_it ok can is in
    pool_moved plan past _ c.args.self.now (kinds.Post c.unwrap-task.result c.args.runner c.args.delay ok) _ can.stands refl refl
    (record { scope = tt; job = tt; task = posting.there }) (is, refl, refl)
    (post_may plan past c.args.seat c.unwrap-task.result c.args.runner c.args.delay ok can.stands.opened posting.may
    (c.post-ok.ensures.reply plan past post))
    (c.post-ok.ensures.stands plan past c.args.seat post)
