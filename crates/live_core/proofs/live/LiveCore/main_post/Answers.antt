use Rattle.std.proofs.Common.{refl, sym, ◌∙◌}
use Rattle.task_base.specs.declared.entry.Kind.TheVariants as kinds
use Rattle.live_core.proofs.Asks.{can_main_post, has_main_task, is_posting_main}
use Rattle.live_core.proofs.May.{main_post_may}
use Rattle.live_core.proofs.Moved.{main_moved}
use Rattle.live_core.proofs.live.LiveCore.main_post.Goals as goal

pub unwrap-task-requires : goal.unwrap-task-requires
unwrap-task-requires c =
    let can = c.requires.2 in has_main_task can c.task_of.result (c.task_of.ensures _ _ can.stands.books)

pub post-ok-requires : goal.post-ok-requires
post-ok-requires c =
    let can = c.requires.2 in
    (_, _, can_main_post can c.entries.ensures (sym (c.task_of.ensures _ _ can.stands.books) ∙ c.unwrap-task.ensures))

pub returns : goal.returns
returns c = λ plan past can.
    let is = sym (c.task_of.ensures plan past can.stands.books) ∙ c.unwrap-task.ensures in
    let post = can_main_post can c.entries.ensures is in
    let ok = c.post-ok.result in
    let posting = is_posting_main ok can is in
    main_moved plan past _ c.args.self.now (kinds.Main c.unwrap-task.result c.args.queue c.args.delay ok) _ can.stands refl refl
    (record { scope = tt; job = tt; task = posting.there }) (is, refl, refl)
    (main_post_may plan past c.args.seat c.unwrap-task.result c.args.queue c.args.delay ok can.stands.opened posting.may
    (c.post-ok.ensures.reply plan past post))
    (c.post-ok.ensures.stands plan past c.args.seat post)
