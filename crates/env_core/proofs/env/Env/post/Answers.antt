use Rattle.env_core.proofs.Entries.{counts}
use Rattle.env_core.proofs.Wanted.{post_allowed}
use Rattle.std.proofs.Common.{refl}
use Rattle.std.specs.Prelude.{not}
use Rattle.task_model.specs.Refusal.{is_refused}
use Rattle.env_core.proofs.env.Env.post.Goals as goal

pub enter_post-requires : goal.enter_post-requires
enter_post-requires g c =
    let view = c.args.self.now in
    let ok = not (is_refused view.script view.history c.args.runner c.args.delay) in
    counts (c.requires ok) refl (λ plan. post_allowed view c.args.seat c.args.task c.args.runner c.args.delay ok plan.closed (c.requires ok) refl)
