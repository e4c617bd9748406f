use Rattle.env_core.proofs.Entries.{counts}
use Rattle.env_core.proofs.Wanted.{main_post_allowed}
use Rattle.std.proofs.Common.{refl}
use Rattle.std.specs.Prelude.{not}
use Rattle.task_model.specs.Refusal.{is_closed}
use Rattle.env_core.proofs.env.Env.main_post.Goals as goal

pub enter_main_post-requires : goal.enter_main_post-requires
enter_main_post-requires g c =
    let view = c.args.self.now in
    let ok = not (is_closed view.history c.args.queue) in
    counts (c.requires ok) refl (λ plan. main_post_allowed view c.args.seat c.args.task c.args.queue c.args.delay ok plan.closed (c.requires ok) refl)
