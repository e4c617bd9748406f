use Rattle.env_core.proofs.Acts.{does_next, may_enter, not_did, not_finished, runs_now}
use Rattle.env_core.specs.Calls.{entry_of}
use Rattle.std.proofs.Common.{ap, refl, ⊎_elim}
use Rattle.task_base.specs.declared.entry.Kind.TheVariants as kinds
use Rattle.env_core.proofs.env.Env.act.Goals as goal

pub enter_post-requires : goal.enter_post-requires
enter_post-requires g c = may_enter (does_next c.requires) (rw c.in-Post.is refl) refl refl

pub enter_main_post-requires : goal.enter_main_post-requires
enter_main_post-requires g c = may_enter (does_next c.requires) (rw c.in-Main.is refl) refl refl

-- what is not an act step answers no act
pub unreachable-requires : goal.unreachable-requires
unreachable-requires g c =
    let does = does_next c.requires in
    ⊎_elim (λ (count, is). not_did does count is) (λ is. not_finished does is) c.in-Did.is

pub returns-in-Post-clause-enters : goal.returns-in-Post-clause-enters
returns-in-Post-clause-enters g c =
    let (now, runs) = runs_now c.args.self.now c.args.seat c.args.act c.requires in
    record {
      now = now;
      runs = runs;
      kind = kinds.Post c.in-Post.task c.in-Post.runner c.in-Post.delay c.enter_post.result;
      kind_is = ap (λ act. entry_of now.task act c.enter_post.result) c.in-Post.is;
      enters = c.enter_post.ensures.enters;
    }

pub returns-in-Main-clause-enters : goal.returns-in-Main-clause-enters
returns-in-Main-clause-enters g c =
    let (now, runs) = runs_now c.args.self.now c.args.seat c.args.act c.requires in
    record {
      now = now;
      runs = runs;
      kind = kinds.Main c.in-Main.task c.in-Main.queue c.in-Main.delay c.enter_main_post.result;
      kind_is = ap (λ act. entry_of now.task act c.enter_main_post.result) c.in-Main.is;
      enters = c.enter_main_post.ensures.enters;
    }
