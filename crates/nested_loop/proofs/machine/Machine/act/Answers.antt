use Rattle.std.proofs.Common.{◌≡◌, sym, ap, ◌∙◌, subst, None, Some, arith, rules}
use Rattle.std.specs.Prelude.{slice_get}
use Rattle.nested_loop.specs.Stands.{Moves}
use Rattle.nested_loop.specs.declared.nest.NestAction.TheVariants as actions
use Rattle.nested_loop.proofs.Made.{act_can_post, act_none, act_post, act_run, act_run_room, depth_fits, frames_free}
use Rattle.nested_loop.proofs.machine.Machine.act.Goals as goal

pub returns-in_err-action : goal.returns-in_err-action
returns-in_err-action c = λ past stands outside.
    let none : c.from_residual.result ≡ None = first_of (cc, search rules, grind arith) in
    let through : slice_get c.args.nest.now.actions c.args.self.now.begun ≡ None =
    ap (λ nest. slice_get nest.actions c.args.self.now.begun) (sym c.nest.view_is) ∙ sym c.in_err-action.ensures.item in
    subst (λ event. Moves c.args.nest.now past event c.args.self.now) (sym none) (act_none c.args.nest.now past c.args.self.now stands outside through)

pub post-requires : goal.post-requires
post-requires c =
    let is : slice_get c.args.nest.now.actions c.args.self.now.begun ≡ Some (actions.Post c.in-Post.task c.in-Post.queue) =
    ap (λ nest. slice_get nest.actions c.args.self.now.begun) (sym c.nest.view_is) ∙ sym c.in_ok-action.ensures.item ∙ ap Some c.in-Post.is in (
      c.args.nest.now,
      c.requires.0,
      act_can_post c.args.nest.now c.requires.0 c.args.self.now c.requires.1 c.requires.2 c.in-Post.task c.in-Post.queue is,
    )

pub enter_loop-requires-clause-room : goal.enter_loop-requires-clause-room
enter_loop-requires-clause-room c =
    let is : slice_get c.args.nest.now.actions c.args.self.now.begun ≡ Some (actions.Run c.in-Run.bound) =
    ap (λ nest. slice_get nest.actions c.args.self.now.begun) (sym c.nest.view_is) ∙ sym c.in_ok-action.ensures.item ∙ ap Some c.in-Run.is in
    frames_free c.args.nest.now c.requires.0 c.args.self.now c.requires.1
    (act_run_room c.args.nest.now c.requires.0 c.args.self.now c.requires.1 c.requires.2 c.in-Run.bound is)

pub enter_loop-requires-clause-depth : goal.enter_loop-requires-clause-depth
enter_loop-requires-clause-depth c = depth_fits c.args.nest.now c.requires.0 c.args.self.now c.requires.1

pub returns-in-Post : goal.returns-in-Post
returns-in-Post c = λ past stands outside.
    let is : slice_get c.args.nest.now.actions c.args.self.now.begun ≡ Some (actions.Post c.in-Post.task c.in-Post.queue) =
    ap (λ nest. slice_get nest.actions c.args.self.now.begun) (sym c.nest.view_is) ∙ sym c.in_ok-action.ensures.item ∙ ap Some c.in-Post.is in
    act_post c.args.nest.now past c.args.self.now stands outside c.in-Post.task c.in-Post.queue c.post.new.self is
    (c.post.ensures c.args.nest.now past (act_can_post c.args.nest.now past c.args.self.now stands outside c.in-Post.task c.in-Post.queue is))

pub returns-in-Run : goal.returns-in-Run
returns-in-Run c = λ past stands outside.
    let is : slice_get c.args.nest.now.actions c.args.self.now.begun ≡ Some (actions.Run c.in-Run.bound) =
    ap (λ nest. slice_get nest.actions c.args.self.now.begun) (sym c.nest.view_is) ∙ sym c.in_ok-action.ensures.item ∙ ap Some c.in-Run.is in
    act_run c.args.nest.now past c.args.self.now stands outside c.in-Run.bound c.enter_loop.new.self is
    c.enter_loop.ensures.others c.enter_loop.ensures.frames c.enter_loop.ensures.spare
