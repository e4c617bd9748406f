use Rattle.std.proofs.Common.{◌≡◌, ◌+◌, ℕ, ap, sym, ◌∙◌}
use Rattle.std.specs.Prelude.{replicate}
use Rattle.env_step.specs.declared.hand.Hand.TheVariants.{Free}
use Rattle.log_replay.proofs.Whole.{free_at_first}
use Rattle.log_replay.proofs.replay.Replay.open.Goals as goal

pub invariant_of-result : goal.invariant_of-result
invariant_of-result c =
    let script_is : c.in_ok-env.env.script ≡ c.args.script.now = c.in_ok-env.ensures.script ∙ c.in_ok-copy.ensures in
    let hands_are : c.in_ok-hands.hands ≡ replicate (c.in_ok-env.env.script.workers + 1) Free = c.in_ok-hands.ensures
    ∙ ap (λ (n : ℕ). replicate (n + 1) Free) (ap (λ p. p.workers) c.script.view_is ∙ sym (ap (λ p. p.workers) script_is)) in
    rw hands_are (free_at_first c.in_ok-env.env (ap (λ p. p.is_open) script_is ∙ c.requires.closed) c.in_ok-env.ensures.empty)
