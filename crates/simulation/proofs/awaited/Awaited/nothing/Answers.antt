use Rattle.std.proofs.Common.{rules, ◌≡◌, ◌+◌, replicate, refl, ap, sym, ◌∙◌}
use Rattle.simulation.proofs.Noted.{begins_at_0, nothing_counts, nothing_ripens}
use Rattle.simulation.proofs.awaited.Awaited.nothing.Goals as goal

pub returns : goal.returns
returns c =
    let zeros : c.in_ok-vec.field-0.items ≡ replicate (c.script.inside.workers + 1) 0 = search rules in
    record {
      moment = sym begins_at_0;
      ripe = λ m. rw (c.new.ensures.empty, nothing_ripens) refl;
      counts = zeros ∙ ap (λ p. replicate (p.workers + 1) 0) c.script.view_is ∙ sym (nothing_counts c.args.script.now);
    }
