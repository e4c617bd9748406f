use Rattle.std.proofs.Common.{◌∷◌, [], ◌+◌, ◌∙◌, sym, ap, length-append}
use Rattle.env_shared.proofs.Beds.{placed_push}
use Rattle.env_shared.proofs.shared.beds.Goals as goal

pub loop-seat-preserved : goal.loop-seat-preserved
loop-seat-preserved c =
    let was = c.loop-seat.invariant in let beds = c.loop-seat.beds.items in let bed = c.new.result in record {
      all = rw c.in_ok-push.ensures.items (length-append beds (bed ∷ []) ∙ ap (λ n. n + 1) was.all);
      placed = rw c.in_ok-push.ensures.items (placed_push beds bed was.placed (c.new.ensures ∙ sym was.all));
    }
