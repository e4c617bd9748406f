use Rattle.std.proofs.Common.{◌≡◌, ◌+◌, ◌∙◌, ◌∷◌, [], ap, length, length-append, arith}
use Rattle.env_shared.proofs.Splits.{fresh, workers_push}
use Rattle.env_shared.proofs.shared.Shared.split_all.Goals as goal

pub loop-preserved : goal.loop-preserved
loop-preserved g c =
    let was = c.loop.invariant in let first = c.split-kept.ensures.first in let second = c.split-kept.ensures.second in
    let seats = c.loop.seats.items in let next = c.split-kept.result.1 in let key = c.args.self.now in
    let longer : length c.push_spare.new.self.items ≡ length seats + 1 = ap length c.push_spare.ensures.items ∙ length-append seats (next ∷ []) in
    let number : next.number ≡ 1 + length seats = ap (λ s. s.number) second ∙ was.first.made_is ∙ omega (arith, was.all) in
    record {
      first = record {
        of_is = ap (λ s. s.of) first ∙ was.first.of_is;
        number_is = ap (λ s. s.number) first ∙ was.first.number_is;
        mine_is = ap (λ s. s.mine) first ∙ was.first.mine_is;
        made_is = ap (λ s. s.made) first ∙ ap (λ n. n + 1) was.first.made_is;
      };
      all = longer ∙ ap (λ n. n + 1) was.all;
      room = omega (arith, was.room, c.push_spare.ensures.spare);
      workers = rw c.push_spare.ensures.items
          (workers_push key 1 seats next was.workers (fresh key (1 + length seats) next
          (ap (λ s. s.of) second ∙ was.first.of_is) number (ap (λ s. s.mine) second)));
    }
