use Rattle.std.proofs.Common.{◌≡◌}
use Rattle.std.specs.Prelude.{fold}
use Rattle.key_tally.specs.Counts.{with_more}
use Rattle.path_count.proofs.layers.add_each.Given as goal

abbrev pub invariant-loop-place : goal.invariant-loop-place
invariant-loop-place g l = l.known ≡ fold (λ counts place. with_more g.K.PartialEq.eq place l.paths counts) l.initial.known l.yielded
