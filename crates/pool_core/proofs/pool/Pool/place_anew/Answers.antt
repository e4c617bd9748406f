use Rattle.pool_core.proofs.Calls.Reprio.{moved_at_last, moving_at_first, own_place}
use Rattle.pool_core.proofs.Sources.Moves.{only_moved}
use Rattle.std.proofs.Common.{refl}
use Rattle.pool_core.proofs.pool.Pool.place_anew.Goals as goal

pub refresh-requires : goal.refresh-requires
refresh-requires c = own_place c.requires.0 c.requires.1 c.requires.2 c.args.self.now c.args.runner c.requires.3

pub let_go-requires : goal.let_go-requires
let_go-requires c = (
  c.requires.0,
  c.requires.1,
  rw c.refresh.ensures (moving_at_first c.requires.0 c.requires.1 c.requires.2 c.args.self.now c.args.runner c.requires.3),
)

pub place_listed-requires : goal.place_listed-requires
place_listed-requires c = (
  c.requires.0,
  c.requires.1,
  c.let_go.ensures.moves c.requires.0 c.requires.1
      (rw c.refresh.ensures (moving_at_first c.requires.0 c.requires.1 c.requires.2 c.args.self.now c.args.runner c.requires.3)),
)

pub returns : goal.returns
returns c script past before ranked =
    let at_first = moving_at_first script past before c.args.self.now c.args.runner ranked in
    let moved = c.place_listed.ensures.moves script past (c.let_go.ensures.moves script past (rw c.refresh.ensures at_first)) in
    let refreshed = only_moved c.args.self.now c.refresh.new.self c.let_go.new.self (rw c.refresh.ensures refl) c.let_go.ensures.others in
    moved_at_last script past c.args.self.now c.place_listed.new.self c.args.runner
    (only_moved c.args.self.now c.let_go.new.self c.place_listed.new.self refreshed c.place_listed.ensures.others) moved.0 moved.1
