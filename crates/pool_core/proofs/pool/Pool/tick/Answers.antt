use Rattle.std.proofs.Common.{ap}
use Rattle.pool_core.proofs.pool.Pool.tick.Goals as goal

pub ripen_all-requires : goal.ripen_all-requires
ripen_all-requires c = (
  c.requires.0,
  c.requires.1,
  record {
    before = c.args.self.now;
    can = c.requires.2;
    clock = ap (λ groups. record c.args.self.now { groups = groups; moment = c.args.moment }) c.tick.ensures;
  },
)

pub returns : goal.returns
returns c = λ script past seat can. c.ripen_all.ensures script past seat (record {
  before = c.args.self.now;
  can = can;
  clock = ap (λ groups. record c.args.self.now { groups = groups; moment = c.args.moment }) c.tick.ensures;
})
