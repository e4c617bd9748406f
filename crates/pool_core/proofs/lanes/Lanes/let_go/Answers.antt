use Rattle.pool_core.proofs.Sources.LaneReads.{made_in_lane}
use Rattle.std.proofs.Common.{false, true}
use Rattle.pool_core.proofs.lanes.Lanes.let_go.Goals as goal

pub let_go-requires-clause-best_effort : goal.let_go-requires-clause-best_effort
let_go-requires-clause-best_effort c = made_in_lane c.args.self.now c.self.inside.lanes.items c.args.lane c.index_mut.result.now c.args.source true
    c.requires.there c.self.view_is c.index_mut.ensures.value (c.requires.made true)

pub let_go-requires-clause-others : goal.let_go-requires-clause-others
let_go-requires-clause-others c = made_in_lane c.args.self.now c.self.inside.lanes.items c.args.lane c.index_mut.result.now c.args.source false
    c.requires.there c.self.view_is c.index_mut.ensures.value (c.requires.made false)
