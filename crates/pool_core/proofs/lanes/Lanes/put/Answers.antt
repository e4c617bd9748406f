use Rattle.pool_core.proofs.Sources.LaneReads.{made_in_lane}
use Rattle.std.proofs.Common.{false, true}
use Rattle.pool_core.proofs.lanes.Lanes.put.Goals as goal

pub put-requires-clause-best_effort : goal.put-requires-clause-best_effort
put-requires-clause-best_effort c = made_in_lane c.args.self.now c.self.inside.lanes.items c.args.lane c.index_mut.result.now c.args.source true
    c.requires.there c.self.view_is c.index_mut.ensures.value (c.requires.made true)

pub put-requires-clause-others : goal.put-requires-clause-others
put-requires-clause-others c = made_in_lane c.args.self.now c.self.inside.lanes.items c.args.lane c.index_mut.result.now c.args.source false
    c.requires.there c.self.view_is c.index_mut.ensures.value (c.requires.made false)
