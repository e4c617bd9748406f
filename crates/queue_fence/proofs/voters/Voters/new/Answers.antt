use Rattle.std.proofs.Common.{true}
use Rattle.std.proofs.lemmas.List.{take-replicate}
use Rattle.queue_fence.proofs.voters.Voters.new.Goals as goal

pub returns : goal.returns
returns c = take-replicate c.args.count 16 true c.requires
