use Rattle.std.proofs.Common.{◌<◌, length, ap, ◌∙◌, arith}
use Rattle.std.specs.Prelude.{slice_set}
use Rattle.std.proofs.lemmas.List.{length-take-le}
use Rattle.std.proofs.Math.Seq.{take-set-lt}
use Rattle.queue_fence.proofs.voters.Voters.vote.Goals as goal

pub returns : goal.returns
returns c =
    let within : c.args.voter < c.self.inside.count = grind (arith, length-take-le, ap length c.self.view_is) in
    take-set-lt c.self.inside.count c.self.inside.votes c.args.voter c.args.on within
    ∙ ap (λ votes. slice_set votes c.args.voter c.args.on) c.self.view_is
