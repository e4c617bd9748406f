use Rattle.simulation.specs.Awaited.{ripe_moments}
use Rattle.task_model.specs.Time.{now_of}
use Rattle.simulation.proofs.Noted.{next_is}
use Rattle.simulation.proofs.Ripe.{first_is_soonest}
use Rattle.simulation.proofs.awaited.Awaited.next.Goals as goal

pub returns : goal.returns
returns c = λ script past kept.
    let first = first_is_soonest (now_of past) c.args.self.now.ripe.keys (ripe_moments past) c.first_of.result kept.ripe c.first_of.ensures.among c.first_of.ensures.least
    c.first_of.ensures.none in
    rw (c.unwrap_or.ensures, c.soonest.ensures, first, c.deref.ensures.value, kept.moment, kept.counts) (next_is script past)
