use Rattle.pool_core.proofs.Calls.Takes.{chosen_from, job_chosen_from, nothing_chosen}
use Rattle.pool_core.specs.Choice.{IsBestOf, IsOffer}
use Rattle.std.proofs.Common.{arith, subst}
use Rattle.pool_core.proofs.pool.Pool.take.Goals as goal

-- the pool has a lane for each seat
pub best-requires : goal.best-requires
best-requires c = let can = c.requires.2 in rw can.stands.queues.roomy.all (omega (arith, can.known))

pub start-requires : goal.start-requires
start-requires c = (
  c.requires.0,
  c.requires.1,
  chosen_from c.requires.2 c.best.ensures c.in-Some-Sequence-default.is c.in-Some-Sequence-default.field-0-0-is,
)

pub returns-in-Some-Sequence-default-clause-answer : goal.returns-in-Some-Sequence-default-clause-answer
returns-in-Some-Sequence-default-clause-answer c script past can = c.start.ensures.answer script past
    (chosen_from can c.best.ensures c.in-Some-Sequence-default.is c.in-Some-Sequence-default.field-0-0-is)

pub returns-in-Some-Sequence-default-clause-stands : goal.returns-in-Some-Sequence-default-clause-stands
returns-in-Some-Sequence-default-clause-stands c script past can = c.start.ensures.stands script past
    (chosen_from can c.best.ensures c.in-Some-Sequence-default.is c.in-Some-Sequence-default.field-0-0-is)

pub returns-in-None-clause-answer : goal.returns-in-None-clause-answer
returns-in-None-clause-answer c script past can =
    nothing_chosen script past c.args.self.now c.args.seat can (subst (IsBestOf (IsOffer c.args.self.now c.args.seat)) c.in-None.is c.best.ensures)

pub start_item-requires : goal.start_item-requires
start_item-requires c = (
  c.requires.0,
  c.requires.1,
  job_chosen_from c.requires.2 c.best.ensures c.in-Some-Job-default.is c.in-Some-Job-default.field-0-0-is,
)

pub returns-in-Some-Job-default-clause-answer : goal.returns-in-Some-Job-default-clause-answer
returns-in-Some-Job-default-clause-answer c script past can = c.start_item.ensures.answer script past
    (job_chosen_from can c.best.ensures c.in-Some-Job-default.is c.in-Some-Job-default.field-0-0-is)

pub returns-in-Some-Job-default-clause-stands : goal.returns-in-Some-Job-default-clause-stands
returns-in-Some-Job-default-clause-stands c script past can = c.start_item.ensures.stands script past
    (job_chosen_from can c.best.ensures c.in-Some-Job-default.is c.in-Some-Job-default.field-0-0-is)
