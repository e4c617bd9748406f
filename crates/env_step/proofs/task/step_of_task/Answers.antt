use Rattle.std.proofs.Common.{sym, ◌∙◌}
use Rattle.env_step.proofs.Tasks.{can_end, can_end_main, holds_nothing}
use Rattle.env_step.proofs.task.step_of_task.Goals as goal

pub end-kind-requires-clause-worker : goal.end-kind-requires-clause-worker
end-kind-requires-clause-worker c = rw c.into_parts-work.ensures.work (λ worker. can_end c.requires.at c.requires.legal c.requires.known
    (sym c.into_parts-work.ensures.next ∙ c.in-Finished.is) worker)

pub end-kind-requires-clause-driver : goal.end-kind-requires-clause-driver
end-kind-requires-clause-driver c = rw c.into_parts-work.ensures.work (λ driver. can_end_main c.requires.at c.requires.legal
    (sym c.into_parts-work.ensures.next ∙ c.in-Finished.is) driver)

pub returns-in-Finished : goal.returns-in-Finished
returns-in-Finished c reading = record {
  in_hand = c.end-kind.ensures.free (holds_nothing c.requires.at c.requires.legal);
  steps = (c.end-kind.ensures.enters, c.end-kind.ensures.reading reading);
}

pub act_of-requires-clause-at : goal.act_of-requires-clause-at
act_of-requires-clause-at c = rw (c.into_parts-work.ensures.work, c.into_parts-work.ensures.next) c.requires.at

pub act_of-requires-clause-more : goal.act_of-requires-clause-more
act_of-requires-clause-more c = c.in_default.not-Finished
