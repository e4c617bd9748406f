use Rattle.pool_core.proofs.Jobs.JobStands.{held_is, held_of, let_in, stands_at_job_post}
use Rattle.pool_core.proofs.Tracking.{few_blockers}
use Rattle.pool_core.specs.declared.pool_job.PoolJob.{PoolJob}
use Rattle.std.proofs.Common.{Bool, ap, false, not, true, ◌+◌, ◌∙◌, ◌≡◌}
use Rattle.std.specs.Bool.{OnFalse, OnTrue}
use Rattle.task_model.specs.Refusal.{behaviour_of_job}
use Rattle.task_tracker.specs.Tracked.{Tracked, block_share}
use Rattle.task_traits.specs.Behaviour.{forbids}
use Rattle.task_traits.specs.declared.traits.Behaviour.{Behaviour}
use Rattle.pool_core.proofs.pool.Pool.job_post.Goals as goal

-- the tracker where a job asked to be let in
let_in_is : (ok : Bool) (old new : Tracked) (its behaviour : Behaviour) → its ≡ behaviour
    → OnTrue ok (new ≡ record old { block_items = old.block_items + block_share its }) → OnFalse ok (new ≡ old) → new ≡ let_in old behaviour ok
let_in_is true old new its behaviour same counted refused = counted ∙ ap (λ b. record old { block_items = old.block_items + block_share b }) same
let_in_is false old new its behaviour same counted refused = refused

pub accept-ok-requires : goal.accept-ok-requires
accept-ok-requires c =
    let stands = c.requires.2.knows.stands in
    record { room = rw stands.tracker (few_blockers c.requires.0 c.requires.1 stands.script_fits stands.past_fits) }

pub returns-clause-reply : goal.returns-clause-reply
returns-clause-reply c script past can =
    c.accept-ok.ensures.answer
    ∙ ap (λ (h : PoolJob). not (forbids c.args.self.now.tracker.phase h.behaviour)) (held_is c.args.job c.index.result.now can.knows c.index.ensures)
    ∙ ap (λ (t : Tracked). not (forbids t.phase (behaviour_of_job script c.args.job))) can.knows.stands.tracker

pub returns-clause-stands : goal.returns-clause-stands
returns-clause-stands c script past seat can =
    let pool = c.args.self.now in
    let tracker : c.accept-ok.new.self ≡ let_in pool.tracker (behaviour_of_job script c.args.job) c.accept-ok.result =
    let_in_is c.accept-ok.result pool.tracker c.accept-ok.new.self c.index.result.now.behaviour (behaviour_of_job script c.args.job)
    (ap (λ (h : PoolJob). h.behaviour) (held_is c.args.job c.index.result.now can.knows c.index.ensures))
    c.accept-ok.ensures.counted c.accept-ok.ensures.refused in
    rw (c.refresh_job.ensures, c.settle.ensures, tracker, held_of c.args.job c.index_mut.result.now can.knows c.index_mut.ensures.value)
    (stands_at_job_post script past pool seat c.args.place c.args.job c.accept-ok.result can)
