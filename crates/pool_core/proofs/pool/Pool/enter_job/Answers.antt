use Rattle.job_source.specs.declared.source.TheConstants.{MOST_INSIDE}
use Rattle.pool_core.proofs.Jobs.JobStands.{held_is, held_of, job_is, stands_at_job_take}
use Rattle.pool_core.proofs.Jobs.JobViews.{entered_is, entering_parts}
use Rattle.pool_core.proofs.Tracking.{few_blockers}
use Rattle.pool_core.specs.JobCalls.{CanEnter, entering}
use Rattle.pool_core.specs.JobState.{job_of}
use Rattle.pool_core.specs.Jobs.{job_as}
use Rattle.pool_core.specs.PoolJobs.{entered_in, with_entered_in}
use Rattle.pool_core.specs.declared.pool.Pool.{Pool}
use Rattle.pool_core.specs.declared.pool_job.PoolJob.{PoolJob}
use Rattle.std.proofs.Common.{List, Option, Some, ap, arith, subst, sym, ℕ, ◌<◌, ◌∙◌, ◌≡◌}
use Rattle.std.proofs.lemmas.List.{get_or-set_same}
use Rattle.std.specs.Option.{IfSome}
use Rattle.std.specs.Prelude.{slice_index_or}
use Rattle.task_base.specs.Plan.{Plan}
use Rattle.task_base.specs.declared.entry.Entry.{Entry}
use Rattle.task_model.specs.Capacity.{priority_of_job}
use Rattle.task_model.specs.Jobs.{claimed}
use Rattle.task_model.specs.Refusal.{behaviour_of_job}
use Rattle.task_tracker.specs.Tracked.{Tracked}
use Rattle.task_traits.specs.declared.phase.Phase.{Phase}
use Rattle.pool_core.proofs.pool.Pool.enter_job.Goals as goal

-- what a seat gets, by the rules
got_is : {script : Plan} {past : List Entry} {pool : Pool} {seat job : ℕ} (phase : Phase) (held : PoolJob) (got : Option (ℕ × ℕ))
    → CanEnter script past pool seat job → phase ≡ pool.tracker.phase → held ≡ slice_index_or pool.jobs.items job held → got ≡ entered_in phase held
    → got ≡ entering script past job
got_is {script = script} {past = past} {job = job} phase held got can now read is =
    is ∙ ap (λ (h : PoolJob). entered_in phase h) (held_is job held can.knows read)
    ∙ ap (λ p. entered_in p (job_as script past job)) (now ∙ ap (λ (t : Tracked). t.phase) can.knows.stands.tracker)
    ∙ entered_is script past job can.knows.stands.past_fits.inside

pub returns-in_err-id-clause-answer : goal.returns-in_err-id-clause-answer
returns-in_err-id-clause-answer c script past can = c.from_residual.ensures ∙ sym c.in_err-id.was
    ∙ got_is c.phase.result c.index_mut.result.now c.enter.result can c.phase.ensures c.index_mut.ensures.value c.enter.ensures.answer

pub started-requires-clause-room : goal.started-requires-clause-room
started-requires-clause-room c =
    let stands = c.requires.2.knows.stands in
    rw stands.tracker (few_blockers c.requires.0 c.requires.1 stands.script_fits stands.past_fits)

pub returns-clause-answer : goal.returns-clause-answer
returns-clause-answer c script past can = sym c.in_ok-id.was
    ∙ got_is c.phase.result c.index_mut.result.now c.enter.result can c.phase.ensures c.index_mut.ensures.value c.enter.ensures.answer

pub returns-clause-stands : goal.returns-clause-stands
returns-clause-stands c script past can =
    let pool = c.args.self.now in
    let job = c.args.job in
    let id = c.in_ok-id.id in
    let stands = can.knows.stands in
    let (may, free, item) = entering_parts script past job (id, c.in_ok-id.item) (sym
    (got_is c.phase.result c.index_mut.result.now c.enter.result can c.phase.ensures c.index_mut.ensures.value c.enter.ensures.answer) ∙ c.in_ok-id.was) in
    let new : c.enter.new.self ≡ with_entered_in (job_of pool job) (Some (id, claimed past job)) = c.enter.ensures.state
    ∙ ap (λ o. with_entered_in c.index_mut.result.now o) c.in_ok-id.was
    ∙ ap (λ (h : PoolJob). with_entered_in h (Some (id, c.in_ok-id.item))) (held_of job c.index_mut.result.now can.knows c.index_mut.ensures.value)
    ∙ ap (λ n. with_entered_in (job_of pool job) (Some (id, n))) item in
    let held : c.index-held.result.now ≡ with_entered_in (job_of pool job) (Some (id, claimed past job)) = c.index-held.ensures
    ∙ get_or-set_same pool.jobs.items job c.enter.new.self c.index-held.result.now (omega (arith, can.knows.declared, stands.jobs.all)) ∙ new in
    let behaviour : c.index-held.result.now.behaviour ≡ behaviour_of_job script job =
    ap (λ (h : PoolJob). h.behaviour) held ∙ ap (λ (h : PoolJob). h.behaviour) (job_is job stands can.knows.declared) in
    let priority : c.index-held.result.now.priority ≡ priority_of_job script job =
    ap (λ (h : PoolJob). h.priority) held ∙ ap (λ (h : PoolJob). h.priority) (job_is job stands can.knows.declared) in
    rw (c.refresh_job.ensures, c.item_started.ensures, c.started.ensures, new, behaviour, priority, item)
    (stands_at_job_take script past pool c.args.seat job id can may free
    (subst (λ o. IfSome o (λ got. got.0 < MOST_INSIDE)) c.in_ok-id.was c.enter.ensures.id))
