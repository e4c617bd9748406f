use Rattle.pool_core.proofs.Jobs.AtJob.{has_holder, holder_is, item_counted, item_is_held, item_work, job_counted}
use Rattle.pool_core.proofs.Jobs.AtJob.{job_place, job_there, knows_job, seat_fits, seat_there}
use Rattle.pool_core.proofs.Jobs.JobStands.{held_is, held_of}
use Rattle.pool_core.proofs.Jobs.JobSteps.{stands_at_goes_on, stands_at_job_left, stepped_job}
use Rattle.pool_core.proofs.Jobs.JobViews.{next_is}
use Rattle.pool_core.specs.JobState.{job_of}
use Rattle.pool_core.specs.JobCalls.{CanStep, has_to_leave}
use Rattle.pool_core.specs.declared.pool_job.Holder.{Holder}
use Rattle.pool_core.specs.declared.pool_job.PoolJob.{PoolJob}
use Rattle.job_source.specs.Job.{next_item, with_done}
use Rattle.pool_core.specs.Jobs.{view_of}
use Rattle.pool_core.specs.declared.pool.Pool.{Pool}
use Rattle.std.proofs.lemmas.Bool.{false≢true}
use Rattle.std.specs.Prelude.{is_some, slice_get, slice_index_or}
use Rattle.pool_core.proofs.Jobs.HeldItems.{none_by}
use Rattle.task_base.specs.Plan.{Plan}
use Rattle.task_base.specs.declared.entry.Entry.{Entry}
use Rattle.task_model.specs.Seats.{Holding}
use Rattle.std.proofs.Common.{List, None, Option, Some, ap, length, refl, rules, true, ℕ, ◌<◌, ◌∙◌, ◌≡◌}
use Rattle.std.proofs.lemmas.List.{length-set}
use Rattle.pool_core.proofs.pool.Pool.job_step.Goals as goal
use Rattle.pool_core.proofs.pool.Pool.job_step.Goals.{else-is_none, then-is_none}

-- the job behind the end of the item
new_is : {script : Plan} {past : List Entry} {pool : Pool} {seat : ℕ} {h : Holding} {holder : Holder} {held new : PoolJob} (value : ℕ) (goes_on : Option ℕ)
    → CanStep script past pool seat h → slice_get pool.holders.items seat ≡ Some (Some holder) → held ≡ slice_index_or pool.jobs.items holder.job held
    → new ≡ record held { source = with_done held.source holder.id value goes_on } → new ≡ stepped_job (job_of pool h.job) h.id value goes_on
new_is {pool = pool} {h = h} {held = held} value goes_on can there read is =
    let holder = holder_is can there in
    is ∙ ap (λ (x : Holder). stepped_job held x.id value goes_on) holder
    ∙ ap (λ (job : PoolJob). stepped_job job h.id value goes_on) (held_of h.job held (knows_job can) (rw holder at read))

some_by : (o : Option ℕ) → is_some o ≡ true → (item : ℕ) × (o ≡ Some item)
some_by None is = absurd (false≢true is)
some_by (Some item) is = (item, refl)

pub holder-job-requires : goal.holder-job-requires
holder-job-requires c = has_holder c.requires.3

pub has_to_leave-leave-requires : goal.has_to_leave-leave-requires
has_to_leave-leave-requires c = (c.requires.0, c.requires.1, rw (holder_is c.requires.3 c.holder-job.ensures) (knows_job c.requires.3))

pub index_mut-requires : goal.index_mut-requires
index_mut-requires c =
    let there : c.holder-job.result.job < length c.args.self.now.jobs.items = rw (holder_is c.requires.3 c.holder-job.ensures) (job_there c.requires.3) in
    search rules

pub done-next-requires : goal.done-next-requires
done-next-requires c =
    let holder = holder_is c.requires.3 c.holder-job.ensures in
    rw holder (item_is_held c.index_mut.result.now c.requires.3 (rw holder at c.index_mut.ensures.value))

pub leave_job-requires-clause-there : goal.leave_job-requires-clause-there
leave_job-requires-clause-there c = rw (holder_is c.requires.3 c.holder-job.ensures, length-set) (job_there c.requires.3)

pub leave_job-requires-clause-seated : goal.leave_job-requires-clause-seated
leave_job-requires-clause-seated c = seat_there c.requires.3

pub leave_job-requires-clause-worker : goal.leave_job-requires-clause-worker
leave_job-requires-clause-worker c = seat_fits c.requires.3

pub leave_job-requires-clause-works : goal.leave_job-requires-clause-works
leave_job-requires-clause-works c = item_work c.requires.3

pub leave_job-requires-clause-counted : goal.leave_job-requires-clause-counted
leave_job-requires-clause-counted c =
    let can = c.requires.3 in
    rw (
      new_is c.args.value c.done-next.result can c.holder-job.ensures c.index_mut.ensures.value c.done-next.ensures.state,
      holder_is can c.holder-job.ensures,
    ) (item_counted _ can refl)

pub leave_job-requires-clause-open : goal.leave_job-requires-clause-open
leave_job-requires-clause-open c =
    let can = c.requires.3 in
    rw (
      new_is c.args.value c.done-next.result can c.holder-job.ensures c.index_mut.ensures.value c.done-next.ensures.state,
      none_by c.done-next.result c.if-is_none.ensures,
      holder_is can c.holder-job.ensures,
    ) (job_counted c.args.value can)

pub refresh_job-requires : goal.refresh_job-requires
refresh_job-requires c =
    let can = c.requires.3 in
    let holder = holder_is can c.holder-job.ensures in
    elim c.if-is_none.branch [
      | then-is_none w ↦ rw (w.self-is, w.leave_job.ensures, holder) (job_place _ c.done-next.new.self can refl refl)
      | else-is_none w ↦ rw (w.self-is, holder) (job_place _ c.done-next.new.self can refl refl)
    ]

pub returns-clause-answer : goal.returns-clause-answer
returns-clause-answer c script past h can =
    let job = ap (λ (x : Holder). x.job) (holder_is can c.holder-job.ensures) in
    c.done-next.ensures.answer
    ∙ ap (λ (x : PoolJob). next_item x.source c.has_to_leave-leave.result)
    (held_is h.job c.index_mut.result.now (knows_job can) (rw (holder_is can c.holder-job.ensures) at c.index_mut.ensures.value))
    ∙ ap (next_item (view_of script past h.job)) (c.has_to_leave-leave.ensures script past (rw (holder_is can c.holder-job.ensures) (knows_job can))
    ∙ ap (has_to_leave script past c.args.seat) job)
    ∙ next_is script past c.args.seat h.job

pub returns-clause-stands : goal.returns-clause-stands
returns-clause-stands c script past h can =
    let pool = c.args.self.now in
    let holder = holder_is can c.holder-job.ensures in
    let new = new_is c.args.value c.done-next.result can c.holder-job.ensures c.index_mut.ensures.value c.done-next.ensures.state in
    elim c.if-is_none.branch [
      | then-is_none w ↦ rw (c.refresh_job.ensures, w.self-is, w.leave_job.ensures, new, none_by c.done-next.result w.if-is_none.ensures, holder)
          (stands_at_job_left script past pool c.args.seat c.args.value h can)
      | else-is_none w ↦
          let (item, some) = some_by c.done-next.result w.if-is_none.ensures in
          rw (c.refresh_job.ensures, w.self-is, new, some, holder) (stands_at_goes_on script past pool c.args.seat c.args.value item h can)
    ]
