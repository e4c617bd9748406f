use Rattle.std.proofs.Common.{List, refl, true}
use Rattle.std.proofs.lemmas.Bool.{eq-eqb}
use Rattle.std.specs.Option.{option_map}
use Rattle.std.specs.Prelude.{is_some, nat_lt, ◌&&◌}
use Rattle.job_source.specs.Job.{inside}
use Rattle.task_base.specs.Plan.{Plan}
use Rattle.task_base.specs.declared.entry.Entry.{Entry}
use Rattle.task_model.specs.Jobs.{JobPosted, cap_of, job_post_of}
use Rattle.pool_core.specs.JobCalls.{lets_in}
use Rattle.pool_core.specs.Jobs.{post_as}
use Rattle.std.proofs.Common.{Bool, None, Option, Some, ap, sym, ℕ, ◌≡◌, ◌∙◌}
use Rattle.std.specs.Prelude.{IfErr, IfOk, Result}
use Rattle.std.specs.Option.{ok_or}
use Rattle.pool_core.proofs.Jobs.JobStands.{held_is, inside_held}
use Rattle.pool_core.proofs.Jobs.JobViews.{joined_is, may_enter_is}
use Rattle.pool_core.specs.JobCalls.{joined_of}
use Rattle.pool_core.specs.Jobs.{job_as}
use Rattle.pool_core.specs.PoolJobs.{joined_in, may_enter_in}
use Rattle.pool_core.specs.declared.pool_job.PoolJob.{PoolJob}
use Rattle.task_base.specs.declared.entry.JobReply.{JobReply}
use Rattle.task_base.specs.declared.source.NotYet.{NotYet}
use Rattle.pool_core.specs.PoolJobs as jobs
use Rattle.pool_core.proofs.pool.Pool.joined.Goals as goal

-- where there is an answer it is the reply
replied : (answer told : Option JobReply) (err : NotYet) (result : Result JobReply NotYet) → result ≡ ok_or answer err → answer ≡ told
    → IfOk result (λ reply. told ≡ Some reply)
replied (Some reply) told err result is same = rw is (sym same)
replied None told err result is same = rw is tt

-- where there is none the error is given
waits : (answer told : Option JobReply) (err : NotYet) (result : Result JobReply NotYet) (running : ℕ) (ready : Bool) → result ≡ ok_or answer err
    → answer ≡ told → err.running ≡ running → err.ready ≡ ready
    → IfErr result (λ not_yet. (told ≡ None) × (not_yet.running ≡ running) × (not_yet.ready ≡ ready))
waits (Some reply) told err result running ready is same counts enters = rw is tt
waits None told err result running ready is same counts enters = rw is (sym same, counts, enters)

-- where nobody is inside, the driver may enter
enters : (answer : Option JobReply) (err : NotYet) (result : Result JobReply NotYet) → result ≡ ok_or answer err
    → (answer ≡ None → err.running ≡ 0 → err.ready ≡ true) → IfErr result (λ not_yet. not_yet.running ≡ 0 → not_yet.ready ≡ true)
enters (Some reply) err result is may = rw is tt
enters None err result is may = rw is (may refl)

-- the job that is kept lets somebody in where the declared one does
kept_lets_in : (script : Plan) (past : List Entry) (job : ℕ) → lets_in script past job ≡ true → jobs.lets_in (job_as script past job) ≡ true
kept_lets_in script past job = by_post (job_post_of past job)
  where
    by_post : (o : Option JobPosted) → (is_some o && nat_lt 0 (cap_of script job)) ≡ true
        → (is_some (option_map post_as o) && nat_lt 0 (cap_of script job)) ≡ true
    by_post None lets = lets
    by_post (Some p) lets = lets

pub returns-clause-ok : goal.returns-clause-ok
returns-clause-ok c script past can =
    let held = held_is c.args.job c.index-held.result.now can c.index-held.ensures in
    let phase = c.phase-phase.ensures ∙ ap (λ t. t.phase) can.stands.tracker in
    replied c.joined.result (joined_of script past c.args.job) _ c.ok_or.result c.ok_or.ensures.value
    (c.joined.ensures.told ∙ ap (λ (h : PoolJob). joined_in c.phase-phase.result h) held ∙ ap (λ p. joined_in p (job_as script past c.args.job)) phase
    ∙ joined_is script past c.args.job can.stands.past_fits.inside)

pub returns-clause-not_yet : goal.returns-clause-not_yet
returns-clause-not_yet c script past can =
    let held = held_is c.args.job c.index-held.result.now can c.index-held.ensures in
    let phase = c.phase-phase.ensures ∙ ap (λ t. t.phase) can.stands.tracker in
    waits c.joined.result (joined_of script past c.args.job) _ c.ok_or.result _ _ c.ok_or.ensures.value
    (c.joined.ensures.told ∙ ap (λ (h : PoolJob). joined_in c.phase-phase.result h) held ∙ ap (λ p. joined_in p (job_as script past c.args.job)) phase
    ∙ joined_is script past c.args.job can.stands.past_fits.inside)
    (inside_held c.args.job c.inside.result c.index-held.result.now can c.index-held.ensures c.inside.ensures.count)
    (c.may_enter.ensures ∙ ap (λ (h : PoolJob). may_enter_in c.phase-phase.result h) held
    ∙ ap (λ p. may_enter_in p (job_as script past c.args.job)) phase ∙ may_enter_is script past c.args.job can.stands.past_fits.inside)

pub returns-clause-somebody : goal.returns-clause-somebody
returns-clause-somebody c script past can lets =
    let held = held_is c.args.job c.index-held.result.now can c.index-held.ensures in
    enters c.joined.result _ c.ok_or.result c.ok_or.ensures.value (λ none running.
    c.may_enter.ensures ∙ c.joined.ensures.waits none (ap jobs.lets_in held ∙ kept_lets_in script past c.args.job lets)
    (eq-eqb (inside c.index-held.result.now.source) 0 (sym c.inside.ensures.count ∙ running)))
