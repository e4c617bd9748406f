use Rattle.std.proofs.Common.{ℕ, Bool, length, arith, sym, ◌∙◌}
use Rattle.list_laws.proofs.Ranges.{range_any_at}
use Rattle.list_laws.specs.Lists.{holds_of}
use Rattle.situation_steps.proofs.Counting.{none_more}
use Rattle.situation_steps.specs.Sources.{let_job, outranks_in}
use Rattle.situation_steps.proofs.state.Situation.is_outranked_by_job.Goals as goal

pub loop-job-preserved : goal.loop-job-preserved
loop-job-preserved c =
    let test : ℕ → Bool = λ j. holds_of (outranks_in c.args.script.now c.args.priority) (let_job c.args.script.now c.args.self.now j) in
    none_more test c.loop-job.job c.loop-job.invariant (sym c.job_outranks.ensures ∙ c.if-job_outranks.false)

pub returns-then-job_outranks : goal.returns-then-job_outranks
returns-then-job_outranks c =
    let test : ℕ → Bool = λ j. holds_of (outranks_in c.args.script.now c.args.priority) (let_job c.args.script.now c.args.self.now j) in
    sym (range_any_at test 0 (length c.args.script.now.jobs) c.loop-job.job (sym c.job_outranks.ensures ∙ c.if-job_outranks.true) (omega arith)
    (omega arith))
