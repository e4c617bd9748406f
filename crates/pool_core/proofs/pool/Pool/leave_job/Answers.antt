use Rattle.pool_core.specs.JobState.{job_of, no_job}
use Rattle.std.proofs.Common.{refl, ◌∙◌, ◌≡◌}
use Rattle.std.proofs.lemmas.List.{get_or_default}
use Rattle.pool_core.proofs.pool.Pool.leave_job.Goals as goal

pub returns : goal.returns
returns c =
    let pool = c.args.self.now in
    let held : c.index.result.now ≡ job_of pool c.args.job =
    c.index.ensures ∙ get_or_default pool.jobs.items c.args.job c.index.result.now no_job c.requires.there in
    rw (c.settle.ensures, c.job_left.ensures, c.item_ended.ensures, held) refl
