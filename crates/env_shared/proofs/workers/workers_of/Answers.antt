use Rattle.std.proofs.Common.{◌≡◌, ap, ◌∙◌, ◌++◌, ◌∷◌, []}
use Rattle.std.proofs.lemmas.List.{map-append, take_more}
use Rattle.env_shared.proofs.workers.workers_of.Goals as goal

pub loop-job-preserved : goal.loop-job-preserved
loop-job-preserved c =
    let job = c.job-item.result in
    let steps : c.new.result ≡ job.steps = c.new.ensures ∙ c.in_ok-copy.ensures ∙ ap (λ j. j.steps) c.job.view_is in
    rw (take_more c.as_slice-job-items.result.now c.loop-job.job-index job c.loop-job-test.true, map-append, ← c.job-item.is, ← c.loop-job.invariant)
    (c.in_ok-push.ensures.items ∙ ap (λ s. c.loop-job.workers.items ++ s ∷ []) steps)
