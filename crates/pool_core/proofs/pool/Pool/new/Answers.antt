use Rattle.pool_core.proofs.Calls.EmptyPool.{stands_at_start}
use Rattle.std.proofs.Common.{None, ap, arith, length, refl, ◌+◌, ◌∙◌, ◌≡◌}
use Rattle.std.specs.Prelude.{replicate}
use Rattle.task_base.specs.Plan.{Plan}
use Rattle.pool_core.proofs.pool.Pool.new.Goals as goal

pub returns : goal.returns
returns c =
    let workers : c.script.inside.workers ≡ c.args.script.now.workers = omega (arith, ap (λ (s : Plan). s.workers) c.script.view_is) in
    let tasks : c.len-tasks.result ≡ length c.args.script.now.tasks =
    omega (arith, ap (λ (s : Plan). length s.tasks) c.script.view_is, c.len-tasks.ensures.count) in
    let runners : c.len.result ≡ length c.args.script.now.runners =
    omega (arith, ap (λ (s : Plan). length s.runners) c.script.view_is, c.len.ensures.count) in
    stands_at_start c.args.script.now _ c.requires c.in_ok-runners.ensures.runners c.in_ok-priorities.ensures
    (c.in_ok-runners.ensures.sequences ∙ rw tasks refl)
    (c.in_ok-runners.ensures.room ∙ tasks) c.in_ok-runners.ensures.lanes
    (c.in_ok-lists.ensures ∙ rw (runners, tasks) refl) c.in_ok-representatives.ensures c.new-2.ensures
    (c.in_ok-runners.ensures.delayed ∙ rw tasks refl) c.new-3.ensures
    (c.in_ok-postings.ensures.postings ∙ ap (λ n. replicate n None) tasks)
    (c.in_ok-postings.ensures.seats ∙ ap (λ n. replicate (n + 1) None) workers) c.in_ok-jobs.ensures
    (c.in_ok-postings.ensures.holders ∙ ap (λ n. replicate (n + 1) None) workers) refl
