use Rattle.std.proofs.Common.{arith, refl, ap, [], ◌+◌, ◌∙◌, ◌≡◌, length, sym}
use Rattle.task_base.specs.Plan.{Plan, opened}
use Rattle.live_core.proofs.Entered.{next_out}
use Rattle.live_core.proofs.Kept.{jobs_at_start, kept_noted, no_scope_at_start, phase_at_start, posted_at_start, scopes_at_start, seats_at_start}
use Rattle.live_core.proofs.books.Books.open.Goals as goal

pub first_unmarked-next-requires-clause-alike : goal.first_unmarked-next-requires-clause-alike
first_unmarked-next-requires-clause-alike c =
    let declared : c.as_slice.result.now ≡ c.args.script.tasks = c.as_slice.ensures ∙ ap (λ (s : Plan). s.tasks) c.script.view_is in
    let count : c.len.result ≡ length c.args.script.tasks = omega (arith, c.len.ensures.count, ap (λ (s : Plan). length s.tasks) c.script.view_is) in
    let kept = kept_noted (opened c.args.script) _ _ declared (c.as_slice-2.ensures.value ∙ c.in_ok-kept.ensures) in
    let posted = posted_at_start _ _ _ count (c.as_slice-3.ensures.value ∙ c.in_ok-posted.ensures) in
    posted.all ∙ sym kept.all

pub first_unmarked-next-requires-clause-few : goal.first_unmarked-next-requires-clause-few
first_unmarked-next-requires-clause-few c =
    let declared : c.as_slice.result.now ≡ c.args.script.tasks = c.as_slice.ensures ∙ ap (λ (s : Plan). s.tasks) c.script.view_is in
    let kept = kept_noted (opened c.args.script) _ _ declared (c.as_slice-2.ensures.value ∙ c.in_ok-kept.ensures) in
    omega (arith, kept.all, c.requires.limits.few_tasks)

pub returns-clause-stands : goal.returns-clause-stands
returns-clause-stands c =
    let script = c.args.script in
    let workers : c.script.inside.workers ≡ script.workers = ap (λ (s : Plan). s.workers) c.script.view_is in
    let tasks = ap (λ (s : Plan). length s.tasks) c.script.view_is in
    let declared : c.as_slice.result.now ≡ script.tasks = c.as_slice.ensures ∙ ap (λ (s : Plan). s.tasks) c.script.view_is in
    let count : c.len.result ≡ length script.tasks = omega (arith, c.len.ensures.count, tasks) in
    let scopes : c.len-2.result ≡ length script.tasks = omega (arith, c.len-2.ensures.count, tasks) in
    let jobs : c.len-3.result ≡ length script.jobs = omega (arith, c.len-3.ensures.count, ap (λ (s : Plan). length s.jobs) c.script.view_is) in
    record {
      plan_is = refl;
      seats = rw (c.in_ok-seats.ensures, workers) (seats_at_start (script.workers + 1));
      scopes = rw (c.in_ok-scopes.ensures, scopes) (scopes_at_start (length script.tasks));
      no_other_scopes = λ task beyond. no_scope_at_start task;
      jobs = rw (c.in_ok-jobs.ensures, jobs) (jobs_at_start (length script.jobs));
      phase = phase_at_start;
      entries = refl;
      few = omega arith;
      few_tasks = c.requires.limits.few_tasks;
      kept = kept_noted (opened script) _ _ declared c.in_ok-kept.ensures;
      posted = posted_at_start _ _ _ count c.in_ok-posted.ensures;
      out = next_out (opened script) [] _ _ 0 _ (λ t less. absurd (omega (arith, less)))
          (kept_noted (opened script) _ _ declared (c.as_slice-2.ensures.value ∙ c.in_ok-kept.ensures))
          (posted_at_start _ _ _ count (c.as_slice-3.ensures.value ∙ c.in_ok-posted.ensures)) c.first_unmarked-next.ensures;
    }
