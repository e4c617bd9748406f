use Rattle.std.proofs.Common.{arith, ap, length, subst, sym, ◌+◌, ◌∙◌}
use Rattle.std.proofs.lemmas.Grind.{length_at_push}
use Rattle.task_base.specs.Entries.{entry_by, next}
use Rattle.task_model.proofs.Growth.{phase_of_push}
use Rattle.task_model.specs.Phase.{phase_after}
use Rattle.hist_model.specs.Open.{was_posted}
use Rattle.sequence_manager.specs.Queues.{IsTable}
use Rattle.live_core.proofs.Entered.{jobs_entered, no_other_scope, out_entered, posted_entered, scopes_entered, seat_after, seats_entered, table_get}
use Rattle.live_core.proofs.books.Books.enter.Goals as goal

pub returns-clause-stands : goal.returns-clause-stands
returns-clause-stands c = λ plan past can.
    let stand = can.stand in
    let long = (length_at_push past (entry_by c.args.seat c.args.kind)).1 in
    let posted = subst (IsTable (was_posted (next past c.args.seat c.args.kind)) (length plan.tasks)) (sym c.mark_task.ensures)
    (posted_entered past c.args.seat c.args.kind _ _ stand.posted can.task) in
    record {
      plan_is = stand.plan_is;
      seats = seats_entered past c.args.seat c.args.kind (plan.workers + 1) c.args.self.now.seats.items c.after.result stand.seats (omega (arith, can.known))
          (c.after.ensures ∙ ap (λ now. seat_after now c.args.kind)
          (c.index.ensures ∙ table_get _ _ c.args.self.now.seats.items c.args.seat _ stand.seats (omega (arith, can.known))));
      scopes = rw c.mark_scope.ensures (scopes_entered past c.args.seat c.args.kind _ _ stand.scopes can.scope);
      no_other_scopes = no_other_scope past c.args.seat c.args.kind _ can.scope stand.no_other_scopes;
      jobs = rw c.mark_job.ensures (jobs_entered past c.args.seat c.args.kind _ _ stand.jobs can.job);
      phase = c.phase_after-self.ensures ∙ ap (λ now. phase_after now c.args.kind) stand.phase
          ∙ sym (phase_of_push past (entry_by c.args.seat c.args.kind));
      entries = omega (arith, stand.entries, long);
      few = omega (arith, can.roomy, long);
      few_tasks = stand.few_tasks;
      kept = stand.kept;
      posted = posted;
      out = out_entered plan past c.args.seat c.args.kind c.as_slice.result.now c.as_slice-2.result.now _ _ stand.out
          (rw c.as_slice.ensures.value stand.kept) (rw c.as_slice-2.ensures.value posted) c.first_unmarked-self.ensures;
    }
